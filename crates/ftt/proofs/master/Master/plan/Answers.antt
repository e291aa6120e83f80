use Rattle.std.proofs.Common.{◌≡◌, ℕ, ◌+◌, ◌<◌, ◌≢◌, List, length, get_or, set, sym, refl, ap, ◌∙◌, arith, below_more}
use Rattle.std.proofs.lemmas.List.{get_or-set_same, get_or-set_other}
use Rattle.engine.specs.Cycle.{Slots, Rules, cycle, word, after}
use Rattle.engine.specs.Held.{slots, rules_of}
use Rattle.engine.proofs.Calm.{after_add}
use Rattle.ftt.proofs.master.Master.plan.Goals as goal

-- the first n words are planned
abbrev PlannedBelow : Rules → Slots → ℕ → List ℕ → Type 0
PlannedBelow rules t n words = (k : ℕ) → k < n → get_or words k 0 ≡ word rules (after rules k t)

-- the table after k cycles, and one more
one_more : (rules : Rules) (t now next : Slots) (k : ℕ) → now ≡ after rules k t → next ≡ cycle rules now → next ≡ after rules (k + 1) t
unfolding after
one_more rules t now next k so_far is = is ∙ ap (cycle rules) so_far ∙ sym (after_add rules k 1 t)

one_planned : (rules : Rules) (t now : Slots) (words : List ℕ) (i w : ℕ) → i < length words → now ≡ after rules i t → w ≡ word rules now → PlannedBelow rules t i words
    → PlannedBelow rules t (i + 1) (set words i w)
one_planned rules t now words i w within so_far is planned =
    below_more _ i (λ k h. let ne : k ≢ i = omega arith in get_or-set_other words i k w 0 ne ∙ planned k h) (get_or-set_same words i w 0 within ∙ is ∙ ap (word rules) so_far)

pub loop-word-init : goal.loop-word-init
unfolding after
loop-word-init g c = (refl, λ k h. absurd (omega arith))

pub loop-word-preserved : goal.loop-word-preserved
loop-word-preserved g c =
    let rules = rules_of (g.P.Policy.goes c.args.self.now.policy) c.args.self.now.window in
    let t = slots c.args.self.now.rows in
    let now = slots c.loop-word.rows in (
      one_more rules t now (slots c.run_cycle.new.rows) c.loop-word.word-index c.loop-word.invariant.0 c.run_cycle.ensures.after,
      one_planned rules t now c.loop-word.words c.loop-word.word-index c.run_cycle.result.schedule.word (omega arith) c.loop-word.invariant.0 c.run_cycle.ensures.word c.loop-word.invariant.1,
    )
