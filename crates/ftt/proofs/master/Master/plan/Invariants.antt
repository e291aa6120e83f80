use Rattle.std.proofs.Common.{◌≡◌, ℕ, ◌<◌, get_or}
use Rattle.engine.specs.Cycle.{word, after}
use Rattle.engine.specs.Held.{slots, rules_of}
use Rattle.ftt.proofs.master.Master.plan.Given as goal

abbrev pub invariant-loop-word : goal.invariant-loop-word
invariant-loop-word g l =
    let rules = rules_of (g.P.Policy.goes l.self.policy) l.self.window in
    (slots l.rows ≡ after rules l.word-index (slots l.self.rows))
    × ((k : ℕ) → k < l.word-index → get_or l.words k 0 ≡ word rules (after rules k (slots l.self.rows)))
