use Rattle.std.proofs.Common.{◌≡◌, ◌+◌, ◌*◌, ◌%◌, ◌^◌, ◌<◌, ◌≤◌, ℕ, true, false, leb, None, length, get_or, sym, ap, ◌∙◌, subst, arith}
use lib.Bits.{bit_or}
use Rattle.std.proofs.lemmas.Bool.{le-leb, lt-leb}
use Rattle.std.proofs.lemmas.List.{get_or_past}
use Rattle.engine.specs.Cycle.{waiters}
use Rattle.engine.specs.Held.{slots, rules_by, no_instance, Demands, word_below}
use Rattle.engine.proofs.Fits.{within_is_scheduled}
use Rattle.engine.proofs.Picked.{Picked, picked_none, picked_stay, picked_more, picked_all}
use Rattle.engine.proofs.Waiters.{waiter_of}
use Rattle.engine.proofs.row_by_row.cycle.schedule.Goals as goal
use Rattle.engine.proofs.row_by_row.cycle.schedule.Goals.{then-demand-from, else-demand-from}

pub loop-k-init : goal.loop-k-init
loop-k-init g c = picked_none _ _ _

pub overflow_shl-word : goal.overflow_shl-word
overflow_shl-word g c =
    let t = slots c.args.rows.now in
    let all = c.gather.ensures.waiting in
    let inside : c.loop-k.k < length (waiters 32 t) = omega (arith, c.loop-k-test.true, ap length c.deref-demand-items.ensures.0, c.gather.ensures.long, ap length all) in
    omega (arith, ap (λ is. (get_or is c.loop-k.k no_instance).row) (c.deref.ensures.0 ∙ all), (waiter_of 32 t c.loop-k.k inside).inside)

pub loop-k-preserved : goal.loop-k-preserved
loop-k-preserved g c =
    let t = slots c.args.rows.now in
    let window = c.args.rules.now.window in
    let k = c.loop-k.k in
    let demands = c.deref-demand-items.result.now in
    let all = c.gather.ensures.waiting in
    let inside : k < length (waiters 32 t) = omega (arith, c.loop-k-test.true, ap length c.deref-demand-items.ensures.0, c.gather.ensures.long, ap length all) in
    let Done : ℕ → Type 0 = Picked demands window t (k + 1) in
    elim c.if-demand-from.branch [
      | then-demand-from w ↦
          let fits : leb (get_or demands k 0) window ≡ true = le-leb _ _ (omega (arith, w.if-demand-from.true, c.from.ensures)) in
          let row_is = ap (λ is. bit_or c.loop-k.word ((1 * 2 ^ (get_or is k no_instance).row) % 2 ^ 32)) (w.deref.ensures.0 ∙ all) in
          subst Done (sym (w.word-is ∙ row_is)) (picked_more demands window t k inside c.loop-k.word c.loop-k.invariant fits)
      | else-demand-from w ↦
          let not : leb (get_or demands k 0) window ≡ false = lt-leb _ _ (omega (arith, w.if-demand-from.false, c.from.ensures)) in
          subst Done (sym w.word-is) (picked_stay demands window t k inside c.loop-k.word c.loop-k.invariant not)
    ]

pub returns : goal.returns
returns g c =
    let t = slots c.args.rows.now in
    let rules = rules_by g.P.Policy.goes c.args.rules.now in
    let demands = c.deref-demand-items.result.now in
    let are = subst (λ ns. Demands rules.goes (waiters 32 t) ns) (sym c.deref-demand-items.ensures.0) c.gather.ensures.demands in
    let past : length (waiters 32 t) ≤ c.loop-k.k = omega (arith, c.loop-k-test.false, ap length c.deref-demand-items.ensures.0, c.gather.ensures.long, ap length c.gather.ensures.waiting) in
    picked_all demands rules.window t c.loop-k.k c.loop-k.word (omega arith) past c.loop-k.invariant
    ∙ ap (word_below 32) (within_is_scheduled rules t demands are (λ r h. get_or_past c.args.rows.now r None (omega arith)))
