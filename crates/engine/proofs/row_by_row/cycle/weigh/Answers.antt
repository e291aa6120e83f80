use Rattle.std.proofs.Common.{◌≡◌, ℕ, ◌+◌, true, false, cond, List, get_or, sym, refl, ap, subst, arith}
use Rattle.engine.specs.Held.{no_instance, CountedIn}
use Rattle.engine.proofs.Loads.{load_none, load_more, counted_left, counted_added}
use Rattle.engine.proofs.row_by_row.cycle.weigh.Goals as goal
use Rattle.engine.proofs.row_by_row.cycle.weigh.Goals.{then-goes_before, else-goes_before}

pub loop-k-init : goal.loop-k-init
loop-k-init g c = (
  omega (arith, c.duration-added.ensures.value, load_none (g.P.Policy.goes c.args.policy.now) c.args.new),
  omega (arith, c.duration-added.ensures.bound),
  record { first = λ k h. absurd (omega arith); rest = λ k h. refl },
)

pub overflow_add-own : goal.overflow_add-own
overflow_add-own g c = omega (arith, c.loop-k.invariant.1, c.duration-own.ensures.bound)

pub loop-k-preserved : goal.loop-k-preserved
loop-k-preserved g c =
    let goes = g.P.Policy.goes c.args.policy.now in
    let other = get_or c.args.waiting.now c.loop-k.k no_instance in
    let more = load_more goes c.args.waiting.now c.loop-k.k no_instance c.args.new (omega arith) in
    let Done : List ℕ → Type 0 = CountedIn goes c.args.waiting.now c.args.new (c.loop-k.k + 1) c.args.demands.now in
    elim c.if-goes_before.branch [
      | then-goes_before w ↦
          let before : true ≡ goes other c.args.new = w.if-goes_before.ensures in (
            omega (arith, more, w.own-is, w.duration-own.ensures.value, c.loop-k.invariant.0, ap (λ b. cond b other.duration 0) before),
            omega (arith, w.own-is, w.duration-own.ensures.bound, c.loop-k.invariant.1),
            subst Done (sym w.demands-is) (counted_left goes _ _ _ c.loop-k.demands _ (sym before) c.loop-k.invariant.2),
          )
      | else-goes_before w ↦
          let after : false ≡ goes other c.args.new = w.if-goes_before.ensures in (
            omega (arith, more, w.own-is, c.loop-k.invariant.0, ap (λ b. cond b other.duration 0) after),
            omega (arith, w.own-is, c.loop-k.invariant.1),
            subst Done (sym w.demands-is) (counted_added goes _ _ _ c.loop-k.demands _ _ (omega arith) (omega (arith, c.duration-added.ensures.value)) (sym after) c.loop-k.invariant.2),
          )
    ]
