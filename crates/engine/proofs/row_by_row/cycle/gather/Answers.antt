use Rattle.std.proofs.Common.{◌≡◌, ℕ, ◌+◌, ◌*◌, ◌<◌, ◌≤◌, ◌≢◌, ◌∷◌, ◌++◌, [], List, length, get_or, take, drop, sym, ap, ◌∙◌, arith}
use Rattle.std.specs.List.{refill}
use Rattle.std.proofs.Math.Seq.{take-append_seam}
use Rattle.engine.specs.Cycle.{waiter}
use Rattle.engine.specs.Held.{slots, no_instance, demand, CountedIn}
use Rattle.engine.proofs.Loads.{gathered_none, gathered_push}
use Rattle.engine.proofs.Waiters.{waiters_none, waiters_stay, waiters_push, length_waiters, row_apart}
use Rattle.engine.proofs.row_by_row.cycle.gather.Goals as goal
use Rattle.engine.proofs.row_by_row.cycle.gather.Goals.{in-Some, in_default}

-- what has as many elements takes the place of all
refilled : (old new : List ℕ) → length new ≡ length old → refill (length old) old new ≡ new
refilled old new long = ap (λ n. take n (new ++ drop (length new) old)) (sym long) ∙ take-append_seam new (drop (length new) old)

pub loop-r-init : goal.loop-r-init
loop-r-init g c = (
  c.requires.waiting ∙ sym (waiters_none (slots c.args.rows.now)),
  rw (c.requires.waiting, c.requires.demands) (gathered_none (g.P.Policy.goes c.args.policy.now)),
)

pub weigh-own-requires-clause-room : goal.weigh-own-requires-clause-room
weigh-own-requires-clause-room g c =
    omega (arith, ap length c.deref.ensures.0, ap length c.loop-r.invariant.0, length_waiters c.loop-r.r (slots c.args.rows.now))

pub push-requires : goal.push-requires
push-requires g c =
    let few = length_waiters c.loop-r.r (slots c.args.rows.now) in
    let long = refilled c.loop-r.demands.items c.weigh-own.new.demands (omega (arith, c.weigh-own.ensures.long, ap length c.deref_mut.ensures.value)) in
    (omega arith, omega (arith, ap length long, c.weigh-own.ensures.long, ap length c.deref_mut.ensures.value, c.loop-r.invariant.1.long, ap length c.loop-r.invariant.0, few))

pub push-requires-in-Some : goal.push-requires-in-Some
push-requires-in-Some g c = (omega arith, omega (arith, ap length c.loop-r.invariant.0, length_waiters c.loop-r.r (slots c.args.rows.now)))

pub loop-r-preserved : goal.loop-r-preserved
loop-r-preserved g c =
    let goes = g.P.Policy.goes c.args.policy.now in
    let t = slots c.args.rows.now in
    let r = c.loop-r.r in
    let is = c.loop-r.invariant.0 in
    let so_far = c.loop-r.invariant.1 in
    elim c.match-waiting_instance.branch [
      | in-Some w ↦
          let x = w.in-Some.new in
          let adds : x ∷ [] ≡ waiter r (t r) = w.in-Some.ensures in
          let all = c.loop-r.waiting.items in
          let numbers = c.loop-r.demands.items in
          let between = w.weigh-own.new.demands in
          let own = w.weigh-own.result in
          let apart : (k : ℕ) → k < length all → (get_or all k no_instance).row ≢ x.row = rw is (row_apart r t x adds) in
          let long : length between ≡ length numbers = w.weigh-own.ensures.long ∙ ap length w.deref_mut.ensures.value in
          let counted : CountedIn goes all x (length all) numbers between = rw (w.deref.ensures.0, w.deref_mut.ensures.value) at w.weigh-own.ensures.others in
          let needs : own ≡ demand goes all x = rw w.deref.ensures.0 at w.weigh-own.ensures.own in
          let small : own ≤ 255 * (length all + 1) = rw w.deref.ensures.0 at w.weigh-own.ensures.own_bound in
          let bounds : (k : ℕ) → k < length between → get_or between k 0 ≤ 255 * (length all + 1) = rw w.deref.ensures.0 at w.weigh-own.ensures.bound in
          let waiting_is : c.match-waiting_instance.waiting.items ≡ all ++ x ∷ [] = ap (λ v. v.items) w.waiting-is ∙ w.push-in-Some.ensures.items in
          let demands_are : c.match-waiting_instance.demands.items ≡ between ++ own ∷ [] =
          ap (λ v. v.items) w.demands-is ∙ w.push.ensures.items ∙ ap (λ ns. ns ++ own ∷ []) (refilled numbers between long) in (
            waiting_is ∙ ap (λ is. is ++ x ∷ []) is ∙ sym (waiters_push r t x adds),
            rw (waiting_is, demands_are) (gathered_push goes (g.met.P.Policy.lawful c.args.policy.now) all x apart numbers so_far between own long counted needs small bounds),
          )
      | in_default w ↦ (ap (λ v. v.items) w.waiting-is ∙ is ∙ sym (waiters_stay r t w.in_default.ensures), rw (w.waiting-is, w.demands-is) so_far)
    ]
