-- What checks that are passed and a rehearsal come to. Assumes nothing.
use Rattle.std.proofs.Common.{◌≡◌, ℕ, List, [], ◌∷◌, Some, None, Err, Option, refl}
use Rattle.std.specs.Option.{option_map}
use Rattle.bus.specs.Refusals.{Told, numbered}
use Rattle.orders.specs.Laws.{Order}
use Rattle.engine.specs.declared.verdict.Verdict.{Verdict}
use Rattle.engine.specs.Rehearsal.{round, verdict}
use Rattle.engine.specs.Rehearsal as rehearsal
use Rattle.rules.specs.Calls.{State, Outcome, first_refusal, rules_of, judged, rehearsed}

-- two checks that are passed
pub past : {P : Type 0} {a b : Option Told} → None ≡ a → None ≡ b → (rest : List (Option Told)) (out : Outcome P)
    → elim (first_refusal rest) as (λ _. Outcome P) [ Some told ↦ Err told | None ↦ out ] ≡ elim (first_refusal (a ∷ b ∷ rest)) as (λ _. Outcome P) [ Some told ↦ Err told | None ↦ out ]
past first second rest out = rw (← first, ← second)

module _ {P : Type 0} (goes : P → Order) (s : State P) where
  -- what a rehearsal's verdict comes to
  abbrev pub by_verdict : Option Verdict → Outcome P
  by_verdict None = Err (numbered 6 [])
  by_verdict (Some v) = judged goes 32 5040 s v

  pub rehearsed_by : rehearsed goes 32 5040 s ≡ by_verdict (rehearsal.rehearsed (rules_of goes 32 5040 s) 5040 s.slots)
  unfolding rehearsed
  rehearsed_by = by_round (round 5040 32 s.slots)
    where
      by_round : (m : Option ℕ) → elim m as (λ _. Outcome P) [ None ↦ Err (numbered 6 []) | Some m ↦ judged goes 32 5040 s (verdict (rules_of goes 32 5040 s) m s.slots) ] ≡ by_verdict (option_map (λ m. verdict (rules_of goes 32 5040 s) m s.slots) m)
      by_round None = refl
      by_round (Some m) = refl
