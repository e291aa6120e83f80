use Rattle.std.proofs.Common.{◌≡◌, ℕ, ◌^◌, ◌<◌, Bool, true, false, cond, eqb, List, map, length, refl, ap, ◌∙◌, subst, arith, w8}
use lib.Lanes.{mask_l}
use Rattle.std.proofs.lemmas.Simd.{bitmask_splat, bit_mask_l, mask_l-lt}
use Rattle.std.proofs.lemmas.List.{get_or-map, length-map}
use Rattle.bus.specs.Rows.{member}
use Rattle.engine.proofs.columns.counting.rows_with.Goals as goal

is_set : (b : Bool) → eqb (cond b 1 0) 1 ≡ b
is_set true = refl
is_set false = refl

mask : (xs : List ℕ) (value : ℕ) → length xs ≡ 32 → mask_l (map (λ x. eqb x value) xs) < 2 ^ 32
mask xs value long = subst (λ n. mask_l (map (λ x. eqb x value) xs) < 2 ^ n) (length-map xs (λ x. eqb x value) ∙ long) (mask_l-lt (map (λ x. eqb x value) xs))

pub overflow_cast-result : goal.overflow_cast-result
overflow_cast-result c = omega (arith, bitmask_splat w8 eqb c.args.cycles.now 32 c.args.value c.told-cycles (omega arith), mask c.args.cycles.now c.args.value c.told-cycles)

pub returns : goal.returns
returns c =
    λ k h.
    ap (λ w. member w k) (bitmask_splat w8 eqb c.args.cycles.now 32 c.args.value c.told-cycles (omega arith))
    ∙ ap (λ n. eqb n 1) (bit_mask_l (map (λ x. eqb x c.args.value) c.args.cycles.now) k)
    ∙ is_set _
    ∙ get_or-map (λ x. eqb x c.args.value) c.args.cycles.now k 0 false (omega arith)
