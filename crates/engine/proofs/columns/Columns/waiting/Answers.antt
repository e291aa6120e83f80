use Rattle.std.proofs.Common.{◌≡◌, ℕ, zero, suc, ◌^◌, ◌<◌, Bool, true, false, cond, not, eqb, ltb, List, map, length, get_or, sym, refl, ap, ◌∙◌, subst, arith, w8}
use lib.Lanes.{mask_l}
use Rattle.std.proofs.lemmas.Simd.{bitmask_splat, bit_mask_l, mask_l-lt}
use Rattle.std.proofs.lemmas.List.{get_or-map, length-map}
use Rattle.std.proofs.lemmas.Bool.{lt-ltb, ne_eqb}
use Rattle.bus.specs.Rows.{member}
use Rattle.engine.proofs.columns.Columns.waiting.Goals as goal

is_set : (b : Bool) → eqb (cond b 1 0) 1 ≡ b
is_set true = refl
is_set false = refl

nonzero : (n : ℕ) → not (eqb n 0) ≡ ltb 0 n
nonzero zero = refl
nonzero (suc n) = ap not (ne_eqb (suc n) 0 (λ e. omega arith)) ∙ sym (lt-ltb 0 (suc n) (omega arith))

mask : (xs : List ℕ) (value : ℕ) → length xs ≡ 32 → mask_l (map (λ x. not (eqb x value)) xs) < 2 ^ 32
mask xs value long = subst (λ n. mask_l (map (λ x. not (eqb x value)) xs) < 2 ^ n) (length-map xs (λ x. not (eqb x value)) ∙ long) (mask_l-lt (map (λ x. not (eqb x value)) xs))

pub overflow_cast-word : goal.overflow_cast-word
overflow_cast-word c = omega (arith, bitmask_splat w8 (λ a b. not (eqb a b)) c.args.self.now.lefts 32 0 c.args.self.now.in_step.lefts_long (omega arith), mask c.args.self.now.lefts 0 c.args.self.now.in_step.lefts_long)

pub returns : goal.returns
returns c =
    λ k h.
    ap (λ w. member w k) (bitmask_splat w8 (λ a b. not (eqb a b)) c.args.self.now.lefts 32 0 c.args.self.now.in_step.lefts_long (omega arith))
    ∙ ap (λ n. eqb n 1) (bit_mask_l (map (λ x. not (eqb x 0)) c.args.self.now.lefts) k)
    ∙ is_set _
    ∙ get_or-map (λ x. not (eqb x 0)) c.args.self.now.lefts k 0 false (omega arith)
    ∙ nonzero (get_or c.args.self.now.lefts k 0)
