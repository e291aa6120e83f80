-- The first number that passes a test. Assumes nothing.
use Rattle.std.proofs.Common.{◌≡◌, ℕ, zero, suc, ◌+◌, ◌<◌, ◌≤◌, Bool, true, false, Some, None, Option, sym, refl, ap, ◌∙◌, ⊎_elim, arith}
use mathlib.Core.Path.{fun_ext}
use Rattle.std.proofs.lemmas.Bool.{cases_eq}
use Rattle.engine.specs.Rehearsal.{first_from}

-- a number that passes, among so many from one on, and none before it does
pub record First (tries from : ℕ) (test : ℕ → Bool) (m : ℕ) : Type 0 where
  pub above : from ≤ m
  pub below : m < from + tries
  pub passes : test m ≡ true
  pub least : (k : ℕ) → from ≤ k → k < m → test k ≡ false

abbrev pub Fails : (tries from : ℕ) → (ℕ → Bool) → Type 0
Fails tries from test = (k : ℕ) → from ≤ k → k < from + tries → test k ≡ false

-- what the first try decides
abbrev try : ℕ → ℕ → (ℕ → Bool) → Bool → Option ℕ
try tries from test b = elim b [ true ↦ Some from | false ↦ first_from tries (suc from) test ]

tried : (tries from : ℕ) (test : ℕ → Bool) (b : Bool) → test from ≡ b → first_from (suc tries) from test ≡ try tries from test b
unfolding first_from
tried tries from test b is = ap (try tries from test) is

none_is_some : {m : ℕ} → None ≡ Some m → ⊥
none_is_some e = let z : ◌≡◌ {A = ℕ} 0 1 = cc in omega arith

same_number : {m n : ℕ} → Some m ≡ Some n → m ≡ n
same_number e = cc

pub first_is : (tries from : ℕ) (test : ℕ → Bool) (m : ℕ) → First tries from test m → first_from tries from test ≡ Some m
first_is zero from test m f = absurd (omega (arith, f.above, f.below))
first_is (suc tries) from test m f =
    ⊎_elim
    (λ (same : from ≡ m). tried tries from test true (ap test same ∙ f.passes) ∙ ap Some same)
    (λ (apart : from ≡ m → ⊥).
    let later : suc from ≤ m = omega (arith, f.above) in
    tried tries from test false (f.least from (omega arith) later)
    ∙ first_is tries (suc from) test m
    (record { above = later; below = omega (arith, f.below); passes = f.passes; least = λ k l h. f.least k (omega arith) h }))
    (cases_eq from m)

pub first_fails : (tries from : ℕ) (test : ℕ → Bool) → Fails tries from test → first_from tries from test ≡ None
unfolding first_from
first_fails zero from test f = refl
first_fails (suc tries) from test f =
    tried tries from test false (f from (omega arith) (omega arith)) ∙ first_fails tries (suc from) test (λ k l h. f k (omega arith) (omega arith))

pub first_some : (tries from : ℕ) (test : ℕ → Bool) (m : ℕ) → first_from tries from test ≡ Some m → First tries from test m
unfolding first_from
first_some zero from test m e = absurd (none_is_some e)
first_some (suc tries) from test m e = go (test from) refl e (first_some tries (suc from) test m)
  where
    go : (b : Bool) → test from ≡ b → try tries from test b ≡ Some m → (first_from tries (suc from) test ≡ Some m → First tries (suc from) test m) → First (suc tries) from test m
    go true is e later =
        let same : from ≡ m = same_number e in
        record { above = omega arith; below = omega arith; passes = sym (ap test same) ∙ is; least = λ k l h. absurd (omega arith) }
    go false is e later =
        let f : First tries (suc from) test m = later e in
        record {
          above = omega (arith, f.above);
          below = omega (arith, f.below);
          passes = f.passes;
          least = λ k l h. ⊎_elim (λ (same : k ≡ from). ap test same ∙ is) (λ (apart : k ≡ from → ⊥). f.least k (omega arith) h) (cases_eq k from);
        }

pub first_none : (tries from : ℕ) (test : ℕ → Bool) → first_from tries from test ≡ None → Fails tries from test
unfolding first_from
first_none zero from test e k l h = absurd (omega arith)
first_none (suc tries) from test e k l h = go (test from) refl e (first_none tries (suc from) test)
  where
    go : (b : Bool) → test from ≡ b → try tries from test b ≡ None → (first_from tries (suc from) test ≡ None → Fails tries (suc from) test) → test k ≡ false
    go true is e later = absurd (none_is_some (sym e))
    go false is e later = ⊎_elim (λ (same : k ≡ from). ap test same ∙ is) (λ (apart : k ≡ from → ⊥). later e k (omega arith) (omega arith)) (cases_eq k from)

-- tests that answer alike
pub first_like : (tries from : ℕ) (test other : ℕ → Bool) → ((m : ℕ) → test m ≡ other m) → first_from tries from test ≡ first_from tries from other
first_like tries from test other same = ap (first_from tries from) (fun_ext same)
