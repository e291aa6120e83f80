-- How many instances a message has released, by the wait for the next one. Assumes nothing.
use Rattle.std.proofs.Common.{◌≡◌, ℕ, zero, suc, ◌+◌, ◌-◌, ◌*◌, ◌/◌, ◌<◌, ◌≤◌, leb, sym, ap, ◌∙◌, ⊎_elim, suc-mul, le-div_iff_mul-le, zero-mul, arith}
use Rattle.std.proofs.lemmas.Nat.{div-mul-add}
use Rattle.std.proofs.lemmas.Bool.{cases_lt, cond-true, cond-false, le-leb, lt-leb}
use Rattle.engine.specs.declared.row.Figures.{Figures}
use Rattle.rules.specs.Ledger.{releases, ReleasedThere}

-- the instance after the k-th is released when n cycles and the wait are over
pub releases_by_wait : (f : Figures) (n w k : ℕ) → n + w ≡ f.phase + k * f.period → (1 ≤ k → w < f.period) → releases f n ≡ k
releases_by_wait f n w zero place turned =
    let none = zero-mul f.period in
    cond-true (leb n f.phase) 0 (1 + (n - f.phase - 1) / f.period) (le-leb n f.phase (omega arith))
releases_by_wait f n w (suc k) place turned =
    let p = f.period in
    let low : w < p = turned (omega arith) in
    let more : suc k * p ≡ k * p + p = suc-mul k p in
    let past : n - f.phase - 1 ≡ k * p + (p - 1 - w) = omega arith in
    let turns : (n - f.phase - 1) / p ≡ k = ap (λ x. x / p) past ∙ div-mul-add k p (p - 1 - w) (omega arith) in
    cond-false (leb n f.phase) 0 (1 + (n - f.phase - 1) / p) (lt-leb n f.phase (omega arith)) ∙ omega arith

-- a period less
pub one_less : (k p : ℕ) → 1 ≤ k → k * p ≡ (k - 1) * p + p
one_less zero p h = absurd (omega arith)
one_less (suc k) p h = let same : suc k - 1 ≡ k = omega arith in suc-mul k p ∙ ap (λ j. j * p + p) (sym same)

-- instance j is released in its release cycle
pub released_there : ReleasedThere
released_there f pos j n some =
    ⊎_elim
    (λ (late : f.phase < n).
    let q = (n - f.phase - 1) / f.period in
    let more : releases f n ≡ 1 + q = cond-false (leb n f.phase) 0 (1 + q) (lt-leb n f.phase late) in
    let turns = le-div_iff_mul-le {k = f.period} {x = j - 1} {y = n - f.phase - 1} pos in
    ((λ h. omega (arith, turns.0 (omega arith))), (λ h. omega (arith, turns.1 (omega arith)))))
    (λ (early : n ≤ f.phase).
    let none : releases f n ≡ 0 = cond-true (leb n f.phase) 0 (1 + (n - f.phase - 1) / f.period) (le-leb n f.phase early) in
    ((λ h. absurd (omega arith)), (λ h. absurd (omega arith))))
    (cases_lt f.phase n)
