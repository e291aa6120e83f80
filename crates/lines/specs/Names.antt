-- Values that are known by their names. Assumes nothing.
use Rattle.std.specs.Prelude.{ℕ, List, Option}
use Rattle.std.specs.List.{find}
use Rattle.std.specs.Str.{bytes_eq}

-- the first of the values xs whose text is t
abbrev pub named : {X : Type 0} → (X → List ℕ) → List ℕ → List X → Option X
named text t xs = find (λ x. bytes_eq t (text x)) xs
