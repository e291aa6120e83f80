-- How a text grows. Assumes nothing.
use Rattle.std.specs.Prelude.{ℕ, List, ◌++◌, take}

-- more at the end of a text that has so much room; what comes after that is let go
abbrev pub grown : ℕ → List ℕ → List ℕ → List ℕ
grown room text more = take room (text ++ more)
