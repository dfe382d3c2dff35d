-- The first entries of a list, the last of them first. Assumes nothing.
use Rattle.std.specs.Prelude.{ℕ, zero, suc, List, [], ◌∷◌, slice_index_or}

-- of the first n entries; d stands past the end of the list
abbrev pub newest : {X : Type 0} → X → List X → ℕ → List X
newest d xs zero = []
newest d xs (suc n) = slice_index_or xs n d ∷ newest d xs n
