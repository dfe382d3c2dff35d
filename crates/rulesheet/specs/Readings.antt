-- The numbers that a line writes. Assumes nothing.
use Rattle.std.specs.Prelude.{ℕ, Bool, cond, ◌||◌, List, [], ◌∷◌, ◌++◌, ℤ, Some, None, Option, ◌==◌}
use Rattle.text.specs.Decimals.{signed_integer}

-- a space or a carriage return
abbrev pub blank : ℕ → Bool
blank b = b == 32 || b == 13

-- the number of 32 bits that a word writes: digits, `-` before them or not, no leading zero and no `-0`
abbrev pub reading : List ℕ → Option ℤ
reading w = signed_integer w

-- a number before others
abbrev pub before : Option ℤ → Option (List ℤ) → Option (List ℤ)
before None rest = None
before (Some z) None = None
before (Some z) (Some zs) = Some (z ∷ zs)

-- the number of a word that ends here, if it has any byte, before others
abbrev pub ended : List ℕ → Option (List ℤ) → Option (List ℤ)
ended [] rest = rest
ended (b ∷ w) rest = before (reading (b ∷ w)) rest

-- the numbers of the bytes, of which the first word goes on from the bytes w
abbrev pub readings_after : List ℕ → List ℕ → Option (List ℤ)
readings_after w [] = ended w (Some [])
readings_after w (b ∷ bs) = cond (blank b) (ended w (readings_after [] bs)) (readings_after (w ++ b ∷ []) bs)

-- the numbers of a line, in order, or nothing where a word of it is no number
abbrev pub readings : List ℕ → Option (List ℤ)
readings line = readings_after [] line
