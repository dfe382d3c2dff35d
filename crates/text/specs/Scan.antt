-- Classes of bytes, and where a run of them ends. Assumes nothing.
use Rattle.std.specs.Prelude.{ℕ, ◌+◌, Bool, not, ◌||◌, List, drop, ◌==◌}
use Rattle.std.specs.Int.{is_in_range}
use Rattle.std.specs.List.{prefix_len}
use Rattle.text.specs.declared.scan.Class.{Class}
use Rattle.text.specs.declared.scan.Class.TheVariants.{Blank, Digit, Wordy, Inside}

-- spaces and ends of lines; digits; letters, digits and `_`; all but `}`
abbrev pub in_class : Class → ℕ → Bool
in_class Blank b = b == 32 || (b == 10 || b == 13)
in_class Digit b = is_in_range 48 57 b
in_class Wordy b = is_in_range 97 122 b || (is_in_range 65 90 b || (is_in_range 48 57 b || b == 95))
in_class Inside b = not (b == 125)

-- the first place at or after `from` whose byte is not of the class
abbrev pub run_end : Class → List ℕ → ℕ → ℕ
run_end class text from = from + prefix_len (in_class class) (drop from text)
