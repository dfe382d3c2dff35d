-- The text of a span, as `2..5` or `0..*`. Assumes nothing.
use Rattle.std.specs.Prelude.{ℕ, ◌+◌, Bool, cond, List, ◌++◌, take, drop, Some, None, codes, decimal, Option, ◌==◌, nat_le, slice_index}
use Rattle.std.specs.List.{prefix_len}
use Rattle.std.specs.Str.{bytes_eq}
use Rattle.text.specs.declared.scan.Class.TheVariants.{Digit}
use Rattle.text.specs.Decimals.{decimal_upto}
use Rattle.text.specs.Scan.{in_class}
use Rattle.grades.specs.declared.span.Span.{Span}
use Rattle.grades.specs.Spans.{most, no_limit, spanned}

-- an upper end: `*` for no limit
abbrev pub upper_writing : ℕ → List ℕ
upper_writing upper = cond (upper == no_limit) (codes "*") (decimal upper)

abbrev pub span_writing : Span → List ℕ
span_writing p = decimal p.lower ++ (codes ".." ++ upper_writing p.upper)

-- a number with the length of its text
abbrev pub with_length : Option ℕ → ℕ → Option (ℕ × ℕ)
with_length None n = None
with_length (Some v) n = Some (v, n)

-- how many digits stand at the front
abbrev pub digits_at : List ℕ → ℕ
digits_at bs = prefix_len (in_class Digit) bs

-- the number that the digits at the front write, up to 9,999, with their count
abbrev pub number_at : List ℕ → Option (ℕ × ℕ)
number_at bs = with_length (decimal_upto (take (digits_at bs) bs) most) (digits_at bs)

-- the upper end at the front: `*` or a number
abbrev pub upper_at : List ℕ → Option (ℕ × ℕ)
upper_at bs = cond (slice_index bs 0 == 42) (Some (no_limit, 1)) (number_at bs)

-- `..` stands at the front
abbrev pub dotted : List ℕ → Bool
dotted bs = bytes_eq (codes "..") (take 2 bs)

-- the span from a lower end, whose text has n bytes, to an upper end that was read after `..`
abbrev pub up_to : ℕ → ℕ → Option (ℕ × ℕ) → Option (Span × ℕ)
up_to lower n None = None
up_to lower n (Some (upper, m)) = cond (nat_le lower upper) (Some (spanned lower upper, n + (2 + m))) None

-- what follows a lower end that was read: `..` and an upper end
abbrev pub from_lower : List ℕ → Option (ℕ × ℕ) → Option (Span × ℕ)
from_lower bs None = None
from_lower bs (Some (lower, n)) = cond (dotted (drop n bs)) (up_to lower n (upper_at (drop 2 (drop n bs)))) None

-- the span at the front of the bytes, with the length of its text
abbrev pub span_reading : List ℕ → Option (Span × ℕ)
span_reading bs = from_lower bs (number_at bs)
