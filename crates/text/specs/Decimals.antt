-- Decimal numbers, as their digits write them. Assumes nothing.
use Rattle.std.specs.Prelude.{ℕ, zero, suc, Bool, true, false, cond, not, ◌&&◌, List, [], ◌∷◌, drop, ℤ, pos, negsuc, Some, None, Option, ◌==◌, nat_le, slice_index}
use Rattle.std.specs.Str.Parse.{digits_value}
use Rattle.std.specs.Str.{all_ascii_digits}

-- one byte or more, and no `0` leads others
abbrev pub plain : List ℕ → Bool
plain [] = false
plain (b ∷ []) = true
plain (b ∷ c ∷ ds) = not (b == 48)

-- the number that ds writes in decimal, with no leading zeros, or nothing where it is above the limit
abbrev pub decimal_upto : List ℕ → ℕ → Option ℕ
decimal_upto ds limit = cond (all_ascii_digits ds && (plain ds && nat_le (digits_value 10 ds) limit)) (Some (digits_value 10 ds)) None

-- a number as it is, and a number below zero, which `-0` is not
abbrev pub natural : Option ℕ → Option ℤ
natural None = None
natural (Some n) = Some (pos n)

abbrev pub negative : Option ℕ → Option ℤ
negative None = None
negative (Some zero) = None
negative (Some (suc n)) = Some (negsuc n)

-- the signed number of 32 bits that ds writes, with a `-` before it or without
abbrev pub integer_of : List ℕ → Bool → Option ℤ
integer_of ds false = natural (decimal_upto ds 2147483647)
integer_of ds true = negative (decimal_upto ds 2147483648)

-- the signed number of 32 bits that a text writes: digits, `-` before them or not, no leading zero and no `-0`
abbrev pub signed_integer : List ℕ → Option ℤ
signed_integer w = cond (slice_index w 0 == 45) (integer_of (drop 1 w) true) (integer_of w false)
