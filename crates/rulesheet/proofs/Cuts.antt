-- The first line of some bytes, from where the library finds the first end of line.
use Rattle.std.proofs.Common.{◌≡◌, ℕ, ◌+◌, ◌-◌, ◌≤◌, cond, ◌==◌, nat_lt, List, [], length, take, drop, Some, None, Option, sym, ap, ◌∙◌, arith}
use Rattle.std.specs.List.{position_or_len}
use Rattle.std.proofs.lemmas.List.{take_all, take_rest, drop_all}
use Rattle.std.proofs.lemmas.Grind.{common_steps}
use Rattle.rulesheet.specs.Lines.{line_length, first_line}

-- what `position` answers of the place n
abbrev place : List ℕ → ℕ → Option ℕ
place bytes n = cond (nat_lt n (length bytes)) (Some n) None

place_is : (bytes : List ℕ) (n end : ℕ) → Some end ≡ place bytes n → n ≡ end
place_is bytes n end e = grind (arith, common_steps)

place_past : (bytes : List ℕ) (n : ℕ) → None ≡ place bytes n → length bytes ≤ n
place_past bytes n e = grind (arith, common_steps)

-- the line ends at the first `\n`
pub cut_at : (bytes : List ℕ) (end : ℕ) → Some end ≡ place bytes (position_or_len (λ b. b == 10) bytes) → (take end bytes, take (length bytes - (end + 1)) (drop (end + 1) bytes)) ≡ first_line bytes
cut_at bytes end e =
    ap (λ x. (take end bytes, x)) (take_rest bytes (end + 1)) ∙ ap (λ n. (take n bytes, drop (n + 1) bytes)) (sym (place_is bytes (line_length bytes) end e))

-- there is no `\n`
pub cut_all : (bytes : List ℕ) → None ≡ place bytes (position_or_len (λ b. b == 10) bytes) → (bytes, []) ≡ first_line bytes
cut_all bytes e =
    let past = place_past bytes (line_length bytes) e in
    ap (λ x. (x, [])) (sym (take_all (line_length bytes) bytes past)) ∙ ap (λ y. (take (line_length bytes) bytes, y)) (sym (drop_all (line_length bytes + 1) bytes (omega arith)))
