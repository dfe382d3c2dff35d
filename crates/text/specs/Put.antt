-- What writing does to a buffer, and what room it leaves. Assumes nothing.
use Rattle.std.specs.Prelude.{ℕ, ◌+◌, ◌-◌, cond, List, ◌++◌, length, take, drop, Some, None, Option, nat_le}

-- what is left of `room` bytes once n of them are written, or nothing where they do not fit
abbrev pub room_left : ℕ → ℕ → Option ℕ
room_left room n = cond (nat_le n room) (Some (room - n)) None

-- a buffer after the bytes w were written at a place: the bytes before and after them are as they were
abbrev pub overwritten : List ℕ → ℕ → List ℕ → List ℕ
overwritten buffer at w = take at buffer ++ (w ++ drop (at + length w) buffer)

-- what a writing answers (the place after it) with what it leaves: the buffer as it was where the bytes do not fit
abbrev pub put : List ℕ → ℕ → List ℕ → Option ℕ × List ℕ
put buffer at w = cond (nat_le (at + length w) (length buffer)) (Some (at + length w), overwritten buffer at w) (None, buffer)
