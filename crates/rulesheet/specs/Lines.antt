-- The first line of some bytes. Assumes nothing.
use Rattle.std.specs.Prelude.{ℕ, ◌+◌, not, List, take, drop, ◌==◌}
use Rattle.std.specs.List.{prefix_len}

-- how many bytes stand before the first end of line
abbrev pub line_length : List ℕ → ℕ
line_length = prefix_len (λ b. not (b == 10))

-- the bytes before the first end of line, and those after it
abbrev pub first_line : List ℕ → List ℕ × List ℕ
first_line bytes = (take (line_length bytes) bytes, drop (line_length bytes + 1) bytes)
