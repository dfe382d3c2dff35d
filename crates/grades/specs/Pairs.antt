-- Pairings of two algebras, part by part, and their texts. Assumes nothing.
use Rattle.std.specs.Prelude.{ℕ, ◌+◌, Bool, cond, ◌&&◌, List, ◌++◌, length, drop, Some, None, codes, Option, ◌==◌, nat_le, nat_lt, slice_index}
use Rattle.grades.specs.declared.pairing.Pair.{Pair}
use Rattle.grades.specs.Texts.{bar}

abbrev pub paired : {A B : Type 0} → A → B → Pair A B
paired a b = record { first = a; second = b }

-- an operation on each part
abbrev pub pair_with : {A B : Type 0} → (A → A → A) → (B → B → B) → Pair A B → Pair A B → Pair A B
pair_with f g p q = paired (f p.first q.first) (g p.second q.second)

-- both parts cover
abbrev pub pair_covers : {A B : Type 0} → (A → A → Bool) → (B → B → Bool) → Pair A B → Pair A B → Bool
pair_covers f g q p = f q.first p.first && g q.second p.second

-- refused where either part is
abbrev pub both_left : {A B : Type 0} → Option A → Option B → Option (Pair A B)
both_left None b = None
both_left (Some a) None = None
both_left (Some a) (Some b) = Some (paired a b)

abbrev pub pair_taking : {A B : Type 0} → (A → Option A) → (B → Option B) → Pair A B → Option (Pair A B)
pair_taking f g p = both_left (f p.first) (g p.second)

-- the first text, `|`, the second text
abbrev pub pair_writing : {A B : Type 0} → (A → List ℕ) → (B → List ℕ) → Pair A B → List ℕ
pair_writing f g p = f p.first ++ (codes "|" ++ g p.second)

-- the pair of a first part, whose text has n bytes, with a second part that was read from the bytes after `|`
abbrev pub with_second : {A B : Type 0} → A → ℕ → List ℕ → Option (B × ℕ) → Option (Pair A B × ℕ)
with_second a n rest None = None
with_second a n rest (Some (b, m)) = cond (nat_le m (length rest)) (Some (paired a b, n + (1 + m))) None

-- what follows a first part that was read: `|` and a second part
abbrev pub from_first : {A B : Type 0} → (List ℕ → Option (B × ℕ)) → List ℕ → Option (A × ℕ) → Option (Pair A B × ℕ)
from_first g bs None = None
from_first g bs (Some (a, n)) = cond (nat_lt n (length bs) && slice_index bs n == bar) (with_second a n (drop (n + 1) bs) (g (drop (n + 1) bs))) None

-- the pair at the front of the bytes, with the length of its text
abbrev pub pair_reading : {A B : Type 0} → (List ℕ → Option (A × ℕ)) → (List ℕ → Option (B × ℕ)) → List ℕ → Option (Pair A B × ℕ)
pair_reading f g bs = from_first g bs (f bs)
