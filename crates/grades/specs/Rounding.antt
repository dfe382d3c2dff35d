-- Sums and products of numbers that are cut off at m.
use Rattle.std.specs.Prelude.{◌≡◌, ℕ, ◌+◌, ◌*◌, ◌≤◌, min}
use Rattle.std.proofs.Common.{sym, ◌∙◌, ap, ⊎_elim, mul_comm, mul_assoc, mul-add, mul-le-mul, mul-le-mul_right, le-mul_of_pos_right, mul-zero, arith}
use Rattle.std.proofs.lemmas.Bool.{cases_lt}

-- a product may be cut off before it is multiplied again
pub cut_left : (m a b : ℕ) → min (min a m * b) m ≡ min (a * b) m
cut_left m a b =
    ⊎_elim (λ small. let e : min a m ≡ a = omega arith in ap (λ x. min (x * b) m) e)
    (λ large. let e : min a m ≡ m = omega arith in ap (λ x. min (x * b) m) e ∙ ⊎_elim (λ none. let z : b ≡ 0 = omega arith in ap (λ x. min (m * x) m) z ∙ ap (λ x. min x m) (mul-zero m ∙ sym (mul-zero a)) ∙ ap (λ x. min (a * x) m) (sym z)) (λ some. let h : m ≤ m * b = le-mul_of_pos_right m (omega arith) in let k : m * b ≤ a * b = mul-le-mul_right b large in omega arith) (cases_lt b 1))
    (cases_lt a m)

pub cut_right : (m a b : ℕ) → min (a * min b m) m ≡ min (a * b) m
cut_right m a b = ap (λ x. min x m) (mul_comm a (min b m)) ∙ cut_left m b a ∙ ap (λ x. min x m) (mul_comm b a)

pub cut_assoc : (m a b c : ℕ) → min (min (a * b) m * c) m ≡ min (a * min (b * c) m) m
cut_assoc m a b c = cut_left m (a * b) c ∙ ap (λ x. min x m) (mul_assoc a b c) ∙ sym (cut_right m a (b * c))

pub cut_distributes : (m a b c : ℕ) → min (a * min (b + c) m) m ≡ min (min (a * b) m + min (a * c) m) m
cut_distributes m a b c = cut_right m a (b + c) ∙ ap (λ x. min x m) (mul-add a b c) ∙ cut_sum (a * b) (a * c)
  where
    cut_sum : (x y : ℕ) → min (x + y) m ≡ min (min x m + min y m) m
    cut_sum x y = omega arith

pub cut_covers : (m a b c d : ℕ) → a ≤ b → c ≤ d → min (a * c) m ≤ min (b * d) m
cut_covers m a b c d h k = let l : a * c ≤ b * d = mul-le-mul h k in omega arith
