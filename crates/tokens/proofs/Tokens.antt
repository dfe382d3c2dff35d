-- Where the runs of bytes that tokens are made of end, and how a number is read with its sign. Assumes nothing.
use Rattle.std.proofs.Common.{◌≡◌, ℕ, suc, ◌<◌, ◌≤◌, true, false, cond, List, [], ◌∷◌, length, get_or, drop, Option, ap, ◌∙◌, arith, length-drop, zero, ℤ, ⊎_elim, ◌+◌, ◌-◌, ◌≢◌, drop-cons, add-one, add-zero, eqb, take, Result, Err, sym, refl}
use Rattle.std.proofs.lemmas.Bool.{cond-false}
use Rattle.std.proofs.lemmas.Bool.Decides.{nat_tests}
use Rattle.text.specs.declared.scan.Class.{Class}
use Rattle.std.proofs.lemmas.List.Sums.{prefix_len-le-length}
use Rattle.text.specs.Scan.{in_class, run_end}
use Rattle.tokens.specs.declared.refusal.Fault.{Fault}
use Rattle.tokens.specs.declared.refusal.Refusal.TheVariants.{NoToken}
use Rattle.text.specs.Decimals.{integer_of, signed_integer}
use Rattle.std.specs.List.{between, prefix_len}
use Rattle.std.specs.Str.{bytes_eq}
use mir.Val.{bool_byte}
use Rattle.std.proofs.lemmas.Bool.{ne_eqb, eq-eqb, cases_eq, cond-true}
use Rattle.std.proofs.lemmas.List.{get_or-drop}
use Rattle.text.specs.declared.scan.Class.TheVariants.{Digit}
use Rattle.tokens.specs.Tokens.{Lexed, fault, number_of, number_at, negative_at, signed_at}

-- a run ends within the text
pub run_within : (class : Class) (text : List ℕ) (from : ℕ) → from ≤ length text → run_end class text from ≤ length text
run_within class text from h = omega (arith, prefix_len-le-length (in_class class) (drop from text), length-drop from text)

-- a `-` with some digits behind it is `-` alone just where there are none
lone : (k : ℕ) (rest : List ℕ) → k ≤ length rest → bytes_eq (45 ∷ take k rest) (45 ∷ []) ≡ eqb k 0
lone zero rest h = refl
lone (suc k) [] h = absurd (omega arith)
lone (suc k) (b ∷ rest) h = sym (ne_eqb (suc k) 0 (λ z. omega arith))

-- a part begins as what it is a part of
begins : (n : ℕ) (bs : List ℕ) → get_or (take n bs) 0 0 ≡ 45 → get_or bs 0 0 ≡ 45
begins zero bs e = absurd (omega arith)
begins (suc n) [] e = e
begins (suc n) (b ∷ bs) e = e

module _ {G : Type 0} (reading : List ℕ → Option (G × ℕ)) (text : List ℕ) (p : ℕ) where
  -- what the bytes of a number up to a place are read as
  abbrev pub signed_read : ℕ → Result (Lexed G) Fault
  signed_read e = cond (bytes_eq (between p e text) (45 ∷ [])) (Err (fault NoToken p)) (number_of reading text p e (signed_integer (between p e text)))

  -- a `-` and k digits
  read_minus : (k : ℕ) → p < length text → get_or text p 0 ≡ 45 → k ≤ length (drop (p + 1) text) → cond (eqb (p + 1 + k) (p + 1)) (Err (fault NoToken p)) (number_of reading text p (p + 1 + k) (integer_of (between (p + 1) (p + 1 + k) text) true)) ≡ signed_read (p + 1 + k)
  read_minus k inside minus fits =
      let none : eqb (p + 1 + k) (p + 1) ≡ eqb k 0 = grind (arith, nat_tests) in
      let longer : p + 1 + k - p ≡ suc k = omega arith in
      let long : p + 1 + k - (p + 1) ≡ k = omega arith in
      let all : drop p text ≡ 45 ∷ drop (p + 1) text = rw (← minus, add-one) (drop-cons text p 0 inside) in
      let whole : between p (p + 1 + k) text ≡ 45 ∷ take k (drop (p + 1) text) = ap (λ n. take n (drop p text)) longer ∙ ap (take (suc k)) all in
      let part : between (p + 1) (p + 1 + k) text ≡ take k (drop (p + 1) text) = ap (λ n. take n (drop (p + 1) text)) long in
      ap (λ t. cond t (Err (fault NoToken p)) (number_of reading text p (p + 1 + k) (integer_of (between (p + 1) (p + 1 + k) text) true))) (none ∙ sym (lone k (drop (p + 1) text) fits) ∙ ap (λ v. bytes_eq v (45 ∷ [])) (sym whole))
      ∙ ap (λ z. cond (bytes_eq (between p (p + 1 + k) text) (45 ∷ [])) (Err (fault NoToken p)) (number_of reading text p (p + 1 + k) z)) (ap (λ v. integer_of v true) part ∙ ap signed_integer (sym whole))

  read_negative : p < length text → get_or text p 0 ≡ 45 → negative_at reading text p ≡ signed_read (run_end Digit text (p + 1))
  read_negative inside minus = read_minus (prefix_len (in_class Digit) (drop (p + 1) text)) inside minus (prefix_len-le-length (in_class Digit) (drop (p + 1) text))

  read_plain : (e : ℕ) (w : List ℕ) → get_or w 0 0 ≢ 45 → number_of reading text p e (integer_of w false) ≡ cond (bytes_eq w (45 ∷ [])) (Err (fault NoToken p)) (number_of reading text p e (signed_integer w))
  read_plain e [] plain = refl
  read_plain e (b ∷ w) plain = rw (ne_eqb b 45 plain) refl

  read_number : get_or text p 0 ≢ 45 → number_at reading text p ≡ signed_read (run_end Digit text p)
  read_number plain = read_plain (run_end Digit text p) (between p (run_end Digit text p) text) (λ e. plain (sym (ap (λ i. get_or text i 0) (add-zero p)) ∙ sym (get_or-drop p text 0 0) ∙ begins _ (drop p text) e))

  -- a number, behind a `-` or not, up to the end of its digits
  signed_end : (d : ℕ) → p < length text → d ≡ bool_byte (eqb (get_or text p 0) 45) → signed_read (run_end Digit text (p + d)) ≡ signed_at reading text p
  signed_end d inside sign =
      ⊎_elim (λ minus. let one : p + d ≡ p + 1 = grind (arith, nat_tests) in
      ap (λ i. signed_read (run_end Digit text i)) one ∙ sym (read_negative inside minus) ∙ sym (cond-true _ _ _ (eq-eqb _ _ minus)))
      (λ plain. let none : p + d ≡ p = grind (arith, nat_tests) in
      ap (λ i. signed_read (run_end Digit text i)) none ∙ sym (read_number plain) ∙ sym (cond-false _ _ _ (ne_eqb _ _ plain)))
      (cases_eq (get_or text p 0) 45)

  -- bytes other than `-` alone are read as what they write
  pub read_signed : (d e : ℕ) (z : Option ℤ) → p < length text → d ≡ bool_byte (eqb (get_or text p 0) 45) → e ≡ run_end Digit text (p + d) → false ≡ bytes_eq (between p e text) (45 ∷ []) → z ≡ signed_integer (between p e text) → number_of reading text p e z ≡ signed_at reading text p
  read_signed d e z inside sign end more value =
      ap (number_of reading text p e) value ∙ sym (cond-false _ _ _ (sym more)) ∙ ap signed_read end ∙ signed_end d inside sign
