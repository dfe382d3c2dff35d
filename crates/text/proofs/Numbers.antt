-- The number that digits write, digit by digit.
use Rattle.std.proofs.Common.{◌≡◌, ℕ, ◌+◌, ◌-◌, ◌*◌, ◌^◌, ◌<◌, ◌≤◌, Bool, true, false, cond, ◌&&◌, leb, List, [], ◌∷◌, length, get_or, drop, Some, None, decimal, Option, sym, refl, ap, ◌∙◌, ⊎_elim, arith}
use Rattle.std.specs.Str.Parse.{digits_value, digits_value_after}
use Rattle.std.specs.Int.{is_in_range}
use Rattle.std.specs.Char.{digit_value}
use Rattle.std.specs.Str.{all_ascii_digits}
use Rattle.std.proofs.lemmas.List.{at_drop_more, at_drop_all}
use Rattle.std.proofs.lemmas.Bool.{cond-true, cond-false, false≢true, le-leb, lt-leb, and_right, and_left, and_from, and_parts, not-true, not_from_false, ne_eqb, eqb-false, leb-true, cases_lt}
use Rattle.std.proofs.lemmas.Str.Parse.{IsNumeralModel, numerals_by_value, tells_all_ascii_digits}
use Rattle.std.proofs.lemmas.Fmt.{decimal_digit, decimal_nonempty, decimal-digits_value, digits_decimal, first_decimal, digits_value-decimal}
use Rattle.std.proofs.lemmas.Bool.Decides.{nat_tests}
use Rattle.text.specs.Decimals.{plain, decimal_upto}

-- what a number n and the digits after it write, up to a limit
abbrev pub upto_after : ℕ → ℕ → List ℕ → Option ℕ
upto_after limit n ds = cond (all_ascii_digits ds && leb (digits_value_after 10 n ds) limit) (Some (digits_value_after 10 n ds)) None

pub digit_is : (b : ℕ) → is_in_range 48 57 b ≡ true → digit_value b ≡ b - 48
digit_is b t = grind (arith, nat_tests)

-- more digits make no smaller number
pub value_grows : (n : ℕ) (ds : List ℕ) → n ≤ digits_value_after 10 n ds
value_grows n [] = omega arith
value_grows n (b ∷ ds) = let h : n * 10 + digit_value b ≤ digits_value_after 10 (n * 10 + digit_value b) ds = value_grows (n * 10 + digit_value b) ds in omega arith

-- a digit goes into the number
pub after_digit : (limit n b : ℕ) (ds : List ℕ) → is_in_range 48 57 b ≡ true → upto_after limit n (b ∷ ds) ≡ upto_after limit (n * 10 + (b - 48)) ds
after_digit limit n b ds t = known (is_in_range 48 57 b) (all_ascii_digits ds) (digit_value b) (b - 48) t (digit_is b t)
  where
    known : (w a : Bool) (d e : ℕ) → w ≡ true → d ≡ e → cond ((w && a) && leb (digits_value_after 10 (n * 10 + d) ds) limit) (Some (digits_value_after 10 (n * 10 + d) ds)) None ≡ cond (a && leb (digits_value_after 10 (n * 10 + e) ds) limit) (Some (digits_value_after 10 (n * 10 + e) ds)) None
    known true a d e t s = ap (λ x. cond (a && leb (digits_value_after 10 (n * 10 + x) ds) limit) (Some (digits_value_after 10 (n * 10 + x) ds)) None) s
    known false a d e t s = absurd (false≢true t)

pub after_more : (limit n m : ℕ) (ds : List ℕ) (i : ℕ) → i < length ds → is_in_range 48 57 (get_or ds i 0) ≡ true → m ≡ n * 10 + (get_or ds i 0 - 48) → upto_after limit n (drop i ds) ≡ upto_after limit m (drop (i + 1) ds)
after_more limit n m ds i h t e = at_drop_more (upto_after limit n) ds i 0 h ∙ after_digit limit n (get_or ds i 0) (drop (i + 1) ds) t ∙ ap (λ x. upto_after limit x (drop (i + 1) ds)) (sym e)

-- a byte that is no digit
pub after_other : (limit n : ℕ) (ds : List ℕ) (i : ℕ) → i < length ds → is_in_range 48 57 (get_or ds i 0) ≡ false → upto_after limit n (drop i ds) ≡ None
after_other limit n ds i h t = at_drop_more (upto_after limit n) ds i 0 h ∙ cond-false _ _ _ (and_left _ _ (and_left _ _ t))

pub after_above : (limit n : ℕ) (ds : List ℕ) → limit < n → upto_after limit n ds ≡ None
after_above limit n ds h = cond-false _ _ _ (and_right (all_ascii_digits ds) _ (lt-leb (digits_value_after 10 n ds) limit (omega (arith, value_grows n ds))))

pub after_all : (limit n : ℕ) (ds : List ℕ) (i : ℕ) → length ds ≤ i → n ≤ limit → upto_after limit n (drop i ds) ≡ Some n
after_all limit n ds i h l = at_drop_all (upto_after limit n) ds i h ∙ cond-true _ _ _ (le-leb n limit l)

pub plain_from : (ds : List ℕ) → 0 < length ds → (1 < length ds → get_or ds 0 0 ≡ 48 → ⊥) → plain ds ≡ true
plain_from [] h k = absurd (omega arith)
plain_from (b ∷ []) h k = refl
plain_from (b ∷ c ∷ ds) h k = not_from_false _ (ne_eqb b 48 (k (omega arith)))

-- the digits, with no leading zeros, write their value
pub upto_plain : (ds : List ℕ) (limit : ℕ) → 0 < length ds → (1 < length ds → get_or ds 0 0 ≡ 48 → ⊥) → decimal_upto ds limit ≡ upto_after limit 0 ds
upto_plain ds limit h k = ap (λ p. cond (all_ascii_digits ds && (p && leb (digits_value 10 ds) limit)) (Some (digits_value 10 ds)) None) (plain_from ds h k)

pub plain_parts : (ds : List ℕ) → plain ds ≡ true → (0 < length ds) × (get_or ds 0 0 ≡ 48 → length ds ≡ 1)
plain_parts [] t = absurd (false≢true t)
plain_parts (b ∷ []) t = (omega arith, λ _. refl)
plain_parts (b ∷ c ∷ ds) t = (omega arith, λ z. absurd (eqb-false b 48 (not-true _ t) z))

own : IsNumeralModel (λ ds. all_ascii_digits ds ≡ true) (digits_value 10)
own = numerals_by_value _ tells_all_ascii_digits

pub plain_decimal : (n : ℕ) → n < 2 ^ 64 → plain (decimal n) ≡ true
plain_decimal n small =
    plain_from (decimal n) (decimal_nonempty n small)
    (λ two zero. ⊎_elim (λ one. let e = ap length (decimal_digit n one) in absurd (omega arith)) (λ more. let f = first_decimal n (omega arith) small in absurd (omega arith)) (cases_lt n 10))

pub decimal_digits : (n : ℕ) → n < 2 ^ 64 → all_ascii_digits (decimal n) ≡ true
decimal_digits n small = digits_decimal own n small

-- digits are read as n, up to a limit, exactly when they are n in decimal
pub upto_decimal : (n limit : ℕ) → n ≤ limit → limit < 2 ^ 64 → decimal_upto (decimal n) limit ≡ Some n
upto_decimal n limit h small =
    let fits : n < 2 ^ 64 = omega arith in
    let v : digits_value 10 (decimal n) ≡ n = digits_value-decimal own n fits in
    cond-true _ _ _ (and_from (all_ascii_digits (decimal n)) (plain (decimal n) && leb (digits_value 10 (decimal n)) limit) (digits_decimal own n fits) (and_from (plain (decimal n)) _ (plain_decimal n fits) (le-leb (digits_value 10 (decimal n)) limit (omega arith)))) ∙ ap Some v

pub decimal_from_upto : (ds : List ℕ) (n limit : ℕ) → limit < 2 ^ 64 → decimal_upto ds limit ≡ Some n → (ds ≡ decimal n) × (n ≤ limit)
decimal_from_upto ds n limit small e =
    let k = some_from (all_ascii_digits ds && (plain ds && leb (digits_value 10 ds) limit)) (digits_value 10 ds) n e in
    let a = and_parts (all_ascii_digits ds) (plain ds && leb (digits_value 10 ds) limit) k.0 in
    let b = and_parts (plain ds) (leb (digits_value 10 ds) limit) a.1 in
    let p = plain_parts ds b.0 in
    let l = leb-true (digits_value 10 ds) limit b.1 in
    (sym (decimal-digits_value own ds a.0 p.0 p.1 (omega arith)) ∙ ap decimal k.1, omega (arith, k.1))
  where
    some_from : (b : Bool) (v n : ℕ) → cond b (Some v) None ≡ Some n → (b ≡ true) × (v ≡ n)
    some_from true v n e = (refl, cc)
    some_from false v n e = let z : ◌≡◌ {A = ℕ} 0 1 = cc in absurd (omega arith)
