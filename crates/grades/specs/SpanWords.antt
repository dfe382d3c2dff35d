-- The texts of spans.
use Rattle.std.specs.Prelude.{bytes_eq, ◌≡◌, ℕ, ◌+◌, ◌-◌, ◌≤◌, Bool, true, false, List, [], ◌∷◌, ◌++◌, length, take, drop, Some, None, codes, decimal, Option, ◌==◌, ◌≢◌, nat_le, slice_index, refl}
use Rattle.std.proofs.Common.{sym, ◌∙◌, ap, subst, ⊎_elim, arith, take-add}
use Rattle.std.specs.Char.{is_ascii_digit}
use Rattle.std.specs.List.{AllByRecursion}
use Rattle.std.specs.Str.{all_ascii_digits}
use Rattle.text.specs.declared.scan.Class.TheVariants.{Digit}
use Rattle.text.specs.Decimals.{decimal_upto}
use Rattle.text.specs.Scan.{in_class}
use Rattle.std.proofs.lemmas.Slice.Eq.{bytes_eq-Decides}
use Rattle.std.proofs.lemmas.List.Sums.{prefix_len-le-length}
use Rattle.std.proofs.lemmas.List.{take_rest, take_at, drop_at, length-drop, length-take, length-append, append_assoc, get_or_append_left}
use Rattle.std.proofs.lemmas.Bool.{cases_Bool, cases_eq, cases_lt, cond-true, cond-false, cond_both, and_parts, eq-eqb, ne_eqb, le-leb, lt-leb, leb-true}
use Rattle.std.proofs.lemmas.Fmt.{decimal_nonempty, decimal_is_IsNumeral}
use Rattle.std.proofs.ByRecursion.{All-append}
use Rattle.std.proofs.lemmas.Str.Parse.{digit_at}
use Rattle.text.proofs.Numbers.{decimal_digits, upto_decimal, decimal_from_upto}
use Rattle.text.proofs.Puts.{none_some}
use Rattle.text.proofs.Runs.{Halts, front_exact, digits_pass}
use Rattle.grades.specs.declared.span.Span.{Span}
use Rattle.grades.specs.Spans.{most, no_limit, spanned}
use Rattle.grades.specs.Texts.{Text, Stops, brace}
use Rattle.grades.specs.SpanTexts.{upper_writing, span_writing, with_length, digits_at, number_at, upper_at, dotted, up_to, from_lower, span_reading}
use Rattle.grades.specs.Readings.{same_answer, no_brace_from}
use Rattle.grades.specs.Ends.{same_span}

pub digits_fit : (bs : List ℕ) → digits_at bs ≤ length bs
digits_fit bs = prefix_len-le-length (in_class Digit) bs

-- a number at the front, by the count of its digits
pub number_read : (bs : List ℕ) (len limit : ℕ) (o : Option ℕ) → len ≡ digits_at bs → limit ≡ most → o ≡ decimal_upto (take len bs) limit → with_length o len ≡ number_at bs
number_read bs len limit o e f g =
    ap (with_length o) e ∙ ap (λ x. with_length x (digits_at bs)) (g ∙ ap (λ n. decimal_upto (take n bs) limit) e ∙ ap (decimal_upto (take (digits_at bs) bs)) f)

-- what a number that was read says of the bytes
pub number_at_some : (bs : List ℕ) (v n : ℕ) → number_at bs ≡ Some (v, n) → (n ≤ length bs) × (v ≤ most) × (take n bs ≡ decimal v)
number_at_some bs v n e = by (decimal_upto (take (digits_at bs) bs) most) refl e
  where
    by : (o : Option ℕ) → decimal_upto (take (digits_at bs) bs) most ≡ o → with_length o (digits_at bs) ≡ Some (v, n) → (n ≤ length bs) × (v ≤ most) × (take n bs ≡ decimal v)
    by None f e = absurd (none_some (v, n) e)
    by (Some x) f e =
        let same = same_answer x v (digits_at bs) n e in
        let d = decimal_from_upto (take (digits_at bs) bs) x most (omega arith) f in
        let fit = digits_fit bs in
        (omega arith, omega arith, ap (λ k. take k bs) (sym same.1) ∙ d.0 ∙ ap decimal same.0)

pub upper_at_some : (bs : List ℕ) (u m : ℕ) → upper_at bs ≡ Some (u, m) → (m ≤ length bs) × (u ≤ no_limit) × (take m bs ≡ upper_writing u)
upper_at_some bs u m e =
    ⊎_elim
    (λ star. let f = same_answer no_limit u 1 m (sym (cond-true _ _ _ (eq-eqb (slice_index bs 0) 42 star)) ∙ e) in starred bs u m f.0 f.1 star)
    (λ other. let f = number_at_some bs u m (sym (cond-false _ _ _ (ne_eqb (slice_index bs 0) 42 other)) ∙ e) in (f.0, omega arith, f.2 ∙ sym (cond-false _ _ _ (ne_eqb u no_limit (λ z. omega arith)))))
    (cases_eq (slice_index bs 0) 42)
  where
    starred : (bs : List ℕ) (u m : ℕ) → no_limit ≡ u → 1 ≡ m → slice_index bs 0 ≡ 42 → (m ≤ length bs) × (u ≤ no_limit) × (take m bs ≡ upper_writing u)
    starred [] u m e f star = absurd (omega arith)
    starred (b ∷ bs) u m e f star = (omega arith, omega arith, ap (λ k. take k (b ∷ bs)) (sym f) ∙ ap (λ x. x ∷ []) star ∙ sym (cond-true _ _ _ (eq-eqb u no_limit (sym e))))

-- `..`, where the test for it holds
dots_from : (bs : List ℕ) (n : ℕ) → dotted (drop n bs) ≡ true → codes ".." ≡ take 2 (drop n bs)
dots_from bs n d = (bytes_eq-Decides (codes "..") (take 2 (drop n bs))).0 d

-- a reading, once its lower end is read
read_dotted : (bs : List ℕ) (lower n : ℕ) (o : Option (ℕ × ℕ)) → Some (lower, n) ≡ number_at bs → dotted (drop n bs) ≡ true → o ≡ upper_at (drop 2 (drop n bs)) → span_reading bs ≡ up_to lower n o
read_dotted bs lower n o e d f = ap (from_lower bs) (sym e) ∙ cond-true _ _ _ d ∙ ap (up_to lower n) (sym f)

-- the bytes after the lower end, cut by their number
abbrev pub after_lower : List ℕ → ℕ → List ℕ
after_lower bs n = take (length bs - n) (drop n bs)

dotted_after : (bs : List ℕ) (n : ℕ) (r : Bool) → r ≡ bytes_eq (codes "..") (take 2 (after_lower bs n)) → dotted (drop n bs) ≡ r
dotted_after bs n r m = ap dotted (sym (take_rest bs n)) ∙ sym m

pub read_undotted : (bs : List ℕ) (lower n : ℕ) → Some (lower, n) ≡ number_at bs → false ≡ bytes_eq (codes "..") (take 2 (after_lower bs n)) → None ≡ span_reading bs
read_undotted bs lower n e m = sym (ap (from_lower bs) (sym e) ∙ cond-false _ _ _ (dotted_after bs n false m))

after_dots : (bs : List ℕ) (n : ℕ) → take (length (after_lower bs n) - 2) (drop 2 (after_lower bs n)) ≡ drop 2 (drop n bs)
after_dots bs n = take_rest (after_lower bs n) 2 ∙ ap (drop 2) (take_rest bs n)

pub read_upper : (bs : List ℕ) (lower n : ℕ) (o : Option (ℕ × ℕ)) → Some (lower, n) ≡ number_at bs → true ≡ bytes_eq (codes "..") (take 2 (after_lower bs n)) → o ≡ upper_at (take (length (after_lower bs n) - 2) (drop 2 (after_lower bs n))) → span_reading bs ≡ up_to lower n o
read_upper bs lower n o e m f = read_dotted bs lower n o e (dotted_after bs n true m) (f ∙ ap upper_at (after_dots bs n))

pub read_facts : (bs : List ℕ) (lower n upper k : ℕ) → Some (lower, n) ≡ number_at bs → true ≡ bytes_eq (codes "..") (take 2 (after_lower bs n)) → Some (upper, k) ≡ upper_at (take (length (after_lower bs n) - 2) (drop 2 (after_lower bs n))) → (lower ≤ most) × (upper ≤ no_limit) × (n + (2 + k) ≤ length bs)
read_facts bs lower n upper k e m f =
    let a = number_at_some bs lower n (sym e) in
    let b = upper_at_some (drop 2 (drop n bs)) upper k (sym (f ∙ ap upper_at (after_dots bs n))) in
    let two = ap length (dots_from bs n (dotted_after bs n true m)) ∙ length-take 2 (drop n bs) in
    let rest = length-drop n bs in
    let more = length-drop 2 (drop n bs) in (a.1, b.1, omega arith)

-- what is read is the writing of the span that is answered
pub span_from : (bs : List ℕ) (s : Span) (k : ℕ) → span_reading bs ≡ Some (s, k) → take k bs ≡ span_writing s
span_from bs s k e = by (number_at bs) refl e
  where
    at_end : (lower n upper m : ℕ) → number_at bs ≡ Some (lower, n) → dotted (drop n bs) ≡ true → upper_at (drop 2 (drop n bs)) ≡ Some (upper, m) → lower ≤ upper → spanned lower upper ≡ s → n + (2 + m) ≡ k → take k bs ≡ span_writing s
    at_end lower n upper m f d g h same size =
        let a = number_at_some bs lower n f in
        let b = upper_at_some (drop 2 (drop n bs)) upper m g in
        let lo : lower ≡ s.lower = omega (arith, ap (λ (p : Span). p.lower) same) in
        let hi : upper ≡ s.upper = omega (arith, ap (λ (p : Span). p.upper) same) in
        ap (λ x. take x bs) (sym size) ∙ take-add n (2 + m) bs ∙ ap (λ x. take n bs ++ x) (take-add 2 m (drop n bs)) ∙ ap (λ x. x ++ (take 2 (drop n bs) ++ take m (drop 2 (drop n bs)))) (a.2 ∙ ap decimal lo) ∙ ap (λ x. decimal s.lower ++ (x ++ take m (drop 2 (drop n bs)))) (sym (dots_from bs n d)) ∙ ap (λ x. decimal s.lower ++ (codes ".." ++ x)) (b.2 ∙ ap upper_writing hi)

    upper_by : (lower n : ℕ) → number_at bs ≡ Some (lower, n) → dotted (drop n bs) ≡ true → (o : Option (ℕ × ℕ)) → upper_at (drop 2 (drop n bs)) ≡ o → up_to lower n o ≡ Some (s, k) → take k bs ≡ span_writing s
    upper_by lower n f d None g e = absurd (none_some (s, k) e)
    upper_by lower n f d (Some (upper, m)) g e =
        ⊎_elim
        (λ h. let same = same_answer (spanned lower upper) s (n + (2 + m)) k (sym (cond-true _ _ _ (le-leb lower upper (omega arith))) ∙ e) in at_end lower n upper m f d g (omega arith) same.0 same.1)
        (λ h. absurd (none_some (s, k) (sym (cond-false _ _ _ (lt-leb lower upper (omega arith))) ∙ e)))
        (cases_lt lower (upper + 1))

    by : (o : Option (ℕ × ℕ)) → number_at bs ≡ o → from_lower bs o ≡ Some (s, k) → take k bs ≡ span_writing s
    by None f e = absurd (none_some (s, k) e)
    by (Some (lower, n)) f e =
        ⊎_elim (λ d. upper_by lower n f d (upper_at (drop 2 (drop n bs))) refl (sym (cond-true _ _ _ d) ∙ e)) (λ d. absurd (none_some (s, k) (sym (cond-false _ _ _ d) ∙ e))) (cases_Bool (dotted (drop n bs)))

-- a number in decimal is read as far as its digits go
number_decimal : (v : ℕ) (rest : List ℕ) → v ≤ most → Halts (in_class Digit) rest → number_at (decimal v ++ rest) ≡ Some (v, length (decimal v))
number_decimal v rest h stop =
    let digits = digits_pass (decimal v) (decimal_digits v (omega arith)) in
    ap (λ k. with_length (decimal_upto (take k (decimal v ++ rest)) most) k) (front_exact (in_class Digit) (decimal v) rest digits stop)
    ∙ ap (λ ds. with_length (decimal_upto ds most) (length (decimal v))) (take_at (decimal v) rest _ refl)
    ∙ ap (λ o. with_length o (length (decimal v))) (upto_decimal v most h (omega arith))

-- no digit is `*`
first_digit : (v : ℕ) (rest : List ℕ) → v ≤ most → slice_index (decimal v ++ rest) 0 ≢ 42
first_digit v rest h e =
    let some = decimal_nonempty v (omega arith) in
    let first = digit_at (decimal v) 0 (decimal_is_IsNumeral v (omega arith)).0.1 some in
    omega (arith, get_or_append_left (decimal v) rest 0 0 some)

upper_back : (u : ℕ) (rest : List ℕ) → u ≤ no_limit → Halts (in_class Digit) rest → upper_at (upper_writing u ++ rest) ≡ Some (u, length (upper_writing u))
upper_back u rest h stop =
    let P : List ℕ → Type 0 = λ w. upper_at (w ++ rest) ≡ Some (u, length w) in
    ⊎_elim (λ e. subst P (sym (cond-true _ _ _ (eq-eqb u no_limit e))) (ap (λ x. Some (x, 1)) (sym e)))
    (λ n. subst P (sym (cond-false _ _ _ (ne_eqb u no_limit n))) (cond-false _ _ _ (ne_eqb _ 42 (first_digit u rest (omega arith))) ∙ number_decimal u rest (omega arith) stop))
    (cases_eq u no_limit)

stops_halt : (rest : List ℕ) → Stops rest → Halts (in_class Digit) rest
stops_halt [] s = tt
stops_halt (b ∷ bs) s = ⊎_elim (λ e. ap (in_class Digit) e) (λ e. ap (in_class Digit) e) s

-- a writing that nothing, `|` or `}` follows is read as the span
pub span_back : (s : Span) (rest : List ℕ) → Stops rest → span_reading (span_writing s ++ rest) ≡ Some (s, length (span_writing s))
span_back s rest stop =
    let text = upper_writing s.upper in
    let after : List ℕ = codes ".." ++ (text ++ rest) in
    let place = drop_at (decimal s.lower) after (length (decimal s.lower)) refl in
    let size : length (decimal s.lower) + (2 + length text) ≡ length (span_writing s) = omega (arith, length-append (decimal s.lower) (codes ".." ++ text)) in
    ap span_reading (append_assoc (decimal s.lower) (codes ".." ++ text) rest)
    ∙ read_dotted (decimal s.lower ++ after) s.lower (length (decimal s.lower)) (Some (s.upper, length text)) (sym (number_decimal s.lower after s.low refl)) (ap dotted place) (sym (ap (λ y. upper_at (drop 2 y)) place ∙ upper_back s.upper rest s.high (stops_halt rest stop)))
    ∙ cond-true _ _ _ (le-leb s.lower s.upper s.ordered)
    ∙ ap (λ p. Some (p, length (decimal s.lower) + (2 + length text))) (same_span (spanned s.lower s.upper) s (omega arith) (omega arith))
    ∙ ap (λ k. Some (s, k)) size

no_brace_digits : (ds : List ℕ) → all_ascii_digits ds ≡ true → AllByRecursion (λ b. b ≢ brace) ds
no_brace_digits [] t = tt
no_brace_digits (d ∷ ds) t =
    let b = and_parts (is_ascii_digit d) (all_ascii_digits ds) t in
    let c = and_parts (nat_le 48 d) (nat_le d 57) b.0 in
    let h = leb-true d 57 c.1 in ((λ e. omega arith), no_brace_digits ds b.1)

no_brace_upper : (u : ℕ) → u ≤ no_limit → AllByRecursion (λ b. b ≢ brace) (upper_writing u)
no_brace_upper u h =
    cond_both (u == no_limit) (codes "*") (decimal u) (AllByRecursion (λ b. b ≢ brace)) (λ _. no_brace_from (codes "*") refl) (λ _. no_brace_digits (decimal u) (decimal_digits u (omega arith)))

pub span_text : Text span_reading span_writing
span_text =
    record {
      exact = λ w rest s stop. (λ e. sym (take_at w rest (length w) refl) ∙ span_from (w ++ rest) s (length w) e, λ e. subst (λ (v : List ℕ). span_reading (v ++ rest) ≡ Some (s, length v)) (sym e) (span_back s rest stop));
      no_brace = λ s. All-append _ (decimal s.lower) (codes ".." ++ upper_writing s.upper) (no_brace_digits (decimal s.lower) (decimal_digits s.lower (omega arith))) (All-append _ (codes "..") (upper_writing s.upper) (no_brace_from (codes "..") refl) (no_brace_upper s.upper s.high));
    }
