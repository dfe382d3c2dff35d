-- The laws of the algebra of spans.
use Rattle.std.specs.Prelude.{◌≡◌, ℕ, ◌+◌, ◌-◌, ◌*◌, ◌<◌, ◌≤◌, min, Bool, true, false, ◌⊎◌, ◌≢◌, nat_le, refl}
use Rattle.std.proofs.Common.{sym, ◌∙◌, ap, inl, inr, ⊎_elim, mul_comm, one-mul, zero-mul, arith}
use Rattle.std.proofs.lemmas.Bool.{and_from, and_parts, le-leb, leb-true, cases_eq, eq-eqb, ne_eqb, cond-true, cond-false, false≢true}
use Rattle.grades.specs.declared.span.Span.{Span}
use Rattle.grades.specs.Laws.{Laws, left_covers}
use Rattle.grades.specs.Spans.{most, no_limit, spanned, span_sum, span_product, span_join, span_covers, one_less, span_taking}
use Rattle.grades.specs.Rounding.{cut_assoc, cut_distributes, cut_covers}
use Rattle.grades.specs.Ends.{same_span, upper_sum, upper_product}

pub covers_from : (q p : Span) → q.lower ≤ p.lower → p.upper ≤ q.upper → span_covers q p ≡ true
covers_from q p h k = and_from (nat_le q.lower p.lower) (nat_le p.upper q.upper) (le-leb _ _ h) (le-leb _ _ k)

pub covers_to : (q p : Span) → span_covers q p ≡ true → (q.lower ≤ p.lower) × (p.upper ≤ q.upper)
covers_to q p t =
    let b = and_parts (nat_le q.lower p.lower) (nat_le p.upper q.upper) t in (leb-true _ _ b.0, leb-true _ _ b.1)

sum_comm : (p q : Span) → span_sum p q ≡ span_sum q p
sum_comm p q = same_span _ _ (omega arith) (omega arith)

sum_assoc : (p q r : Span) → span_sum (span_sum p q) r ≡ span_sum p (span_sum q r)
sum_assoc p q r = same_span _ _ (omega arith) (omega (arith, upper_sum p q, upper_sum q r))

product_comm : (p q : Span) → span_product p q ≡ span_product q p
product_comm p q = same_span _ _ (omega (arith, mul_comm p.lower q.lower)) (omega (arith, mul_comm p.lower q.lower, mul_comm p.upper q.upper))

product_assoc : (p q r : Span) → span_product (span_product p q) r ≡ span_product p (span_product q r)
product_assoc p q r =
    same_span _ _ (cut_assoc most p.lower q.lower r.lower)
    (upper_product (span_product p q) r ∙ ap (λ x. min (x * r.upper) no_limit) (upper_product p q) ∙ cut_assoc no_limit p.upper q.upper r.upper ∙ ap (λ x. min (p.upper * x) no_limit) (sym (upper_product q r)) ∙ sym (upper_product p (span_product q r)))

one_product : (p : Span) → span_product (spanned 1 1) p ≡ p
one_product p = same_span _ _ (omega (arith, one-mul p.lower)) (upper_product (spanned 1 1) p ∙ omega (arith, one-mul p.upper))

zero_product : (p : Span) → span_product (spanned 0 0) p ≡ spanned 0 0
zero_product p = same_span _ _ (omega (arith, zero-mul p.lower)) (upper_product (spanned 0 0) p ∙ omega (arith, zero-mul p.upper))

product_sum : (p q r : Span) → span_product p (span_sum q r) ≡ span_sum (span_product p q) (span_product p r)
product_sum p q r =
    same_span _ _ (cut_distributes most p.lower q.lower r.lower)
    (upper_product p (span_sum q r) ∙ ap (λ x. min (p.upper * x) no_limit) (upper_sum q r) ∙ cut_distributes no_limit p.upper q.upper r.upper ∙ ap (λ x. min (x + min (p.upper * r.upper) no_limit) no_limit) (sym (upper_product p q)) ∙ ap (λ x. min ((span_product p q).upper + x) no_limit) (sym (upper_product p r)) ∙ sym (upper_sum (span_product p q) (span_product p r)))

sum_covers : (q p r : Span) → span_covers q p ≡ true → span_covers (span_sum q r) (span_sum p r) ≡ true
sum_covers q p r t = let h = covers_to q p t in covers_from (span_sum q r) (span_sum p r) (omega arith) (omega (arith, upper_sum q r, upper_sum p r))

product_covers : (q p r : Span) → span_covers q p ≡ true → span_covers (span_product q r) (span_product p r) ≡ true
product_covers q p r t =
    let h = covers_to q p t in
    covers_from (span_product q r) (span_product p r) (cut_covers most q.lower p.lower r.lower r.lower h.0 (omega arith)) (omega (arith, upper_product q r, upper_product p r, cut_covers no_limit p.upper q.upper r.upper r.upper h.1 (omega arith)))

same_test : (a b : Bool) → (a ≡ true → b ≡ true) → (b ≡ true → a ≡ true) → a ≡ b
same_test true b f g = sym (f refl)
same_test false true f g = g refl
same_test false false f g = refl

-- no limit stays, and any other upper end falls by one
pub one_less_is : (u : ℕ) → ((u ≡ no_limit) × (one_less u ≡ no_limit)) ⊎ ((u ≢ no_limit) × (one_less u ≡ u - 1))
one_less_is u =
    ⊎_elim (λ e. inl (e, cond-true _ _ _ (eq-eqb u no_limit e))) (λ n. inr (n, cond-false _ _ _ (ne_eqb u no_limit n))) (cases_eq u no_limit)

-- what is left of q, where taking is not refused
abbrev pub left_of : Span → Span
left_of q = spanned (q.lower - 1) (one_less q.upper)

taking_left : (q p : Span) → 0 < q.upper → span_covers q (span_sum (spanned 1 1) p) ≡ span_covers (left_of q) p
taking_left q p some =
    same_test _ _
    (λ t. let h = covers_to q (span_sum (spanned 1 1) p) t in let u = upper_sum (spanned 1 1) p in covers_from (left_of q) p (omega arith) (⊎_elim (λ w. omega (arith, w)) (λ w. omega (arith, w)) (one_less_is q.upper)))
    (λ t. let h = covers_to (left_of q) p t in let u = upper_sum (spanned 1 1) p in covers_from q (span_sum (spanned 1 1) p) (omega arith) (⊎_elim (λ w. omega (arith, w)) (λ w. omega (arith, w)) (one_less_is q.upper)))

taking_covers : (q p : Span) → span_covers q (span_sum (spanned 1 1) p) ≡ left_covers span_covers (span_taking q) p
taking_covers q p =
    ⊎_elim
    (λ zero. same_test _ false (λ t. let h = covers_to q (span_sum (spanned 1 1) p) t in absurd (omega arith)) (λ f. absurd (false≢true f)) ∙ ap (λ o. left_covers span_covers o p) (sym (cond-true _ _ _ (eq-eqb q.upper 0 zero))))
    (λ some. taking_left q p (omega arith) ∙ ap (λ o. left_covers span_covers o p) (sym (cond-false _ _ _ (ne_eqb q.upper 0 some))))
    (cases_eq q.upper 0)

pub span_laws : Laws (spanned 0 0) (spanned 1 1) span_sum span_product span_join span_covers span_taking
span_laws =
    record {
      sum_assoc = sum_assoc;
      sum_comm = sum_comm;
      sum_zero = λ p. same_span _ _ (omega arith) (omega arith);
      product_assoc = product_assoc;
      one_product = one_product;
      product_one = λ p. product_comm p (spanned 1 1) ∙ one_product p;
      zero_product = zero_product;
      product_zero = λ p. product_comm p (spanned 0 0) ∙ zero_product p;
      product_sum = product_sum;
      sum_product = λ p q r. product_comm (span_sum p q) r ∙ product_sum r p q ∙ ap (λ x. span_sum x (span_product r q)) (product_comm r p) ∙ ap (span_sum (span_product p r)) (product_comm r q);
      covers_refl = λ p. covers_from p p (omega arith) (omega arith);
      covers_trans = λ r q p s t. let h = covers_to r q s in let k = covers_to q p t in covers_from r p (omega arith) (omega arith);
      covers_antisym = λ p q s t. let h = covers_to p q s in let k = covers_to q p t in same_span p q (omega arith) (omega arith);
      sum_covers_left = sum_covers;
      sum_covers_right = λ q p r t. ap (λ x. span_covers x (span_sum r p)) (sum_comm r q) ∙ ap (span_covers (span_sum q r)) (sum_comm r p) ∙ sum_covers q p r t;
      product_covers_left = product_covers;
      product_covers_right = λ q p r t. ap (λ x. span_covers x (span_product r p)) (product_comm r q) ∙ ap (span_covers (span_product q r)) (product_comm r p) ∙ product_covers q p r t;
      join_covers_left = λ p q. covers_from (span_join p q) p (omega arith) (omega arith);
      join_covers_right = λ p q. covers_from (span_join p q) q (omega arith) (omega arith);
      join_least = λ r p q s t. let h = covers_to r p s in let k = covers_to r q t in covers_from r (span_join p q) (omega arith) (omega arith);
      taking_covers = taking_covers;
      taking_zero = refl;
    }
