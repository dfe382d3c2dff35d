-- Spans by their ends.
use Rattle.std.specs.Prelude.{◌≡◌, ◌+◌, ◌*◌, ◌≤◌, min}
use Rattle.std.proofs.Math.Path.{to_path_p}
use Rattle.std.proofs.Math.Bridge.{le_prop}
use Rattle.std.proofs.Common.{mul-le-mul, arith}
use Rattle.grades.specs.declared.span.Span.{Span}
use Rattle.grades.specs.Spans.{no_limit, span_sum, span_product}

-- two spans with the same ends are the same
pub same_span : (p q : Span) → p.lower ≡ q.lower → p.upper ≡ q.upper → p ≡ q
same_span p q e f =
    λ i. record {
      lower = e i;
      upper = f i;
      ordered = to_path_p (λ k. e k ≤ f k) (le_prop (coe 0 1 (k. e k ≤ f k) p.ordered) q.ordered) i;
      low = to_path_p (λ k. e k ≤ 9999) (le_prop (coe 0 1 (k. e k ≤ 9999) p.low) q.low) i;
      high = to_path_p (λ k. f k ≤ 10000) (le_prop (coe 0 1 (k. f k ≤ 10000) p.high) q.high) i;
    }

pub upper_sum : (p q : Span) → (span_sum p q).upper ≡ min (p.upper + q.upper) no_limit
upper_sum p q = omega arith

pub upper_product : (p q : Span) → (span_product p q).upper ≡ min (p.upper * q.upper) no_limit
upper_product p q = let h = mul-le-mul p.ordered q.ordered in omega arith
