-- The algebra of spans. Assumes nothing.
use Rattle.std.specs.Prelude.{ℕ, ◌+◌, ◌-◌, ◌*◌, min, max, Bool, cond, ◌&&◌, Some, None, Option, ◌==◌, nat_le}
use Rattle.std.proofs.Common.{arith}
use Rattle.grades.specs.declared.span.Span.{Span}

-- the largest number that an end can be
abbrev pub most : ℕ
most = 9999

-- An upper end that is no limit is held as 10,000, the one number above them all. So no limit plus anything is no limit,
-- no limit times 0 is 0, and no limit times anything else is no limit, as soon as a larger number becomes 10,000.
abbrev pub no_limit : ℕ
no_limit = 10000

-- The span from lo to hi: above 9,999 a lower end becomes 9,999, and an upper end no limit.
-- It is meant for lo ≤ hi; a smaller hi is raised to lo.
abbrev pub spanned : ℕ → ℕ → Span
spanned lo hi =
    record { lower = min lo most; upper = max (min lo most) (min hi no_limit); ordered = omega arith; low = omega arith; high = omega arith }

-- the span between two ends that are in range, where None is no limit
abbrev pub span_between : ℕ → Option ℕ → Option Span
span_between lo None = cond (nat_le lo most) (Some (spanned lo no_limit)) None
span_between lo (Some hi) = cond (nat_le lo hi && nat_le hi most) (Some (spanned lo hi)) None

-- sum and product work on each end
abbrev pub span_sum : Span → Span → Span
span_sum p q = spanned (p.lower + q.lower) (p.upper + q.upper)

abbrev pub span_product : Span → Span → Span
span_product p q = spanned (p.lower * q.lower) (p.upper * q.upper)

-- the smaller lower end, and the larger upper end
abbrev pub span_join : Span → Span → Span
span_join p q = spanned (min p.lower q.lower) (max p.upper q.upper)

-- q covers p: p lies within q
abbrev pub span_covers : Span → Span → Bool
span_covers q p = nat_le q.lower p.lower && nat_le p.upper q.upper

-- an upper end after one read: no limit stays
abbrev pub one_less : ℕ → ℕ
one_less upper = cond (upper == no_limit) no_limit (upper - 1)

-- refused where the upper end is 0; else each end falls by one, where a lower 0 and no limit stay
abbrev pub span_taking : Span → Option Span
span_taking p = cond (p.upper == 0) None (Some (spanned (p.lower - 1) (one_less p.upper)))
