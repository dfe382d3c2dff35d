-- The names of the kinds of grades. Assumes nothing.
use Rattle.std.specs.Prelude.{◌≡◌, ℕ, cond, List, Some, None, codes, Option, Result, MatchResult}
use Rattle.std.specs.Str.{bytes_eq}
use Rattle.rulesheet.specs.declared.kind.Kind.{Kind}
use Rattle.rulesheet.specs.declared.kind.UnknownKind.{UnknownKind}
use Rattle.rulesheet.specs.declared.kind.Kind.TheVariants.{Span, Level, SpanAndLevel}

abbrev pub kind_of : List ℕ → Option Kind
kind_of line =
    cond (bytes_eq line (codes "span")) (Some Span)
    (cond (bytes_eq line (codes "level")) (Some Level)
    (cond (bytes_eq line (codes "span|level")) (Some SpanAndLevel) None))

-- the result is the kind that the line names, or the error where it names none
abbrev pub Names : List ℕ → Result Kind UnknownKind → Type 0
Names line r = MatchResult r (λ k. kind_of line ≡ Some k) (λ _. kind_of line ≡ None)
