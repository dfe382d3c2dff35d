use Rattle.std.proofs.Common.{Some, sym, ap, ◌∙◌, arith}
use Rattle.std.proofs.lemmas.Bool.{cond-true, and_from, le-leb}
use Rattle.grades.specs.Spans.{most, span_between}
use Rattle.grades.specs.Ends.{same_span}
use Rattle.grades.proofs.span.Span.new.Goals as goal

pub returns-in-Some : goal.returns-in-Some
returns-in-Some c =
    ap Some (same_span _ _ (omega arith) (omega arith)) ∙ sym (cond-true _ _ _ (and_from _ _ (le-leb c.args.lower c.in-Some.upper (omega arith)) (le-leb c.in-Some.upper most (omega arith)))) ∙ ap (span_between c.args.lower) (sym c.in-Some.is)

pub returns-in-None : goal.returns-in-None
returns-in-None c =
    ap Some (same_span _ _ (omega arith) (omega arith)) ∙ sym (cond-true _ _ _ (le-leb c.args.lower most (omega arith))) ∙ ap (span_between c.args.lower) (sym c.in-None.is)
