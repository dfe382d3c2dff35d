use Rattle.std.proofs.Common.{◌≡◌, ◌+◌, Some, ap, ◌∙◌, arith}
use Rattle.std.proofs.lemmas.Grind.{common_steps}
use Rattle.grades.specs.Spans.{spanned}
use Rattle.grades.specs.Ends.{same_span}
use Rattle.grades.specs.SpanTexts.{span_reading}
use Rattle.grades.proofs.span.written.SpanWritten.read.Goals as goal

pub returns : goal.returns
returns c =
    let read : Some (spanned c.in_ok-lower.lower c.in_ok-upper.upper, c.in_ok-lower.len + (2 + c.in_ok-upper.more)) ≡ span_reading c.args.bytes.now = grind (arith, common_steps) in
    ap (λ p. Some (p, c.in_ok-lower.len + (2 + c.in_ok-upper.more))) (same_span _ (spanned c.in_ok-lower.lower c.in_ok-upper.upper) (omega arith) (omega arith)) ∙ read
