use Rattle.std.proofs.Common.{Some, None, sym, ◌∙◌, arith}
use Rattle.std.proofs.lemmas.List.{length-take-le}
use Rattle.grades.specs.SpanWords.{digits_fit, number_read, number_at_some}
use Rattle.grades.proofs.span.written.number_at.Goals as goal

pub slice_bounds-decimal-end : goal.slice_bounds-decimal-end
slice_bounds-decimal-end c = let fit = digits_fit c.args.bytes.now in sym (length-take-le _ _ (omega arith))

pub returns-in_err-number-clause-number : goal.returns-in_err-number-clause-number
returns-in_err-number-clause-number c =
    c.from_residual.ensures ∙ number_read c.args.bytes.now c.run_end-len.result c.from.result None (omega arith) c.from.ensures c.in_err-number.ensures

pub returns : goal.returns
returns c =
    let number = number_read c.args.bytes.now c.run_end-len.result c.from.result (Some c.in_ok-number.number) (omega arith) c.from.ensures c.in_ok-number.ensures in
    let facts = number_at_some c.args.bytes.now c.in_ok-number.number c.run_end-len.result (sym number) in
    record { number = number; within = (facts.1, facts.0) }
