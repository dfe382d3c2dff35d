use Rattle.std.proofs.Common.{◌≡◌, Some, sym, ap, ◌∙◌, ⊎_elim, arith}
use Rattle.std.proofs.lemmas.Bool.{cond-false, ne_eqb}
use Rattle.grades.specs.Spans.{one_less}
use Rattle.grades.specs.Ends.{same_span}
use Rattle.grades.specs.SpanLaws.{left_of, one_less_is}
use Rattle.grades.proofs.span.algebra.SpanAlgebra.take.Goals as goal
use Rattle.grades.proofs.span.algebra.SpanAlgebra.take.Goals.{then-self-eq-NO_LIMIT, else-self-eq-NO_LIMIT}

falls : (c : goal.After-result-1) → c.if-self-eq-NO_LIMIT.upper ≡ one_less c.args.self.upper
falls c =
    ⊎_elim (λ o. elim c.if-self-eq-NO_LIMIT.branch [ then-self-eq-NO_LIMIT w ↦ omega (arith, o, w.upper-is) | else-self-eq-NO_LIMIT w ↦ absurd (w.if-self-eq-NO_LIMIT.false o.0) ])
    (λ o. elim c.if-self-eq-NO_LIMIT.branch [ then-self-eq-NO_LIMIT w ↦ absurd (o.0 w.if-self-eq-NO_LIMIT.true) | else-self-eq-NO_LIMIT w ↦ omega (arith, o.1, w.upper-is) ])
    (one_less_is c.args.self.upper)

pub returns : goal.returns
returns c =
    let f = falls c in
    ap Some (same_span _ (left_of c.args.self) (omega arith) (⊎_elim (λ w. omega (arith, w)) (λ w. omega (arith, w)) (one_less_is c.args.self.upper))) ∙ sym (cond-false _ _ _ (ne_eqb c.args.self.upper 0 (λ none. omega arith)))
