use Rattle.std.proofs.Common.{◌-◌, ◌∷◌, sym, ap, ◌∙◌, arith}
use Rattle.language.specs.Scopes.{open_names}
use Rattle.language.specs.Reading.{state, tables_of, rule}
use Rattle.language.specs.Readers.{state_in}
use Rattle.language.proofs.Chains.{goes_on, ends, failed, input_begun}
use Rattle.language.proofs.reading.Reader.+read_rule.Goals as goal

pub returns-in_err-name-in-Input-clause-reads : goal.returns-in_err-name-in-Input-clause-reads
returns-in_err-name-in-Input-clause-reads g t c =
    let self = c.args.self.now in
    let begun = input_begun g.G.Written.reading self.text.now g.G.Algebra.unit c.args.left (open_names c.args.scope.now) c.args.at (state_in self) c.in_ok-first.ensures c.in_ok-rule_head.ensures c.in-Input.is (omega arith) in
    failed _ _ _ _ c.from_residual-in_err-name-in-Input.ensures.1 (begun ∙ ends _ _ _ c.in_err-name-in-Input.ensures.reads)

pub returns-in_ok-name-in-Input-clause-reads : goal.returns-in_ok-name-in-Input-clause-reads
returns-in_ok-name-in-Input-clause-reads g t c =
    let self = c.args.self.now in
    let reading = g.G.Written.reading in
    let one = g.G.Algebra.unit in
    let bound = c.in_ok-name-in-Input.field-0 in
    let scope = bound.name.now ∷ open_names c.args.scope.now in
    let begun = input_begun reading self.text.now one c.args.left (open_names c.args.scope.now) c.args.at (state_in self) c.in_ok-first.ensures c.in_ok-rule_head.ensures c.in-Input.is (omega arith) in
    c.read_rule.ensures.reads
    ∙ ap (λ x. rule reading x one (c.args.left - 1) scope bound.next (state (tables_of c.add_input.new.self) c.read_binder.new.self.grades.now)) c.in_ok-name-in-Input.ensures.on.0
    ∙ ap (λ p. rule reading self.text.now one (c.args.left - 1) scope bound.next (state p c.read_binder.new.self.grades.now)) c.add_input.ensures
    ∙ sym (begun ∙ goes_on _ _ _ c.in_ok-name-in-Input.ensures.reads)
