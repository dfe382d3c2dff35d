use Rattle.std.proofs.Common.{◌≡◌, ℕ, length, drop, Err, sym, ap, ◌∙◌, rules}
use Rattle.std.proofs.lemmas.List.{length_push}
use Rattle.std.proofs.lemmas.Slice.Zip.{zip_turn}
use Rattle.std.specs.Iterator.Adapters.{zip_first, zip_second}
use Rattle.std.specs.Slice.Iter.{iter_rest}
use Rattle.language.specs.Tables.{no_binder}
use Rattle.language.specs.Reading.{tables_of}
use Rattle.typing.specs.Judging.{inputs_covered}
use Rattle.judge.proofs.Inputs.{inputs_from, covered, not_covered}
use Rattle.judge.proofs.graded.GradedRule.cover_inputs.Goals as goal

pub returns-then-not-covers : goal.returns-then-not-covers
returns-then-not-covers g c =
    let a = g.G.Algebra in
    let p = c.args.self.now in
    let tables = tables_of p.rule.now.program in
    let usages = c.args.usages.now in
    let n = length c.loop-binder.yielded in
    let binder = c.in-Some.binder.now in
    let first : iter_rest (zip_first c.into_iter-binder-iterator.result) ≡ tables.binders = search rules in
    let second : iter_rest (zip_second c.into_iter-binder-iterator.result) ≡ usages = search rules in
    let turn = zip_turn tables.binders usages c.loop-binder.yielded c.into_iter-binder-iterator.result c.loop-binder.binder-iterator c.next.new.self c.next.result first second c.loop-binder.yielded_by (c.in-Some.binder, c.in-Some.usage) c.in-Some.is c.next.ensures.steps in
    ap Err c.at.ensures ∙ sym (not_covered a tables p.grades.now usages p.rule.now.program.declared c.requires n binder c.grade.result c.in-Some.usage.now turn.1 (turn.2 no_binder) c.grade.ensures (turn.3 c.in-Some.usage.now) c.covers.ensures c.if-not-covers.true) ∙ c.loop-binder.invariant.2

pub loop-binder-preserved : goal.loop-binder-preserved
loop-binder-preserved g c =
    let a = g.G.Algebra in
    let p = c.args.self.now in
    let tables = tables_of p.rule.now.program in
    let usages = c.args.usages.now in
    let n = length c.loop-binder.yielded in
    let binder = c.in-Some.binder.now in
    let first : iter_rest (zip_first c.into_iter-binder-iterator.result) ≡ tables.binders = search rules in
    let second : iter_rest (zip_second c.into_iter-binder-iterator.result) ≡ usages = search rules in
    let turn = zip_turn tables.binders usages c.loop-binder.yielded c.into_iter-binder-iterator.result c.loop-binder.binder-iterator c.next.new.self c.next.result first second c.loop-binder.yielded_by (c.in-Some.binder, c.in-Some.usage) c.in-Some.is c.next.ensures.steps in
    let more = length_push c.loop-binder.yielded (c.in-Some.binder, c.in-Some.usage) in
    let rest = λ (k : ℕ). inputs_covered a (inputs_from a tables p.grades.now k) (drop k usages) in
    (search rules, search rules, ap rest more ∙ sym (covered a tables p.grades.now usages p.rule.now.program.declared c.requires n binder c.grade.result c.in-Some.usage.now turn.1 (turn.2 no_binder) c.grade.ensures (turn.3 c.in-Some.usage.now) c.covers.ensures c.if-not-covers.false) ∙ c.loop-binder.invariant.2)
