use Rattle.std.proofs.Common.{◌-◌, ◌<◌, [], length, get_or, set, replicate, IsSome, Ok, Err, sym, refl, ap, ◌∙◌, subst, arith, rules}
use Rattle.std.proofs.lemmas.Option.{same_Some, slice_get-get_or}
use Rattle.std.proofs.lemmas.List.{get_or_read}
use Rattle.language.specs.declared.program.SimpleType.TheVariants.{Num}
use Rattle.language.specs.declared.program.Term.TheVariants.{Name, Number, Fn, Call, Add, Half, Less}
use Rattle.tokens.specs.declared.refusal.Refusal.TheVariants.{TypesDiffer, NotCovered}
use Rattle.tokens.specs.Tokens.{fault}
use Rattle.language.specs.Tables.{no_binder, type_sound}
use Rattle.language.specs.Reading.{tables_of}
use Rattle.language.specs.Scopes.{scope_items}
use Rattle.language.proofs.Chains.{ends}
use Rattle.grammar.specs.Recovering.{label_of}
use Rattle.typing.specs.Judging.{judged, both}
use Rattle.judge.specs.Meaning.{term_in, part, node_at}
use Rattle.judge.specs.Progress.{judged_into, used_into, Judges, number_judged, context_types}
use Rattle.judge.proofs.Parts.{grown_on, grown_longer, sound_wider, ready_next, ready_inside, declared_first, context_inside}
use Rattle.judge.proofs.Nodes.{opened, sum_opened, ready_as, judges_as}
use Rattle.judge.proofs.Chains.{broke_judged, broke_used, second_fails}
use Rattle.judge.proofs.Exits.{binder_tested, refused_judges, refused_uses, number_later, name_exit, literal_exit, number_exit, numbers_exit, arrow_there, argument_fails_here, argument_differs_here, call_exit, body_fails_here, binder_fails_here, fn_exit, branch_fails_here, other_fails_here, branches_differ_here, less_exit}
use Rattle.judge.proofs.graded.GradedRule.+judging.Goals as goal

pub judge_call-returns-in_err-given : goal.judge_call-returns-in_err-given
judge_call-returns-in_err-given g t c =
    let a = g.G.Algebra in
    let p = c.args.self.now in
    let context = scope_items c.args.context.now in
    let first = c.in_ok-called.ensures in
    argument_fails_here a p context 0 (node_at a.nil p c.args.function) (node_at a.nil p c.args.argument) c.requires.begun.ready first c.in-To.grade c.in-To.from c.in-To.to c.in-To.is (broke_judged c.from_residual-in_err-given.result _ c.from_residual-in_err-given.ensures.1) c.in_err-given.ensures.answer

pub judge_call-same_type-requires-clause-right : goal.judge_call-same_type-requires-clause-right
judge_call-same_type-requires-clause-right g t c =
    let a = g.G.Algebra in
    let p = c.args.self.now in
    let context = scope_items c.args.context.now in
    let first = c.in_ok-called.ensures in
    let second = c.in_ok-given.ensures in
    let there = arrow_there a p context 0 (node_at a.nil p c.args.function) (node_at a.nil p c.args.argument) c.requires.begun.ready first c.in-To.grade c.in-To.from c.in-To.to c.in-To.is in
    let longer = grown_longer second.grows.0 in
    let more = c.judge_term-2.new.types.types.items in
    let below : c.in-To.from < length more = omega (arith, there.0) in
    ap (type_sound 256 (length more)) c.get.ensures ∙ sound_wider 256 256 c.in-To.from (length more) (get_or more c.in-To.from Num) (omega arith) (omega arith) (c.judge_term-2.new.types.sound c.in-To.from below)

pub judge_call-returns-then-not-same_type : goal.judge_call-returns-then-not-same_type
judge_call-returns-then-not-same_type g t c =
    let a = g.G.Algebra in
    let p = c.args.self.now in
    let context = scope_items c.args.context.now in
    let first = c.in_ok-called.ensures in
    let second = c.in_ok-given.ensures in
    argument_differs_here a p context 0 (node_at a.nil p c.args.function) (node_at a.nil p c.args.argument) c.requires.begun.ready first c.in-To.grade c.in-To.from c.in-To.to c.in-To.is second c.get.ensures c.same_type.ensures (ap Err (c.at-then-not-same_type.ensures ∙ ap (fault TypesDiffer) c.place-then-not-same_type.ensures)) c.if-not-same_type.true

pub judge_call-get-requires-2 : goal.judge_call-get-requires-2
judge_call-get-requires-2 g t c =
    let a = g.G.Algebra in
    let p = c.args.self.now in
    let context = scope_items c.args.context.now in
    let first = c.in_ok-called.ensures in
    let second = c.in_ok-given.ensures in
    let there = arrow_there a p context 0 (node_at a.nil p c.args.function) (node_at a.nil p c.args.argument) c.requires.begun.ready first c.in-To.grade c.in-To.from c.in-To.to c.in-To.is in
    let longer = grown_longer second.grows.0 in
    omega (arith, there.1)

pub judge_call-returns : goal.judge_call-returns
judge_call-returns g t c =
    let a = g.G.Algebra in
    let p = c.args.self.now in
    let context = scope_items c.args.context.now in
    let first = c.in_ok-called.ensures in
    let second = c.in_ok-given.ensures in
    call_exit a p context 0 (node_at a.nil p c.args.function) (node_at a.nil p c.args.argument) c.requires.begun.ready first c.in-To.grade c.in-To.from c.in-To.to c.in-To.is second c.get.ensures c.same_type.ensures c.scale.new.self c.if-not-same_type.false c.get-2.ensures c.grade.ensures c.requires.count c.scale.ensures c.add.ensures

pub judge_fn-judge_term-requires : goal.judge_fn-judge_term-requires
judge_fn-judge_term-requires g t c κs within =
    let p = c.args.self.now in
    let tables = tables_of p.rule.now.program in
    let below = c.requires.begun.there.1 in
    let domain = get_or_read tables.types c.args.domain c.index.result.now below c.index.ensures Num in
    (search rules, (search rules, (search rules, (omega (arith, c.requires.count), record { there = c.requires.begun.there.2; ready = ready_inside c.args.domain below c.index.result.now domain c.requires.begun.ready }))))

pub judge_fn-returns-in_err-result : goal.judge_fn-returns-in_err-result
judge_fn-returns-in_err-result g t c =
    let a = g.G.Algebra in
    let p = c.args.self.now in
    let context = scope_items c.args.context.now in
    let tables = tables_of p.rule.now.program in
    let below = c.requires.begun.there.1 in
    let domain = get_or_read tables.types c.args.domain c.index.result.now below c.index.ensures Num in
    let inside = context_inside c.args.domain below c.index.result.now domain c.requires.begun.ready a.nil in
    let n = get_or tables.binders c.args.binder no_binder in
    body_fails_here a p context 0 (label_of [] n) (get_or p.grades.now n.grade a.nil) c.args.domain (node_at a.nil p c.args.body) c.index.result.now c.requires.begun.ready inside (broke_judged c.from_residual.result _ c.from_residual.ensures.1) c.in_err-result.ensures.answer

pub judge_fn-grade-requires : goal.judge_fn-grade-requires
judge_fn-grade-requires g t c =
    let p = c.args.self.now in
    let tables = tables_of p.rule.now.program in
    let read = get_or_read tables.binders c.args.binder c.index-2.result.now c.requires.begun.there.0 c.index-2.ensures no_binder in
    omega (arith, ap (λ b. b.grade) read, p.rule.now.program.binders_sound c.args.binder c.requires.begun.there.0, p.rule.now.program.few_grades)

pub judge_fn-returns-then-not-covers : goal.judge_fn-returns-then-not-covers
judge_fn-returns-then-not-covers g t c =
    let a = g.G.Algebra in
    let p = c.args.self.now in
    let context = scope_items c.args.context.now in
    let tables = tables_of p.rule.now.program in
    let below = c.requires.begun.there.1 in
    let domain = get_or_read tables.types c.args.domain c.index.result.now below c.index.ensures Num in
    let inside = context_inside c.args.domain below c.index.result.now domain c.requires.begun.ready a.nil in
    let n = get_or tables.binders c.args.binder no_binder in
    let read = get_or_read tables.binders c.args.binder c.index-2.result.now c.requires.begun.there.0 c.index-2.ensures no_binder in
    let tested = binder_tested a p.grades.now _ read c.requires.count c.grade.ensures c.get.ensures c.covers.ensures in
    binder_fails_here a p context 0 (label_of [] n) (get_or p.grades.now n.grade a.nil) c.args.domain (node_at a.nil p c.args.body) c.index.result.now c.requires.begun.ready inside c.in_ok-result.ensures tested (ap Err (c.at.ensures ∙ ap (λ b. fault NotCovered b.place) read)) c.if-not-covers.true

pub judge_fn-returns : goal.judge_fn-returns
judge_fn-returns g t c =
    let a = g.G.Algebra in
    let p = c.args.self.now in
    let context = scope_items c.args.context.now in
    let tables = tables_of p.rule.now.program in
    let below = c.requires.begun.there.1 in
    let domain = get_or_read tables.types c.args.domain c.index.result.now below c.index.ensures Num in
    let inside = context_inside c.args.domain below c.index.result.now domain c.requires.begun.ready a.nil in
    let n = get_or tables.binders c.args.binder no_binder in
    let read = get_or_read tables.binders c.args.binder c.index-2.result.now c.requires.begun.there.0 c.index-2.ensures no_binder in
    let tested = binder_tested a p.grades.now _ read c.requires.count c.grade.ensures c.get.ensures c.covers.ensures in
    let few : c.index-2.result.now.grade < 256 = omega (arith, ap (λ b. b.grade) read, p.rule.now.program.binders_sound c.args.binder c.requires.begun.there.0, p.rule.now.program.few_grades) in
    fn_exit a p context 0 (label_of [] n) (get_or p.grades.now n.grade a.nil) c.args.domain (node_at a.nil p c.args.body) c.index.result.now c.requires.begun.ready inside c.in_ok-result.ensures tested c.index-2.result.now.grade c.add-to.result c.add-to.new.self c.if-not-covers.false few (sym (ap (λ b. get_or p.grades.now b.grade a.nil) read)) below c.add-to.ensures.index c.add-to.ensures.after

pub judge_less-returns-in_err-branch : goal.judge_less-returns-in_err-branch
judge_less-returns-in_err-branch g t c =
    let a = g.G.Algebra in
    let p = c.args.self.now in
    let context = scope_items c.args.context.now in
    let first = c.in_ok-judge_numbers.ensures in
    branch_fails_here a p context 0 (node_at a.nil p c.args.left) (node_at a.nil p c.args.right) (node_at a.nil p c.args.below) (node_at a.nil p c.args.otherwise) c.requires.begun.ready first (broke_judged c.from_residual-in_err-branch.result _ c.from_residual-in_err-branch.ensures.1) c.in_err-branch.ensures.answer

pub judge_less-judge_term-requires-2 : goal.judge_less-judge_term-requires-2
judge_less-judge_term-requires-2 g t c κs within =
    let a = g.G.Algebra in
    let p = c.args.self.now in
    let first = c.in_ok-judge_numbers.ensures in
    let second = c.in_ok-branch.ensures in
    (search rules, (search rules, (search rules, (search rules, record { there = c.requires.begun.there.3; ready = ready_next c.requires.begun.ready (grown_on first.grows second.grows.0) (node_at a.nil p c.args.otherwise) (omega arith) (omega arith) (omega arith) }))))

pub judge_less-returns-in_err-other : goal.judge_less-returns-in_err-other
judge_less-returns-in_err-other g t c =
    let a = g.G.Algebra in
    let p = c.args.self.now in
    let context = scope_items c.args.context.now in
    let first = c.in_ok-judge_numbers.ensures in
    let second = c.in_ok-branch.ensures in
    other_fails_here a p context 0 (node_at a.nil p c.args.left) (node_at a.nil p c.args.right) (node_at a.nil p c.args.below) (node_at a.nil p c.args.otherwise) c.requires.begun.ready first second (broke_judged c.from_residual-in_err-other.result _ c.from_residual-in_err-other.ensures.1) c.in_err-other.ensures.answer

pub judge_less-same_type-requires-clause-right : goal.judge_less-same_type-requires-clause-right
judge_less-same_type-requires-clause-right g t c =
    let second = c.in_ok-branch.ensures in
    let third = c.in_ok-other.ensures in
    sound_wider 256 256 (length c.judge_term.new.types.types.items) (length c.judge_term-2.new.types.types.items) c.in_ok-branch.branch (omega arith) (grown_longer third.grows.0) second.grows.1

pub judge_less-returns-then-not-same_type : goal.judge_less-returns-then-not-same_type
judge_less-returns-then-not-same_type g t c =
    let a = g.G.Algebra in
    let p = c.args.self.now in
    let context = scope_items c.args.context.now in
    let first = c.in_ok-judge_numbers.ensures in
    let second = c.in_ok-branch.ensures in
    let third = c.in_ok-other.ensures in
    branches_differ_here a p context 0 (node_at a.nil p c.args.left) (node_at a.nil p c.args.right) (node_at a.nil p c.args.below) (node_at a.nil p c.args.otherwise) c.requires.begun.ready first second third c.same_type.ensures (ap Err (c.at.ensures ∙ ap (fault TypesDiffer) c.place.ensures)) c.if-not-same_type.true

pub judge_less-returns : goal.judge_less-returns
judge_less-returns g t c =
    let a = g.G.Algebra in
    let p = c.args.self.now in
    let context = scope_items c.args.context.now in
    let first = c.in_ok-judge_numbers.ensures in
    let second = c.in_ok-branch.ensures in
    let third = c.in_ok-other.ensures in
    less_exit a p context 0 (node_at a.nil p c.args.left) (node_at a.nil p c.args.right) (node_at a.nil p c.args.below) (node_at a.nil p c.args.otherwise) c.requires.begun.ready first second third c.same_type.ensures c.join.new.self c.if-not-same_type.false c.requires.count c.join.ensures c.add.ensures

pub judge_numbers-returns-in_err-judge_number-2 : goal.judge_numbers-returns-in_err-judge_number-2
judge_numbers-returns-in_err-judge_number-2 g t c =
    let a = g.G.Algebra in
    let p = c.args.self.now in
    let context = scope_items c.args.context.now in
    let types = c.args.types.now in
    let first = c.in_ok-judge_number.ensures in
    let left = number_judged a p context types (node_at a.nil p c.args.left) in
    let right = number_judged a p context types (node_at a.nil p c.args.right) in
    refused_uses a p context (both a left right) _ types c.judge_number-2.new.types (used_into c.from_residual-in_err-judge_number-2.result c.judge_number.new.usage)
    (broke_used c.from_residual-in_err-judge_number-2.result c.judge_number.new.usage c.from_residual-in_err-judge_number-2.ensures.1)
    (second_fails a left right first.answer (c.in_err-judge_number-2.ensures.answer ∙ number_later a p context c.requires.begun.ready first.grows (node_at a.nil p c.args.right)))

pub judge_numbers-returns : goal.judge_numbers-returns
judge_numbers-returns g t c =
    let a = g.G.Algebra in
    let p = c.args.self.now in
    let context = scope_items c.args.context.now in
    numbers_exit a p context (node_at a.nil p c.args.left) (node_at a.nil p c.args.right) c.requires.begun.ready c.in_ok-judge_number.ensures c.in_ok-judge_number-2.ensures c.requires.count (search rules)

pub judge_term-overflow_sub-count : goal.judge_term-overflow_sub-count
judge_term-overflow_sub-count g t c =
    let a = g.G.Algebra in
    let p = c.args.self.now in
    let o = opened a.nil p c.args.node c.index.result.now (Name c.in-Name.k) c.requires.begun.there c.index.ensures c.in-Name.is c.requires.begun.ready in
    omega (arith, o.ready.names, c.requires.count)

pub judge_term-overflow_sub-count-in-Name : goal.judge_term-overflow_sub-count-in-Name
judge_term-overflow_sub-count-in-Name g t c =
    let a = g.G.Algebra in
    let p = c.args.self.now in
    let o = opened a.nil p c.args.node c.index.result.now (Name c.in-Name.k) c.requires.begun.there c.index.ensures c.in-Name.is c.requires.begun.ready in
    omega (arith, o.ready.names, c.requires.count)

pub judge_term-unwrap-requires : goal.judge_term-unwrap-requires
judge_term-unwrap-requires g t c =
    let a = g.G.Algebra in
    let p = c.args.self.now in
    let context = scope_items c.args.context.now in
    let o = opened a.nil p c.args.node c.index.result.now (Name c.in-Name.k) c.requires.begun.there c.index.ensures c.in-Name.is c.requires.begun.ready in
    subst IsSome (sym (c.get.ensures ∙ slice_get-get_or context c.in-Name.k Num (omega (arith, o.ready.names)))) refl

pub judge_term-returns-in-Name : goal.judge_term-returns-in-Name
judge_term-returns-in-Name g t c =
    let a = g.G.Algebra in
    let p = c.args.self.now in
    let context = scope_items c.args.context.now in
    let types = c.args.types.now in
    let o = opened a.nil p c.args.node c.index.result.now (Name c.in-Name.k) c.requires.begun.there c.index.ensures c.in-Name.is c.requires.begun.ready in
    let k = c.in-Name.k in
    let below : k < length context = omega (arith, o.ready.names) in
    let found = same_Some _ _ (sym c.unwrap.ensures ∙ c.get.ensures ∙ slice_get-get_or context k Num below) in
    let sound = ap (type_sound 256 (length types.types.items)) found ∙ sound_wider 256 256 (length p.rule.now.program.types.items) (length types.types.items) (get_or context k Num) (omega arith) (declared_first o.ready) (o.ready.sound k below) in
    let wrote = c.once.ensures ∙ ap (λ n. set (replicate 32 a.nil) (n - 1 - k) a.unit) c.requires.count in
    subst (λ u. Judges a p context u types types (Ok (c.unwrap.result, c.once.result))) (sym o.is) (name_exit a p context types (omega (arith, o.ready.levels)) c.index.result.now.place k below found wrote sound)

pub judge_term-returns-in-Number : goal.judge_term-returns-in-Number
judge_term-returns-in-Number g t c =
    let a = g.G.Algebra in
    let p = c.args.self.now in
    let context = scope_items c.args.context.now in
    let types = c.args.types.now in
    let o = opened a.nil p c.args.node c.index.result.now (Number c.in-Number.field-0) c.requires.begun.there c.index.ensures c.in-Number.is c.requires.begun.ready in
    subst (λ u. Judges a p context u types types (Ok (Num, c.none.result))) (sym o.is) (literal_exit a p context types (omega (arith, o.ready.levels)) c.index.result.now.place c.in-Number.field-0 c.none.ensures)

pub judge_term-judge_fn-requires : goal.judge_term-judge_fn-requires
judge_term-judge_fn-requires g t c κs within =
    let a = g.G.Algebra in
    let p = c.args.self.now in
    let o = opened a.nil p c.args.node c.index.result.now (Fn c.in-Fn.binder c.in-Fn.domain c.in-Fn.body) c.requires.begun.there c.index.ensures c.in-Fn.is c.requires.begun.ready in
    let inner = o.older.2 in
    (search rules, (search rules, (search rules, (search rules, record { there = o.fits; ready = o.ready }))))

pub judge_term-returns-in-Fn : goal.judge_term-returns-in-Fn
judge_term-returns-in-Fn g t c =
    let a = g.G.Algebra in
    let p = c.args.self.now in
    let context = scope_items c.args.context.now in
    let types = c.args.types.now in
    let o = opened a.nil p c.args.node c.index.result.now (Fn c.in-Fn.binder c.in-Fn.domain c.in-Fn.body) c.requires.begun.there c.index.ensures c.in-Fn.is c.requires.begun.ready in
    subst (λ u. Judges a p context u types c.judge_fn.new.types (judged_into c.judge_fn.result c.judge_fn.new.usage)) (sym o.is) (judges_as (term_in a.nil p.grades.now (tables_of p.rule.now.program) c.index.result.now.place (Fn c.in-Fn.binder c.in-Fn.domain c.in-Fn.body)) (judged_into c.judge_fn.result c.judge_fn.new.usage) c.judge_fn.ensures refl (omega arith))

pub judge_term-judge_call-requires : goal.judge_term-judge_call-requires
judge_term-judge_call-requires g t c κs within =
    let a = g.G.Algebra in
    let p = c.args.self.now in
    let o = opened a.nil p c.args.node c.index.result.now (Call c.in-Call.function c.in-Call.argument) c.requires.begun.there c.index.ensures c.in-Call.is c.requires.begun.ready in
    let first = o.older.0 in
    let second = o.older.1 in
    (search rules, (search rules, (search rules, (search rules, record { there = o.fits; ready = o.ready }))))

pub judge_term-returns-in-Call : goal.judge_term-returns-in-Call
judge_term-returns-in-Call g t c =
    let a = g.G.Algebra in
    let p = c.args.self.now in
    let context = scope_items c.args.context.now in
    let types = c.args.types.now in
    let o = opened a.nil p c.args.node c.index.result.now (Call c.in-Call.function c.in-Call.argument) c.requires.begun.there c.index.ensures c.in-Call.is c.requires.begun.ready in
    subst (λ u. Judges a p context u types c.judge_call.new.types (judged_into c.judge_call.result c.judge_call.new.usage)) (sym o.is) (judges_as (term_in a.nil p.grades.now (tables_of p.rule.now.program) c.index.result.now.place (Call c.in-Call.function c.in-Call.argument)) (judged_into c.judge_call.result c.judge_call.new.usage) c.judge_call.ensures refl (omega arith))

pub judge_term-judge_numbers-requires : goal.judge_term-judge_numbers-requires
judge_term-judge_numbers-requires g t c κs within =
    let a = g.G.Algebra in
    let p = c.args.self.now in
    let o = sum_opened a p c.args.node c.index.result.now c.in-Add.left c.in-Add.right c.requires.begun.there c.index.ensures c.in-Add.is c.requires.begun.ready in
    let first = o.older.0 in
    let second = o.older.1 in
    (search rules, (search rules, (search rules, (search rules, record { there = o.fits; ready = o.ready }))))

pub judge_term-returns-in_err-judge_numbers-in-Add : goal.judge_term-returns-in_err-judge_numbers-in-Add
judge_term-returns-in_err-judge_numbers-in-Add g t c =
    let a = g.G.Algebra in
    let p = c.args.self.now in
    let context = scope_items c.args.context.now in
    let types = c.args.types.now in
    let o = sum_opened a p c.args.node c.index.result.now c.in-Add.left c.in-Add.right c.requires.begun.there c.index.ensures c.in-Add.is c.requires.begun.ready in
    refused_judges a p context (node_at a.nil p c.args.node) types c.judge_numbers.new.types (judged_into c.from_residual-in_err-judge_numbers-in-Add.result c.judge_numbers.new.usage) (broke_judged c.from_residual-in_err-judge_numbers-in-Add.result c.judge_numbers.new.usage c.from_residual-in_err-judge_numbers-in-Add.ensures.1)
    (o.same (context_types a.nil p.grades.now types.types.items context) ∙ ends _ _ _ c.in_err-judge_numbers-in-Add.ensures.answer)

pub judge_term-returns-in_ok-judge_numbers-in-Add : goal.judge_term-returns-in_ok-judge_numbers-in-Add
judge_term-returns-in_ok-judge_numbers-in-Add g t c =
    let a = g.G.Algebra in
    let p = c.args.self.now in
    let context = scope_items c.args.context.now in
    let types = c.args.types.now in
    let o = sum_opened a p c.args.node c.index.result.now c.in-Add.left c.in-Add.right c.requires.begun.there c.index.ensures c.in-Add.is c.requires.begun.ready in
    judges_as (node_at a.nil p c.args.node) (Ok (Num, c.judge_numbers.new.usage)) (number_exit a p context (part a.nil p (Add c.in-Add.left c.in-Add.right)) c.in_ok-judge_numbers-in-Add.ensures refl (omega arith)) (o.same (context_types a.nil p.grades.now types.types.items context)) (omega (arith, o.size))

pub judge_term-judge_number-requires : goal.judge_term-judge_number-requires
judge_term-judge_number-requires g t c κs within =
    let a = g.G.Algebra in
    let p = c.args.self.now in
    let o = opened a.nil p c.args.node c.index.result.now (Half c.in-Half.part) c.requires.begun.there c.index.ensures c.in-Half.is c.requires.begun.ready in
    let first = o.older in
    (search rules, (search rules, (search rules, (search rules, record { there = o.fits; ready = ready_as (node_at a.nil p c.in-Half.part) o.ready (omega arith) (omega arith) (omega arith) }))))

pub judge_term-returns-in_err-judge_number-in-Half : goal.judge_term-returns-in_err-judge_number-in-Half
judge_term-returns-in_err-judge_number-in-Half g t c =
    let a = g.G.Algebra in
    let p = c.args.self.now in
    let context = scope_items c.args.context.now in
    let types = c.args.types.now in
    let o = opened a.nil p c.args.node c.index.result.now (Half c.in-Half.part) c.requires.begun.there c.index.ensures c.in-Half.is c.requires.begun.ready in
    refused_judges a p context (node_at a.nil p c.args.node) types c.judge_number.new.types (judged_into c.from_residual.result c.judge_number.new.usage) (broke_judged c.from_residual.result c.judge_number.new.usage c.from_residual.ensures.1)
    (ap (judged a (context_types a.nil p.grades.now types.types.items context)) o.is ∙ ends _ _ _ c.in_err-judge_number-in-Half.ensures.answer)

pub judge_term-returns-in_ok-judge_number-in-Half : goal.judge_term-returns-in_ok-judge_number-in-Half
judge_term-returns-in_ok-judge_number-in-Half g t c =
    let a = g.G.Algebra in
    let p = c.args.self.now in
    let context = scope_items c.args.context.now in
    let types = c.args.types.now in
    let o = opened a.nil p c.args.node c.index.result.now (Half c.in-Half.part) c.requires.begun.there c.index.ensures c.in-Half.is c.requires.begun.ready in
    subst (λ u. Judges a p context u types c.judge_number.new.types (Ok (Num, c.judge_number.new.usage))) (sym o.is) (number_exit a p context (term_in a.nil p.grades.now (tables_of p.rule.now.program) c.index.result.now.place (Half c.in-Half.part)) c.in_ok-judge_number-in-Half.ensures refl (omega arith))

pub judge_term-judge_less-requires : goal.judge_term-judge_less-requires
judge_term-judge_less-requires g t c κs within =
    let a = g.G.Algebra in
    let p = c.args.self.now in
    let o = opened a.nil p c.args.node c.index.result.now (Less c.in-Less.left c.in-Less.right c.in-Less.below c.in-Less.otherwise) c.requires.begun.there c.index.ensures c.in-Less.is c.requires.begun.ready in
    let first = o.older.0 in
    let second = o.older.1 in
    let third = o.older.2 in
    let fourth = o.older.3 in
    (search rules, (search rules, (search rules, (search rules, record { there = o.fits; ready = o.ready }))))

pub judge_term-returns-in-Less : goal.judge_term-returns-in-Less
judge_term-returns-in-Less g t c =
    let a = g.G.Algebra in
    let p = c.args.self.now in
    let context = scope_items c.args.context.now in
    let types = c.args.types.now in
    let o = opened a.nil p c.args.node c.index.result.now (Less c.in-Less.left c.in-Less.right c.in-Less.below c.in-Less.otherwise) c.requires.begun.there c.index.ensures c.in-Less.is c.requires.begun.ready in
    subst (λ u. Judges a p context u types c.judge_less.new.types (judged_into c.judge_less.result c.judge_less.new.usage)) (sym o.is) (judges_as (term_in a.nil p.grades.now (tables_of p.rule.now.program) c.index.result.now.place (Less c.in-Less.left c.in-Less.right c.in-Less.below c.in-Less.otherwise)) (judged_into c.judge_less.result c.judge_less.new.usage) c.judge_less.ensures refl (omega arith))
