use Rattle.std.proofs.Common.{◌≡◌, ◌-◌, ◌≤◌, [], ◌++◌, length, replicate, Ok, Err, sym, ap, ◌∙◌, append-nil, arith, rules}
use Rattle.std.proofs.lemmas.List.{length-take}
use Rattle.language.specs.declared.program.SimpleType.TheVariants.{Num}
use Rattle.tokens.specs.declared.refusal.Refusal.TheVariants.{AnswerNotNum}
use Rattle.tokens.specs.Tokens.{fault}
use Rattle.typing.specs.Judging.{inputs_covered}
use Rattle.grammar.specs.Storing.{place_of}
use Rattle.judge.specs.Newest.{newest}
use Rattle.judge.specs.Meaning.{type_in, node_at}
use Rattle.judge.specs.Programs.{graded_rule, usages_of}
use Rattle.judge.proofs.Chains.{broke_used}
use Rattle.judge.proofs.Rules.{run_ready, run_fails, no_answer, run_tested}
use Rattle.judge.proofs.graded.GradedRule.judge_rule.Goals as goal

pub judge_run-requires : goal.judge_run-requires
judge_run-requires g c =
    (search rules, run_ready g.G.Algebra c.args.self.now _ (append-nil _) c.fill.new.self c.fill.ensures)

pub returns-in_err-answer : goal.returns-in_err-answer
returns-in_err-answer g c =
    let a = g.G.Algebra in
    let p = c.args.self.now in
    let program = p.rule.now.program in
    let context = replicate program.inputs Num ++ [] in
    let is = append-nil (replicate program.inputs Num) in
    ap (usages_of program.inputs) (broke_used c.from_residual.result c.judge_run.new.usage c.from_residual.ensures.1) ∙ sym (run_fails a p context is c.fill.new.self c.in_err-answer.ensures.answer)

pub returns-in-Num : goal.returns-in-Num
returns-in-Num g c =
    let a = g.G.Algebra in
    let p = c.args.self.now in
    let program = p.rule.now.program in
    let context = replicate program.inputs Num ++ [] in
    let is = append-nil (replicate program.inputs Num) in
    let usage = c.judge_run.new.usage in
    let judged = ap (λ s. Ok (type_in a.nil p.grades.now c.judge_run.new.types.types.items s, newest a.nil usage.grades (length context))) (sym c.in-Num.is) ∙ c.in_ok-answer.ensures.answer in
    let long : program.inputs ≤ length usage.grades = omega (arith, c.first.ensures.many, ap length c.first.ensures.usages, length-take program.inputs usage.grades) in
    let tested = c.cover_inputs.ensures ∙ ap (inputs_covered a (graded_rule a p)) c.first.ensures.usages in
    run_tested a p context is c.fill.new.self usage long judged c.cover_inputs.result tested

pub returns-in-To : goal.returns-in-To
returns-in-To g c =
    let a = g.G.Algebra in
    let p = c.args.self.now in
    let program = p.rule.now.program in
    let context = replicate program.inputs Num ++ [] in
    let is = append-nil (replicate program.inputs Num) in
    let usage = c.judge_run.new.usage in
    let judged = ap (λ s. Ok (type_in a.nil p.grades.now c.judge_run.new.types.types.items s, newest a.nil usage.grades (length context))) (sym c.in-To.is) ∙ c.in_ok-answer.ensures.answer in
    let last : c.len.result - 1 ≡ length program.nodes.items - 1 = omega (arith, c.len.ensures, program.nodes.ok.0) in
    let placed = c.at.ensures ∙ ap (fault AnswerNotNum) (c.place.ensures ∙ ap (λ i. place_of (node_at a.nil p i)) last) in
    ap Err placed ∙ sym (no_answer a p context is c.fill.new.self judged)
