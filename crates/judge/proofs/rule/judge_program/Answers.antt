use Rattle.std.proofs.Common.{◌≡◌, ◌<◌, ◌*◌, rules, Bool, false, ℕ, eqb, length, take, replicate, ◌++◌, ◌-◌, ap, sym, ◌∙◌, arith}
use Rattle.std.proofs.lemmas.Bool.{eqb-false}
use Rattle.language.specs.Reading.{tables_of}
use Rattle.judge.proofs.Rules.{accepts, refuses}
use Rattle.judge.proofs.Room.{usage_fits}
use prog.Memory.{size}
use denote.Memory.{lone}
use Rattle.judge.proofs.rule.judge_program.Goals as goal

-- a table that is not empty
some_entry : (n : ℕ) (b : Bool) → b ≡ eqb n 0 → b ≡ false → 0 < n
some_entry n b e no' = omega (arith, eqb-false n 0 (sym e ∙ no'))

pub none-usage-requires : goal.none-usage-requires
none-usage-requires g c =
    let room : length c.args.grades.now * size (lone g.row.G.mir) < 9223372036854775808 = search rules in
    usage_fits (lone g.row.G.mir) (length c.args.grades.now) room c.if-grades-lt-GRADES.false

pub judge_rule-judged-requires : goal.judge_rule-judged-requires
judge_rule-judged-requires g c =
    let room : length c.args.grades.now * size (lone g.row.G.mir) < 9223372036854775808 = search rules in
    usage_fits (lone g.row.G.mir) (length c.args.grades.now) room c.if-grades-lt-GRADES.false

pub first-used-requires : goal.first-used-requires
first-used-requires g c =
    let room : length c.args.grades.now * size (lone g.row.G.mir) < 9223372036854775808 = search rules in
    (usage_fits (lone g.row.G.mir) (length c.args.grades.now) room c.if-grades-lt-GRADES.false, omega (arith, c.args.rule.now.program.few_inputs))

pub returns-in-Ok : goal.returns-in-Ok
returns-in-Ok g c =
    let program = c.args.rule.now.program in
    let there : 0 < length program.nodes.items = omega (arith, some_entry _ _ c.is_empty.ensures c.if-is_empty.false, program.nodes.ok.0) in
    accepts g.G.Algebra (tables_of program) c.args.grades.now c.args.work.now c.args.verdict.now c.if-grades-lt-GRADES.false c.if-work-lt-WORK.false there
    (take program.inputs c.judge_rule-judged.new.usage.grades) c.report.new.work (sym c.is_some.ensures ∙ c.if-is_some.false) c.in-Ok.ensures (c.report.ensures ∙ ap (λ us. us ++ replicate (2592 - length us) g.G.Algebra.nil) c.first-used.ensures.usages)

pub returns-in-Err : goal.returns-in-Err
returns-in-Err g c =
    let program = c.args.rule.now.program in
    let there : 0 < length program.nodes.items = omega (arith, some_entry _ _ c.is_empty.ensures c.if-is_empty.false, program.nodes.ok.0) in
    refuses g.G.Algebra (tables_of program) c.args.grades.now c.args.work.now c.args.verdict.now c.if-grades-lt-GRADES.false c.if-work-lt-WORK.false there
    c.in-Err.fault c.report-in-Err.new.work (sym c.is_some.ensures ∙ c.if-is_some.false) c.in-Err.ensures (search rules)
