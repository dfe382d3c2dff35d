use Rattle.std.proofs.Common.{sym}
use Rattle.language.specs.Reading.{tables_of}
use Rattle.judge.proofs.Nodes.{node_place}
use Rattle.judge.proofs.graded.GradedRule.place.Goals as goal

pub returns : goal.returns
returns g c =
    let p = c.args.self.now in
    sym (node_place (tables_of p.rule.now.program) _ _ p.rule.now.program.nodes_sound c.args.node c.requires c.index.result.now c.index.ensures g.G.Algebra.nil p.grades.now)
