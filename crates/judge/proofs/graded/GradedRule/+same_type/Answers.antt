use Rattle.std.proofs.Common.{sym, ◌∙◌}
use Rattle.std.proofs.lemmas.Bool.{true≢false}
use Rattle.judge.proofs.TypeMeaning.{arrows_tested, parts_tested, last_decides, second_decides, first_decides}
use Rattle.judge.proofs.graded.GradedRule.+same_type.Goals as goal
use Rattle.judge.proofs.graded.GradedRule.+same_type.Goals.{then-same, else-same}

pub returns-then-same_type : goal.returns-then-same_type
returns-then-same_type g t c =
    let a = g.G.Algebra in
    let laws = g.met.G.Algebra.kept in
    let list = c.args.self.now.grades.now in
    let types = c.args.types.now in
    let n = c.in-To-To in
    let arrows = arrows_tested a laws list types.types.items types.sound c.args.left c.args.right n.is-0 n.is-1 c.requires.left c.requires.right c.grade.result c.grade-in-To-To.result c.same.result c.grade.ensures c.grade-in-To-To.ensures c.same.ensures in
    let results = parts_tested a laws list types.types.items types.sound n.to n.result c.get-then-same_type.ensures c.get-then-same_type-2.ensures c.same_type-then-same_type.ensures in
    elim c.if-same.branch [
      | then-same w ↦ last_decides _ _ _ _ _ w.if-same.true (sym w.value-is ∙ c.if-same_type.true) (parts_tested a laws list types.types.items types.sound n.from n.domain w.get.ensures w.get-then-same.ensures w.same_type.ensures) results ∙ arrows
      | else-same w ↦ let no' = sym w.value-is ∙ c.if-same_type.true in absurd (true≢false (sym no' ∙ w.if-same.false))
    ]

pub returns-else-same_type : goal.returns-else-same_type
returns-else-same_type g t c =
    let a = g.G.Algebra in
    let laws = g.met.G.Algebra.kept in
    let list = c.args.self.now.grades.now in
    let types = c.args.types.now in
    let n = c.in-To-To in
    let arrows = arrows_tested a laws list types.types.items types.sound c.args.left c.args.right n.is-0 n.is-1 c.requires.left c.requires.right c.grade.result c.grade-in-To-To.result c.same.result c.grade.ensures c.grade-in-To-To.ensures c.same.ensures in
    elim c.if-same.branch [
      | then-same w ↦ w.value-is ∙ second_decides _ _ _ _ w.if-same.true (sym w.value-is ∙ c.if-same_type.false) (parts_tested a laws list types.types.items types.sound n.from n.domain w.get.ensures w.get-then-same.ensures w.same_type.ensures) ∙ arrows
      | else-same w ↦ w.value-is ∙ first_decides _ _ w.if-same.false ∙ arrows
    ]
