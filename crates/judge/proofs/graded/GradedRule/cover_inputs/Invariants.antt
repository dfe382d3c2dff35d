use Rattle.std.proofs.Common.{◌≡◌, length, drop}
use Rattle.language.specs.Reading.{tables_of}
use Rattle.typing.specs.Judging.{inputs_covered}
use Rattle.judge.specs.Programs.{graded_rule}
use Rattle.judge.proofs.Inputs.{inputs_from}
use Rattle.judge.proofs.graded.GradedRule.cover_inputs.Given as goal

abbrev pub invariant-loop-binder : goal.invariant-loop-binder
invariant-loop-binder g l =
    (goal.iterator-loop-binder g).can_next l.binder-iterator × (goal.iterator-loop-binder g).is_finite l.binder-iterator
    × (inputs_covered g.G.Algebra (inputs_from g.G.Algebra (tables_of l.self.rule.now.program) l.self.grades.now (length l.yielded)) (drop (length l.yielded) l.usages) ≡ inputs_covered g.G.Algebra (graded_rule g.G.Algebra l.self) l.usages)
