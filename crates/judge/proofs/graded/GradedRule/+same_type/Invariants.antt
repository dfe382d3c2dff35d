use Rattle.std.proofs.Common.{ℕ, ◌+◌, max}
use Rattle.language.specs.declared.program.SimpleType.{SimpleType}
use Rattle.language.specs.declared.program.SimpleType.TheVariants.{Num, To}
use Rattle.judge.proofs.graded.GradedRule.+same_type.Given as goal

-- a bound on what a type refers to
abbrev pub reach : SimpleType → ℕ
reach Num = 0
reach (To grade from to) = 1 + max from to

abbrev pub decreases-same_type : goal.decreases-same_type
decreases-same_type g l = reach l.left
