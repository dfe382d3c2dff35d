use Rattle.std.proofs.Common.{◌+◌, ◌*◌, max}
use Rattle.judge.proofs.graded.GradedRule.+judging.Given as goal

-- parts are older than their term, and what is called for the same term stands lower
abbrev pub decreases-judge_term : goal.decreases-judge_term
decreases-judge_term g l = 4 * l.node

abbrev pub decreases-judge_number : goal.decreases-judge_number
decreases-judge_number g l = 4 * l.node + 1

abbrev pub decreases-judge_numbers : goal.decreases-judge_numbers
decreases-judge_numbers g l = 4 * max l.left l.right + 2

abbrev pub decreases-judge_fn : goal.decreases-judge_fn
decreases-judge_fn g l = 4 * l.body + 1

abbrev pub decreases-judge_call : goal.decreases-judge_call
decreases-judge_call g l = 4 * max l.function l.argument + 1

abbrev pub decreases-judge_less : goal.decreases-judge_less
decreases-judge_less g l = 4 * max (max l.left l.right) (max l.below l.otherwise) + 3
