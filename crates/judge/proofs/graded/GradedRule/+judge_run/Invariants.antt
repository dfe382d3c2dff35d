use Rattle.judge.proofs.graded.GradedRule.+judge_run.Given as goal

abbrev pub decreases-judge_run : goal.decreases-judge_run
decreases-judge_run g l = l.inputs
