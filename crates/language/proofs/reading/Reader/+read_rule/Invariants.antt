use Rattle.language.proofs.reading.Reader.+read_rule.Given as goal

abbrev pub decreases-read_rule : goal.decreases-read_rule
decreases-read_rule g l = l.left
