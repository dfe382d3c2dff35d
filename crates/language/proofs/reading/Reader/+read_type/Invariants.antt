use Rattle.language.proofs.reading.Reader.+read_type.Given as goal

abbrev pub decreases-read_type : goal.decreases-read_type
decreases-read_type g l = l.depth
