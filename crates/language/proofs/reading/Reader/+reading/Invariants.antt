use Rattle.std.proofs.Common.{◌+◌, ◌*◌}
use Rattle.language.proofs.reading.Reader.+reading.Given as goal

abbrev pub decreases-read_parts : goal.decreases-read_parts
decreases-read_parts g l = 2 * l.inner + 1

abbrev pub decreases-read_term : goal.decreases-read_term
decreases-read_term g l = 2 * l.depth
