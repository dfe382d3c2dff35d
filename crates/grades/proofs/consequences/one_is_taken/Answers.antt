use Rattle.grades.proofs.Follows.{one_taken}
use Rattle.grades.proofs.consequences.one_is_taken.Goals as goal

pub returns : goal.returns
returns g c = one_taken g.met.A.Algebra.kept
