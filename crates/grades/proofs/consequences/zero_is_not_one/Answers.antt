use Rattle.grades.proofs.Follows.{zero_not_one}
use Rattle.grades.proofs.consequences.zero_is_not_one.Goals as goal

pub returns : goal.returns
returns g c = zero_not_one g.met.A.Algebra.kept
