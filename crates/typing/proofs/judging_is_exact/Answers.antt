use Rattle.typing.proofs.Theorem.{exact}
use Rattle.typing.proofs.judging_is_exact.Goals as goal

pub returns : goal.returns
returns g c = exact g.G.Algebra g.met.G.Algebra.kept
