use Rattle.grammar.proofs.Theorem.{exact}
use Rattle.grammar.proofs.reading_is_exact.Goals as goal

pub returns : goal.returns
returns g c = exact g.G.Written.reading g.G.Algebra.unit
