use Rattle.std.proofs.Common.{rules}
use Rattle.judge.proofs.usage.Usage.add.Goals as goal

pub returns : goal.returns
returns g c = c.combine_with.ensures g.G.Algebra.plus (λ p q r made. search rules)
