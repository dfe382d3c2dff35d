use Rattle.std.proofs.Common.{rules}
use Rattle.judge.proofs.usage.Usage.join.Goals as goal

pub returns : goal.returns
returns g c = c.combine_with.ensures g.G.Algebra.lub (λ p q r made. search rules)
