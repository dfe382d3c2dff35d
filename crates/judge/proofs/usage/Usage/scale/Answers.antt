use Rattle.std.proofs.Common.{arith}
use Rattle.judge.proofs.Newest.{newest_each}
use Rattle.judge.proofs.usage.Usage.scale.Goals as goal

pub returns : goal.returns
returns g c =
    newest_each g.G.Algebra.nil (g.G.Algebra.times c.args.grade) c.args.self.now.grades c.loop-i.self.grades c.args.count (λ k below. c.loop-i.invariant.made k (omega arith))
