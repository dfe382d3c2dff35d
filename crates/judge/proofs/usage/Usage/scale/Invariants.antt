use Rattle.std.proofs.Common.{get_or}
use Rattle.judge.proofs.Newest.{Overwritten}
use Rattle.judge.proofs.usage.Usage.scale.Given as goal

abbrev pub invariant-loop-i : goal.invariant-loop-i
invariant-loop-i g l =
    Overwritten g.G.Algebra.nil (λ k. g.G.Algebra.times l.grade (get_or l.initial.self.grades k g.G.Algebra.nil)) l.initial.self.grades l.self.grades l.i
