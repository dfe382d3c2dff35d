use Rattle.std.proofs.Common.{◌≡◌, get_or}
use Rattle.judge.proofs.Newest.{Overwritten}
use Rattle.judge.proofs.usage.Usage.combine_with.Given as goal

abbrev pub invariant-loop-i : goal.invariant-loop-i
invariant-loop-i g l =
    (f : g.row.G.Denot → g.row.G.Denot → g.row.G.Denot) → ((p q r : g.row.G.Denot) → goal.F-post g l.combine p q r → r ≡ f p q)
    → Overwritten g.G.Algebra.nil (λ k. f (get_or l.initial.self.grades k g.G.Algebra.nil) (get_or l.other.grades k g.G.Algebra.nil)) l.initial.self.grades l.self.grades l.i
