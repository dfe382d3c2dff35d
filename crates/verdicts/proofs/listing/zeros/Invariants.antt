use Rattle.std.proofs.Common.{◌≡◌, replicate, vec_items}
use Rattle.verdicts.proofs.listing.zeros.Given as goal

abbrev pub invariant-loop : goal.invariant-loop
invariant-loop g l = vec_items l.grades ≡ replicate l.counter g.G.Algebra.nil
