use Rattle.std.proofs.Common.{◌≡◌, ◌∷◌, ◌++◌, vec_items, codes}
use Rattle.rulesheet.specs.Listings.{input_lines}
use Rattle.rulesheet.proofs.listing.inputs_printed.Given as goal

-- the lines of the inputs so far
abbrev pub invariant-loop-binder : goal.invariant-loop-binder
invariant-loop-binder g l = vec_items l.out ≡ codes "read" ++ (10 ∷ input_lines g.G.Written.writing g.G.Algebra.nil l.text l.session l.grades l.binder-index)
