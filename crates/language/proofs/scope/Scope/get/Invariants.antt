use Rattle.std.proofs.Common.{◌≡◌}
use Rattle.std.specs.List.{slice_get}
use Rattle.language.specs.Scopes.{scope_items}
use Rattle.language.proofs.scope.Scope.get.Given as goal

abbrev pub invariant-loop-scope : goal.invariant-loop-scope
invariant-loop-scope g l = slice_get (scope_items l.scope) l.left ≡ slice_get (scope_items l.self) l.k
