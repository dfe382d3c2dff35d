use Rattle.std.proofs.Common.{◌≡◌, ◌+◌, length}
use Rattle.std.specs.Option.{option_map}
use Rattle.language.specs.Scopes.{scope_items, open_names, find}
use Rattle.language.proofs.scope.Scope+ref+slice+u8.index_of.Given as goal

-- the name's place is its place in the scope that is left, and the binders passed before it
abbrev pub invariant-loop-scope : goal.invariant-loop-scope
invariant-loop-scope l =
    (l.passed + length (scope_items l.scope) ≡ length (scope_items l.self))
    × (option_map (λ k. k + l.passed) (find l.name (open_names l.scope)) ≡ find l.name (open_names l.self))
