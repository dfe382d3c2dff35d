-- What is known of the binders that are open where a term stands, the innermost first. Assumes nothing.
use Rattle.std.specs.Prelude.{ℕ, suc, cond, List, [], ◌∷◌, map, Some, None, Option}
use Rattle.std.specs.Borrow.{Bor}
use Rattle.std.specs.Str.{bytes_eq}
use Rattle.std.specs.Option.{option_map}
use Rattle.language.specs.declared.scope.Scope.{Scope, Empty, Inside'}

-- how many open binders are passed from the innermost outwards to the first one of that name
abbrev pub find : List ℕ → List (List ℕ) → Option ℕ
find name [] = None
find name (n ∷ ns) = cond (bytes_eq n name) (Some 0) (option_map suc (find name ns))

-- what is known of each open binder
abbrev pub scope_items : {T : Type 0} → Scope T → List T
scope_items Empty = []
scope_items (Inside' t p o) = t ∷ scope_items o

-- the names of the open binders
abbrev pub open_names : Scope (Bor (List ℕ)) → List (List ℕ)
open_names s = map (λ x. x.now) (scope_items s)
