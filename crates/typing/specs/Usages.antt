-- Usages: a grade for each open binder, the innermost first. Assumes nothing.
use Rattle.std.specs.Prelude.{◌≡◌, ℕ, zero, suc, true, List, [], ◌∷◌, map}
use Rattle.grades.specs.declared.algebra.Algebra.{Ghosts}
use Rattle.grammar.specs.Syntax.{Ty}

-- an operation binder by binder
abbrev pub binder_by_binder : {G : Type 0} → (G → G → G) → List G → List G → List G
binder_by_binder f [] v = []
binder_by_binder f (p ∷ u) [] = []
binder_by_binder f (p ∷ u) (q ∷ v) = f p q ∷ binder_by_binder f u v

module _ {G : Type 0} (a : Ghosts G) where
  -- zero for each binder of a context
  abbrev pub unused : List (Ty G) → List G
  unused [] = []
  unused (t ∷ context) = a.nil ∷ unused context

  -- one for the binder number k from the innermost outwards, and zero elsewhere
  abbrev pub once : List (Ty G) → ℕ → List G
  once [] k = []
  once (t ∷ context) zero = a.unit ∷ unused context
  once (t ∷ context) (suc k) = a.nil ∷ once context k

  abbrev pub sum : List G → List G → List G
  sum = binder_by_binder a.plus

  abbrev pub join : List G → List G → List G
  join = binder_by_binder a.lub

  -- a usage, as often as the grade says
  abbrev pub product : G → List G → List G
  product g u = map (a.times g) u

  -- q covers p
  abbrev pub Permits : G → G → Type 0
  Permits q p = a.permits q p ≡ true

  -- v covers u, binder by binder
  abbrev pub Covers : List G → List G → Type 0
  Covers [] [] = Unit {0}
  Covers [] (p ∷ u) = ⊥
  Covers (q ∷ v) [] = ⊥
  Covers (q ∷ v) (p ∷ u) = Permits q p × Covers v u
