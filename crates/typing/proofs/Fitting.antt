-- Every usage of a derivation fits its context. Assumes nothing.
use Rattle.std.proofs.Common.{◌≡◌, ℕ, zero, suc, List, [], ◌∷◌, length, refl, ap}
use Rattle.grades.specs.declared.algebra.Algebra.{Ghosts}
use Rattle.grammar.specs.Syntax.{Ty, Tm}
use Rattle.typing.specs.Usages.{unused, once, sum, product}
use Rattle.typing.specs.Derivations.{Has, name_has, number_has, fn_has, call_has, add_has, sub_has, half_has, less_has, wider}
use Rattle.typing.proofs.Usages.{none, more, matched_rest, Fits, Covering, covering}

pub fits_length : {X Y : Type 0} {xs : List X} {ys : List Y} → Fits xs ys → length ys ≡ length xs
fits_length none = refl
fits_length (more h m) = ap suc (fits_length m)

-- lists that fit one list
pub fits_both : {X Y Z : Type 0} {xs : List X} {ys : List Y} {zs : List Z} → Fits xs ys → Fits xs zs → Fits ys zs
fits_both none none = none
fits_both (more h m) (more k n) = more tt (fits_both m n)

module _ {G : Type 0} (a : Ghosts G) where
  unused_fits : (context : List (Ty G)) → Fits context (unused a context)
  unused_fits [] = none
  unused_fits (A ∷ context) = more tt (unused_fits context)

  once_fits : (context : List (Ty G)) (k : ℕ) → Fits context (once a context k)
  once_fits [] k = none
  once_fits (A ∷ context) zero = more tt (unused_fits context)
  once_fits (A ∷ context) (suc k) = more tt (once_fits context k)

  sum_fits : {context : List (Ty G)} {u v : List G} → Fits context u → Fits context v → Fits context (sum a u v)
  sum_fits none n = none
  sum_fits (more h m) (more k n) = more tt (sum_fits m n)

  product_fits : {context : List (Ty G)} {u : List G} (g : G) → Fits context u → Fits context (product a g u)
  product_fits g none = none
  product_fits g (more h m) = more tt (product_fits g m)

  covering_fits : {context : List (Ty G)} {v u : List G} → Fits context u → Covering a v u → Fits context v
  covering_fits none none = none
  covering_fits (more h m) (more k c) = more tt (covering_fits m c)

  pub has_fits : {context : List (Ty G)} {t : Tm G} {A : Ty G} {u : List G} → Has a context t A u → Fits context u
  has_fits (name_has {context} {k = k} e) = once_fits context k
  has_fits (number_has {context}) = unused_fits context
  has_fits (fn_has d) = matched_rest (has_fits d)
  has_fits (call_has {g = g} d e) = sum_fits (has_fits d) (product_fits g (has_fits e))
  has_fits (add_has d e) = sum_fits (has_fits d) (has_fits e)
  has_fits (sub_has d e) = sum_fits (has_fits d) (has_fits e)
  has_fits (half_has d) = has_fits d
  has_fits (less_has d e f g) = sum_fits (sum_fits (has_fits d) (has_fits e)) (has_fits f)
  has_fits (wider {u = u} {v = v} d c) = covering_fits (has_fits d) (covering a v u c)
