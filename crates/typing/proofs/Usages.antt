-- Usages binder by binder: covering is an order, which sum and product preserve and of which join is the least bound. Assumes nothing.
use Rattle.std.proofs.Common.{List, [], ◌∷◌, reverse}
use mathlib.Core.List.{reverse_aux}
use Rattle.grades.specs.declared.algebra.Algebra.{Ghosts}
use Rattle.grades.specs.Laws.{Laws}
use Rattle.typing.specs.Usages.{sum, join, product, Permits, Covers}

-- two lists of one length, related element by element
pub data Matched {X Y : Type 0} (R : X → Y → Type 0) : List X → List Y → Type 0 where
  none : Matched R [] []
  more : {x : X} {y : Y} {xs : List X} {ys : List Y} → R x y → Matched R xs ys → Matched R (x ∷ xs) (y ∷ ys)

module _ {X Y : Type 0} {R : X → Y → Type 0} where
  pub matched_rest : {x : X} {y : Y} {xs : List X} {ys : List Y} → Matched R (x ∷ xs) (y ∷ ys) → Matched R xs ys
  matched_rest (more h m) = m

  reversed_onto : {xs vs : List X} {ys ws : List Y} → Matched R xs ys → Matched R vs ws → Matched R (reverse_aux xs vs) (reverse_aux ys ws)
  reversed_onto none n = n
  reversed_onto (more h m) n = reversed_onto m (more h n)

  pub reversed : {xs : List X} {ys : List Y} → Matched R xs ys → Matched R (reverse xs) (reverse ys)
  reversed m = reversed_onto m none

-- two lists of one length
abbrev pub Fits : {X Y : Type 0} → List X → List Y → Type 0
Fits {X} {Y} = Matched {X = X} {Y = Y} (λ x y. Unit {0})

module _ {G : Type 0} (a : Ghosts G) where
  abbrev pub Covering : List G → List G → Type 0
  Covering = Matched (Permits a)

  pub covering : (v u : List G) → Covers a v u → Covering v u
  covering [] [] c = none
  covering [] (p ∷ u) c = absurd c
  covering (q ∷ v) [] c = absurd c
  covering (q ∷ v) (p ∷ u) c = more c.0 (covering v u c.1)

  pub covers : {v u : List G} → Covering v u → Covers a v u
  covers none = tt
  covers (more h c) = (h, covers c)

  module _ (laws : Laws a.nil a.unit a.plus a.times a.lub a.permits a.taking) where
    pub covering_refl : (u : List G) → Covering u u
    covering_refl [] = none
    covering_refl (p ∷ u) = more (laws.covers_refl p) (covering_refl u)

    pub covering_trans : {w v u : List G} → Covering w v → Covering v u → Covering w u
    covering_trans none d = d
    covering_trans (more h c) (more k d) = more (laws.covers_trans _ _ _ h k) (covering_trans c d)

    pub sum_covering : {v u w z : List G} → Covering v u → Covering w z → Covering (sum a v w) (sum a u z)
    sum_covering none d = none
    sum_covering (more h c) none = none
    sum_covering (more h c) (more k d) =
        more (laws.covers_trans _ _ _ (laws.sum_covers_left _ _ _ h) (laws.sum_covers_right _ _ _ k)) (sum_covering c d)

    pub product_covering : {v u : List G} (g : G) → Covering v u → Covering (product a g v) (product a g u)
    product_covering g none = none
    product_covering g (more h c) = more (laws.product_covers_right _ _ _ h) (product_covering g c)

    pub join_left : {u v : List G} → Fits u v → Covering (join a u v) u
    join_left none = none
    join_left (more h m) = more (laws.join_covers_left _ _) (join_left m)

    pub join_right : {u v : List G} → Fits u v → Covering (join a u v) v
    join_right none = none
    join_right (more h m) = more (laws.join_covers_right _ _) (join_right m)

    pub join_least : {w u v : List G} → Covering w u → Covering w v → Covering w (join a u v)
    join_least none d = none
    join_least (more h c) (more k d) = more (laws.join_least _ _ _ h k) (join_least c d)
