-- What an algebra of usage keeps: the seven laws. Assumes nothing.
use Rattle.std.specs.Prelude.{◌≡◌, Bool, true, false, Some, None, Option}

-- what is left after a taking covers p; nothing is left where the taking was refused
abbrev pub left_covers : {G : Type 0} → (G → G → Bool) → Option G → G → Bool
left_covers covers None p = false
left_covers covers (Some q) p = covers q p

-- `covers q p` says that the declaration q permits the usage p
pub record Laws {G : Type 0} (zero one : G) (sum product join : G → G → G) (covers : G → G → Bool) (taking : G → Option G) : Type 0 where
  -- the sum is associative and commutative, with zero neutral
  pub sum_assoc : (p q r : G) → sum (sum p q) r ≡ sum p (sum q r)
  pub sum_comm : (p q : G) → sum p q ≡ sum q p
  pub sum_zero : (p : G) → sum zero p ≡ p
  -- the product is associative, with one neutral and zero absorbing on both sides
  pub product_assoc : (p q r : G) → product (product p q) r ≡ product p (product q r)
  pub one_product : (p : G) → product one p ≡ p
  pub product_one : (p : G) → product p one ≡ p
  pub zero_product : (p : G) → product zero p ≡ zero
  pub product_zero : (p : G) → product p zero ≡ zero
  -- the product distributes over the sum on both sides
  pub product_sum : (p q r : G) → product p (sum q r) ≡ sum (product p q) (product p r)
  pub sum_product : (p q r : G) → product (sum p q) r ≡ sum (product p r) (product q r)
  -- covering is an order, which sum and product preserve in each operand
  pub covers_refl : (p : G) → covers p p ≡ true
  pub covers_trans : (r q p : G) → covers r q ≡ true → covers q p ≡ true → covers r p ≡ true
  pub covers_antisym : (p q : G) → covers p q ≡ true → covers q p ≡ true → p ≡ q
  pub sum_covers_left : (q p r : G) → covers q p ≡ true → covers (sum q r) (sum p r) ≡ true
  pub sum_covers_right : (q p r : G) → covers q p ≡ true → covers (sum r q) (sum r p) ≡ true
  pub product_covers_left : (q p r : G) → covers q p ≡ true → covers (product q r) (product p r) ≡ true
  pub product_covers_right : (q p r : G) → covers q p ≡ true → covers (product r q) (product r p) ≡ true
  -- the join covers both and is covered by every grade that covers both
  pub join_covers_left : (p q : G) → covers (join p q) p ≡ true
  pub join_covers_right : (p q : G) → covers (join p q) q ≡ true
  pub join_least : (r p q : G) → covers r p ≡ true → covers r q ≡ true → covers r (join p q) ≡ true
  -- q covers one + p exactly when taking from q gives a grade that covers p
  pub taking_covers : (q p : G) → covers q (sum one p) ≡ left_covers covers (taking q) p
  -- taking from zero is refused
  pub taking_zero : taking zero ≡ None
