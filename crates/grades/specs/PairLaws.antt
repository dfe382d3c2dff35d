-- The laws of a pairing, from those of its parts.
use Rattle.std.specs.Prelude.{◌≡◌, Bool, ◌&&◌, Some, None, Option, refl}
use Rattle.std.proofs.Common.{◌∙◌, ap}
use Rattle.std.proofs.lemmas.Bool.{and_from, and_parts, and_right}
use Rattle.grades.specs.declared.pairing.Pair.{Pair}
use Rattle.grades.specs.Laws.{Laws, left_covers}
use Rattle.grades.specs.Pairs.{paired, pair_with, pair_covers, both_left, pair_taking}

pub same_pair : {A B : Type 0} {a c : A} {b d : B} → a ≡ c → b ≡ d → paired a b ≡ paired c d
same_pair e f = λ i. record { first = e i; second = f i }

-- a first and a second part is left
left_both : {A B : Type 0} (f : A → A → Bool) (g : B → B → Bool) (x : Option A) (y : Option B) (p : Pair A B) → (left_covers f x p.first && left_covers g y p.second) ≡ left_covers (pair_covers f g) (both_left x y) p
left_both f g None y p = refl
left_both f g (Some a) None p = and_right _ _ refl
left_both f g (Some a) (Some b) p = refl

pub pair_laws : {A B : Type 0} {zA oA : A} {sA pA jA : A → A → A} {cA : A → A → Bool} {tA : A → Option A} {zB oB : B} {sB pB jB : B → B → B} {cB : B → B → Bool} {tB : B → Option B} → Laws zA oA sA pA jA cA tA → Laws zB oB sB pB jB cB tB → Laws (paired zA zB) (paired oA oB) (pair_with sA sB) (pair_with pA pB) (pair_with jA jB) (pair_covers cA cB) (pair_taking tA tB)
pair_laws {cA = cA} {tA = tA} {zB = zB} {oB = oB} {sB = sB} {cB = cB} {tB = tB} a b =
    record {
      sum_assoc = λ p q r. same_pair (a.sum_assoc p.first q.first r.first) (b.sum_assoc p.second q.second r.second);
      sum_comm = λ p q. same_pair (a.sum_comm p.first q.first) (b.sum_comm p.second q.second);
      sum_zero = λ p. same_pair (a.sum_zero p.first) (b.sum_zero p.second);
      product_assoc = λ p q r. same_pair (a.product_assoc p.first q.first r.first) (b.product_assoc p.second q.second r.second);
      one_product = λ p. same_pair (a.one_product p.first) (b.one_product p.second);
      product_one = λ p. same_pair (a.product_one p.first) (b.product_one p.second);
      zero_product = λ p. same_pair (a.zero_product p.first) (b.zero_product p.second);
      product_zero = λ p. same_pair (a.product_zero p.first) (b.product_zero p.second);
      product_sum = λ p q r. same_pair (a.product_sum p.first q.first r.first) (b.product_sum p.second q.second r.second);
      sum_product = λ p q r. same_pair (a.sum_product p.first q.first r.first) (b.sum_product p.second q.second r.second);
      covers_refl = λ p. and_from _ _ (a.covers_refl p.first) (b.covers_refl p.second);
      covers_trans = λ r q p s t. let x = and_parts (cA r.first q.first) (cB r.second q.second) s in let y = and_parts (cA q.first p.first) (cB q.second p.second) t in and_from _ _ (a.covers_trans r.first q.first p.first x.0 y.0) (b.covers_trans r.second q.second p.second x.1 y.1);
      covers_antisym = λ p q s t. let x = and_parts (cA p.first q.first) (cB p.second q.second) s in let y = and_parts (cA q.first p.first) (cB q.second p.second) t in same_pair (a.covers_antisym p.first q.first x.0 y.0) (b.covers_antisym p.second q.second x.1 y.1);
      sum_covers_left = λ q p r t. let x = and_parts (cA q.first p.first) (cB q.second p.second) t in and_from _ _ (a.sum_covers_left q.first p.first r.first x.0) (b.sum_covers_left q.second p.second r.second x.1);
      sum_covers_right = λ q p r t. let x = and_parts (cA q.first p.first) (cB q.second p.second) t in and_from _ _ (a.sum_covers_right q.first p.first r.first x.0) (b.sum_covers_right q.second p.second r.second x.1);
      product_covers_left = λ q p r t. let x = and_parts (cA q.first p.first) (cB q.second p.second) t in and_from _ _ (a.product_covers_left q.first p.first r.first x.0) (b.product_covers_left q.second p.second r.second x.1);
      product_covers_right = λ q p r t. let x = and_parts (cA q.first p.first) (cB q.second p.second) t in and_from _ _ (a.product_covers_right q.first p.first r.first x.0) (b.product_covers_right q.second p.second r.second x.1);
      join_covers_left = λ p q. and_from _ _ (a.join_covers_left p.first q.first) (b.join_covers_left p.second q.second);
      join_covers_right = λ p q. and_from _ _ (a.join_covers_right p.first q.first) (b.join_covers_right p.second q.second);
      join_least = λ r p q s t. let x = and_parts (cA r.first p.first) (cB r.second p.second) s in let y = and_parts (cA r.first q.first) (cB r.second q.second) t in and_from _ _ (a.join_least r.first p.first q.first x.0 y.0) (b.join_least r.second p.second q.second x.1 y.1);
      taking_covers = λ q p. ap (λ x. x && cB q.second (sB oB p.second)) (a.taking_covers q.first p.first) ∙ ap (λ x. left_covers cA (tA q.first) p.first && x) (b.taking_covers q.second p.second) ∙ left_both cA cB (tA q.first) (tB q.second) p;
      taking_zero = ap (λ o. both_left o (tB zB)) a.taking_zero;
    }
