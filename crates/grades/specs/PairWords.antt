-- The text law of a pairing, from those of its parts.
use Rattle.std.specs.Prelude.{◌≡◌, ℕ, ◌+◌, ◌-◌, ◌<◌, ◌≤◌, Bool, true, ◌&&◌, List, ◌∷◌, ◌++◌, length, take, drop, Some, None, codes, Option, ◌==◌, nat_le, nat_lt, slice_index, refl}
use Rattle.std.proofs.Common.{sym, ◌∙◌, ap, subst, ⊎_elim, inl, arith, take-add}
use Rattle.std.proofs.ByRecursion.{All-append}
use Rattle.std.proofs.lemmas.List.{append_assoc, take-append-drop, take_at, drop_at, drop-drop, drop_more, take_rest, get_or_at, length-append, length-take-le}
use Rattle.std.proofs.lemmas.Bool.{and_from, and_parts, cases_Bool, cond-true, cond-false, eq-eqb, eqb-true, lt-ltb, ltb-true, le-leb, leb-true}
use Rattle.text.proofs.Puts.{none_some}
use Rattle.grades.specs.declared.pairing.Pair.{Pair}
use Rattle.grades.specs.Pairs.{paired, pair_writing, with_second, from_first, pair_reading}
use Rattle.grades.specs.Texts.{Text, Stops, bar}
use Rattle.grades.specs.Readings.{same_answer, no_brace_from}

-- `|` stands at the place n
abbrev pub barred : List ℕ → ℕ → Bool
barred bs n = nat_lt n (length bs) && slice_index bs n == bar

-- what stands around a `|`
around : (bs : List ℕ) (n : ℕ) → barred bs n ≡ true → bs ≡ take n bs ++ (bar ∷ drop (n + 1) bs)
around bs n t =
    let b = and_parts (nat_lt n (length bs)) (slice_index bs n == bar) t in
    sym (take-append-drop n bs) ∙ ap (λ x. take n bs ++ x) (drop_more bs n 0 (ltb-true n (length bs) b.0) ∙ ap (λ x. x ∷ drop (n + 1) bs) (eqb-true (slice_index bs n) bar b.1))

-- a list by its first n, its place n, and the m after that
three_parts : (bs : List ℕ) (n m : ℕ) → barred bs n ≡ true → take (n + (1 + m)) bs ≡ take n bs ++ (codes "|" ++ take m (drop (n + 1) bs))
three_parts bs n m t =
    let b = and_parts (nat_lt n (length bs)) (slice_index bs n == bar) t in
    let here : drop n bs ≡ bar ∷ drop (n + 1) bs = drop_more bs n 0 (ltb-true n (length bs) b.0) ∙ ap (λ x. x ∷ drop (n + 1) bs) (eqb-true (slice_index bs n) bar b.1) in
    take-add n (1 + m) bs ∙ ap (λ x. take n bs ++ take (1 + m) x) here ∙ ap (λ x. take n bs ++ x) (take-add 1 m (bar ∷ drop (n + 1) bs))

-- a reading, once its first part is read
pub read_second : {A B : Type 0} (rA : List ℕ → Option (A × ℕ)) (rB : List ℕ → Option (B × ℕ)) (bs : List ℕ) (a : A) (n : ℕ) (o : Option (B × ℕ)) → Some (a, n) ≡ rA bs → n < length bs → slice_index bs n ≡ bar → o ≡ rB (take (length bs - (n + 1)) (drop (n + 1) bs)) → pair_reading rA rB bs ≡ with_second a n (take (length bs - (n + 1)) (drop (n + 1) bs)) o
read_second rA rB bs a n o e h c f =
    ap (from_first rB bs) (sym e) ∙ cond-true _ _ _ (and_from (nat_lt n (length bs)) (slice_index bs n == bar) (lt-ltb n (length bs) h) (eq-eqb (slice_index bs n) bar c)) ∙ ap (λ r. with_second a n r (rB r)) (sym (take_rest bs (n + 1))) ∙ ap (with_second a n (take (length bs - (n + 1)) (drop (n + 1) bs))) (sym f)

module _ {A B : Type 0} {rA : List ℕ → Option (A × ℕ)} {wA : A → List ℕ} {rB : List ℕ → Option (B × ℕ)} {wB : B → List ℕ} (textA : Text rA wA) (textB : Text rB wB) where
  -- what is read is the writing of the pair that is answered
  parts_from : (w rest : List ℕ) (p : Pair A B) (a : A) (n : ℕ) (b : B) (m : ℕ) → Stops rest → rA (w ++ rest) ≡ Some (a, n) → barred (w ++ rest) n ≡ true → rB (drop (n + 1) (w ++ rest)) ≡ Some (b, m) → m ≤ length (drop (n + 1) (w ++ rest)) → paired a b ≡ p → n + (1 + m) ≡ length w → w ≡ pair_writing wA wB p
  parts_from w rest p a n b m stop e t f fits same size =
      let bs : List ℕ = w ++ rest in
      let after : List ℕ = drop (n + 1) bs in
      let here = ltb-true n (length bs) (and_parts (nat_lt n (length bs)) (slice_index bs n == bar) t).0 in
      let first-long : length (take n bs) ≡ n = length-take-le n bs (omega arith) in
      let second-long : length (take m after) ≡ m = length-take-le m after fits in
      let left : drop m after ≡ rest = drop-drop m (n + 1) bs ∙ drop_at w rest (n + 1 + m) (omega arith) in
      let first : take n bs ≡ wA a = (textA.exact (take n bs) (bar ∷ after) a (inl refl)).0 (ap rA (sym (around bs n t)) ∙ e ∙ ap (λ k. Some (a, k)) (sym first-long)) in
      let second : take m after ≡ wB b = (textB.exact (take m after) rest b stop).0 (ap rB (ap (λ x. take m after ++ x) (sym left) ∙ take-append-drop m after) ∙ f ∙ ap (λ k. Some (b, k)) (sym second-long)) in
      sym (take_at w rest (length w) refl) ∙ ap (λ k. take k bs) (sym size) ∙ three_parts bs n m t ∙ ap (λ x. x ++ (codes "|" ++ take m after)) first ∙ ap (λ x. wA a ++ (codes "|" ++ x)) second ∙ ap (pair_writing wA wB) same

  pair_from : (w rest : List ℕ) (p : Pair A B) → Stops rest → pair_reading rA rB (w ++ rest) ≡ Some (p, length w) → w ≡ pair_writing wA wB p
  pair_from w rest p stop e = first_by (rA (w ++ rest)) refl e
    where
      second_by : (a : A) (n : ℕ) → rA (w ++ rest) ≡ Some (a, n) → barred (w ++ rest) n ≡ true → (o : Option (B × ℕ)) → rB (drop (n + 1) (w ++ rest)) ≡ o → with_second a n (drop (n + 1) (w ++ rest)) o ≡ Some (p, length w) → w ≡ pair_writing wA wB p
      second_by a n f t None g e = absurd (none_some (p, length w) e)
      second_by a n f t (Some (b, m)) g e =
          ⊎_elim
          (λ h. let same = same_answer (paired a b) p (n + (1 + m)) (length w) (sym (cond-true _ _ _ h) ∙ e) in parts_from w rest p a n b m stop f t g (leb-true m (length (drop (n + 1) (w ++ rest))) h) same.0 same.1)
          (λ h. absurd (none_some (p, length w) (sym (cond-false _ _ _ h) ∙ e)))
          (cases_Bool (nat_le m (length (drop (n + 1) (w ++ rest)))))

      first_by : (o : Option (A × ℕ)) → rA (w ++ rest) ≡ o → from_first rB (w ++ rest) o ≡ Some (p, length w) → w ≡ pair_writing wA wB p
      first_by None f e = absurd (none_some (p, length w) e)
      first_by (Some (a, n)) f e =
          ⊎_elim (λ t. second_by a n f t (rB (drop (n + 1) (w ++ rest))) refl (sym (cond-true _ _ _ t) ∙ e)) (λ t. absurd (none_some (p, length w) (sym (cond-false _ _ _ t) ∙ e))) (cases_Bool (barred (w ++ rest) n))

  -- a writing that nothing, `|` or `}` follows is read as the pair
  pair_back : (p : Pair A B) (rest : List ℕ) → Stops rest → pair_reading rA rB (pair_writing wA wB p ++ rest) ≡ Some (p, length (pair_writing wA wB p))
  pair_back p rest stop =
      let a = p.first in
      let b = p.second in
      let n = length (wA a) in
      let after : List ℕ = wB b ++ rest in
      let bs : List ℕ = wA a ++ (codes "|" ++ after) in
      let long = length-append (wA a) (codes "|" ++ after) in
      let first : rA bs ≡ Some (a, n) = (textA.exact (wA a) (codes "|" ++ after) a (inl refl)).1 refl in
      let second : rB after ≡ Some (b, length (wB b)) = (textB.exact (wB b) rest b stop).1 refl in
      let here : barred bs n ≡ true = and_from (nat_lt n (length bs)) (slice_index bs n == bar) (lt-ltb n (length bs) (omega arith)) (eq-eqb (slice_index bs n) bar (get_or_at (wA a) bar after 0 n refl)) in
      let past : drop (n + 1) bs ≡ after = sym (drop-drop 1 n bs) ∙ ap (drop 1) (drop_at (wA a) (codes "|" ++ after) n refl) in
      let size : n + (1 + length (wB b)) ≡ length (pair_writing wA wB p) = omega (arith, length-append (wA a) (codes "|" ++ wB b)) in
      ap (pair_reading rA rB) (append_assoc (wA a) (codes "|" ++ wB b) rest) ∙ ap (from_first rB bs) first ∙ cond-true _ _ _ here ∙ ap (λ r. with_second a n r (rB r)) past ∙ ap (with_second a n after) second ∙ cond-true _ _ _ (le-leb (length (wB b)) (length after) (omega (arith, length-append (wB b) rest))) ∙ ap (λ k. Some (p, k)) size

  pub pair_text : Text (pair_reading rA rB) (pair_writing wA wB)
  pair_text =
      record {
        exact = λ w rest p stop. (pair_from w rest p stop, λ e. subst (λ (v : List ℕ). pair_reading rA rB (v ++ rest) ≡ Some (p, length v)) (sym e) (pair_back p rest stop));
        no_brace = λ p. All-append _ (wA p.first) (codes "|" ++ wB p.second) (textA.no_brace p.first) (All-append _ (codes "|") (wB p.second) (no_brace_from (codes "|") refl) (textB.no_brace p.second));
      }
