-- What the first entries of a list become when the list is changed entry by entry. Assumes nothing.
use Rattle.std.proofs.Common.{◌≡◌, ℕ, zero, suc, ◌+◌, ◌<◌, ◌≤◌, ◌≢◌, List, ◌∷◌, map, length, get_or, set, refl, ap, ◌∙◌, arith}
use Rattle.std.proofs.lemmas.List.{length-set, get_or-set_other}
use Rattle.std.proofs.lemmas.List.Edits.{fill_by_more}
use Rattle.typing.specs.Usages.{binder_by_binder}
use Rattle.judge.specs.Newest.{newest}

-- a list that is overwritten by a function of the index, up to a place
pub record Overwritten {X : Type 0} (d : X) (f : ℕ → X) (before now : List X) (i : ℕ) : Type 0 where
  pub long : length now ≡ length before
  pub made : (k : ℕ) → k < i → get_or now k d ≡ f k
  pub left : (k : ℕ) → i ≤ k → get_or now k d ≡ get_or before k d

-- and one place further
pub overwritten_more : {X : Type 0} (d : X) (f : ℕ → X) (before now : List X) (i : ℕ) (x : X) → i < length now → Overwritten d f before now i → x ≡ f i → Overwritten d f before (set now i x) (i + 1)
overwritten_more d f before now i x inside o here = record {
  long = length-set now i x ∙ o.long;
  made = λ k below. ap (λ y. get_or (set now i y) k d) here ∙ fill_by_more f now i d inside o.made k below;
  left = λ k past.
      let other : k ≢ i = omega arith in
      get_or-set_other now i k x d other ∙ o.left k (omega arith);
}

module _ {X : Type 0} (d : X) where
  -- entries past the first n do not count
  pub newest-set : (xs : List X) (i : ℕ) (x : X) (n : ℕ) → n ≤ i → newest d (set xs i x) n ≡ newest d xs n
  newest-set xs i x zero h = refl
  newest-set xs i x (suc n) h =
      let apart : n ≢ i = omega arith in
      let head = get_or-set_other xs i n x d apart in
      let tail = newest-set xs i x n (omega arith) in
      λ k. head k ∷ tail k

  -- entries that were made one from two, or one from one
  pub newest-both : (f : X → X → X) (xs ys zs : List X) (n : ℕ) → ((k : ℕ) → k < n → get_or zs k d ≡ f (get_or xs k d) (get_or ys k d)) → newest d zs n ≡ binder_by_binder f (newest d xs n) (newest d ys n)
  newest-both f xs ys zs zero h = refl
  newest-both f xs ys zs (suc n) h =
      let head = h n (omega arith) in
      let tail = newest-both f xs ys zs n (λ k below. h k (omega arith)) in
      λ k. head k ∷ tail k

  pub newest_each : (f : X → X) (xs zs : List X) (n : ℕ) → ((k : ℕ) → k < n → get_or zs k d ≡ f (get_or xs k d)) → newest d zs n ≡ map f (newest d xs n)
  newest_each f xs zs zero h = refl
  newest_each f xs zs (suc n) h =
      let head = h n (omega arith) in
      let tail = newest_each f xs zs n (λ k below. h k (omega arith)) in
      λ k. head k ∷ tail k
