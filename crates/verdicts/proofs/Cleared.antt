-- Storing a rule writes only the places below the count of its grades. Assumes nothing.
use Rattle.std.proofs.Common.{◌≡◌, ℕ, zero, suc, ◌+◌, ◌-◌, ◌≤◌, ◌≢◌, List, ◌++◌, length, get_or, take, drop, replicate, sym, refl, ap, ◌∙◌, arith, length-drop}
use Rattle.std.proofs.lemmas.List.{length-replicate, get_or-drop, get_or-set_other, take-append-drop, ext_get_or}
use Rattle.language.specs.Reading.{State, changed, with_word, with_binder, with_input, zeros_from}
use Rattle.grammar.specs.Syntax.{Ty, num, to, Tm, name, literal, fn, binary, half, less, Rule, input, run}
use Rattle.grammar.specs.Storing.{keep_grade, entry, typed, parted, termed, ruled}

module _ {G : Type 0} (nil : G) where
  pub all_zeros : (n k : ℕ) → get_or (replicate n nil) k nil ≡ nil
  all_zeros zero k = refl
  all_zeros (suc n) zero = refl
  all_zeros (suc n) (suc k) = all_zeros n k

  -- zeros stand from the count of the grades on
  abbrev pub Cleared : State G → Type 0
  Cleared s = (k : ℕ) → s.program.grades ≤ k → get_or s.list k nil ≡ nil

  grade_cleared : (g : G) (s : State G) → Cleared s → Cleared (keep_grade g s).1
  grade_cleared g s c = λ k h. let ne : k ≢ s.program.grades = omega arith in get_or-set_other s.list s.program.grades k g nil ne ∙ c k (omega arith)

  typed_cleared : (a : Ty G) (s : State G) → Cleared s → Cleared (typed a s).1
  typed_cleared num s c = c
  typed_cleared (to g a b) s c =
      let i = keep_grade g (changed with_word s) in
      typed_cleared b (typed a i.1).1 (typed_cleared a i.1 (grade_cleared g (changed with_word s) c))

  parted_cleared : (u : Tm G) (s : State G) → Cleared s → Cleared (parted u s).1
  parted_cleared (name p k) s c = c
  parted_cleared (literal p z) s c = c
  parted_cleared (fn p n g a b) s c =
      let i = keep_grade g s in
      let r = changed (λ q. with_binder q (entry n i.0)) i.1 in
      parted_cleared b (changed with_word (typed a r).1) (typed_cleared a r (grade_cleared g s c))
  parted_cleared (binary p f a b) s c = parted_cleared b (changed with_word (termed a s).1) (parted_cleared a (changed with_word s) c)
  parted_cleared (half p a) s c = parted_cleared a (changed with_word s) c
  parted_cleared (less p a b d e) s c =
      let x = termed a s in
      let y = termed b x.1 in
      let z = termed d y.1 in
      parted_cleared e (changed with_word z.1) (parted_cleared d (changed with_word y.1) (parted_cleared b (changed with_word x.1) (parted_cleared a (changed with_word s) c)))

  pub ruled_cleared : (r : Rule G) (s : State G) → Cleared s → Cleared (ruled r s)
  ruled_cleared (input n g r) s c = let i = keep_grade g s in ruled_cleared r (changed (λ q. with_input q (entry n i.0)) i.1) (grade_cleared g s c)
  ruled_cleared (run u) s c = parted_cleared u (changed with_word s) c

  -- zeros over zeros change nothing
  pub zeros_same : (n : ℕ) (l : List G) → ((k : ℕ) → n ≤ k → get_or l k nil ≡ nil) → zeros_from nil n l ≡ l
  zeros_same n l c =
      let zeros : replicate (length l - n) nil ≡ drop n l =
      ext_get_or nil (replicate (length l - n) nil) (drop n l) (length-replicate (length l - n) nil ∙ sym (length-drop n l))
      (λ i h. all_zeros (length l - n) i ∙ sym (get_or-drop n l i nil ∙ c (n + i) (omega arith))) in
      ap (λ z. take n l ++ z) zeros ∙ take-append-drop n l
