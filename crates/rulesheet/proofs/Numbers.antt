-- The numbers of a line, word by word.
use Rattle.std.proofs.Common.{◌≡◌, ℕ, suc, ◌+◌, ◌<◌, Bool, true, false, not, ◌==◌, List, [], ◌∷◌, ◌++◌, length, get_or, drop, ℤ, Some, None, Option, sym, refl, ap, ◌∙◌, append_assoc, append-nil, filter, arith}
use Rattle.std.specs.List.{slice_split, onto_first}
use Rattle.std.proofs.lemmas.List.{at_drop_more, at_drop_all}
use Rattle.std.proofs.lemmas.Bool.{cond-true, cond-false, ne_eqb}
use Rattle.rulesheet.specs.Readings.{blank, reading, before, ended, readings_after, readings}

-- the words of a line: what stands between blanks, where it has any byte
abbrev pub has_bytes : List ℕ → Bool
has_bytes w = not (length w == 0)

abbrev pub words : List ℕ → List (List ℕ)
words line = filter has_bytes (slice_split blank line)

-- the numbers of words
abbrev pub words_read : List (List ℕ) → Option (List ℤ)
words_read [] = Some []
words_read (w ∷ ws) = before (reading w) (words_read ws)

-- numbers before those that are still to come
abbrev pub joined : List ℤ → Option (List ℤ) → Option (List ℤ)
joined zs None = None
joined zs (Some ys) = Some (zs ++ ys)

-- the numbers so far, before those of the words from the place n on
abbrev pub Going : List ℕ → ℕ → List ℤ → Type 0
Going line n zs = joined zs (words_read (drop n (words line))) ≡ readings line

ended_read : (w : List ℕ) (ws : List (List ℕ)) → ended w (words_read (filter has_bytes ws)) ≡ words_read (filter has_bytes (w ∷ ws))
ended_read [] ws = refl
ended_read (b ∷ w) ws = ap words_read (sym (cond-true _ _ _ (ap not (ne_eqb (suc (length w)) 0 (λ e. omega arith)))))

-- bytes before the first of some parts
abbrev onto : List ℕ → List (List ℕ) → List (List ℕ)
onto w [] = w ∷ []
onto w (v ∷ vs) = (w ++ v) ∷ vs

onto_none : (vs : List (List ℕ)) → filter has_bytes (onto [] vs) ≡ filter has_bytes vs
onto_none [] = refl
onto_none (v ∷ vs) = refl

onto_more : (w : List ℕ) (b : ℕ) (vs : List (List ℕ)) → onto (w ++ b ∷ []) vs ≡ onto w (onto_first b vs)
onto_more w b [] = refl
onto_more w b (v ∷ vs) = ap (λ u. u ∷ vs) (append_assoc w (b ∷ []) v)

onto_split : (w bs : List ℕ) → readings_after w bs ≡ words_read (filter has_bytes (onto w (slice_split blank bs)))
onto_split w [] = ended_read w [] ∙ ap (λ u. words_read (filter has_bytes (u ∷ []))) (sym (append-nil w))
onto_split w (b ∷ bs) = by (blank b) refl (onto_split [] bs) (onto_split (w ++ b ∷ []) bs)
  where
    by : (t : Bool) → blank b ≡ t → readings_after [] bs ≡ words_read (filter has_bytes (onto [] (slice_split blank bs))) → readings_after (w ++ b ∷ []) bs ≡ words_read (filter has_bytes (onto (w ++ b ∷ []) (slice_split blank bs))) → readings_after w (b ∷ bs) ≡ words_read (filter has_bytes (onto w (slice_split blank (b ∷ bs))))
    by true t from on =
        let parts = slice_split blank bs in
        cond-true _ _ _ t ∙ ap (ended w) (from ∙ ap words_read (onto_none parts)) ∙ ended_read w parts ∙ ap (λ u. words_read (filter has_bytes (u ∷ parts))) (sym (append-nil w))
        ∙ ap (λ vs. words_read (filter has_bytes (onto w vs))) (sym (cond-true _ _ _ t))
    by false t from on =
        cond-false _ _ _ t ∙ on ∙ ap (λ vs. words_read (filter has_bytes vs)) (onto_more w b (slice_split blank bs))
        ∙ ap (λ vs. words_read (filter has_bytes (onto w vs))) (sym (cond-false _ _ _ t))

joined_none : (o : Option (List ℤ)) → joined [] o ≡ o
joined_none None = refl
joined_none (Some ys) = refl

joined_number : (zs : List ℤ) (z : ℤ) (rest : Option (List ℤ)) → joined zs (before (Some z) rest) ≡ joined (zs ++ z ∷ []) rest
joined_number zs z None = refl
joined_number zs z (Some ys) = ap Some (sym (append_assoc zs (z ∷ []) ys))

-- before the first word
pub begun : (line : List ℕ) → Going line 0 []
begun line = joined_none _ ∙ ap words_read (sym (onto_none (slice_split blank line))) ∙ sym (onto_split [] line)

module _ (line : List ℕ) (n : ℕ) (w : List ℕ) (zs : List ℤ) (turn : (n < length (words line)) × (w ≡ get_or (words line) n w)) (going : Going line n zs) where
  this : words_read (drop n (words line)) ≡ before (reading w) (words_read (drop (n + 1) (words line)))
  this = at_drop_more words_read (words line) n w turn.0 ∙ ap (λ u. before (reading u) (words_read (drop (n + 1) (words line)))) (sym turn.1)

  -- a word that is a number
  pub number_more : (z : ℤ) (zs' : List ℤ) → Some z ≡ reading w → zs' ≡ zs ++ z ∷ [] → Going line (n + 1) zs'
  number_more z zs' e f =
      let rest = words_read (drop (n + 1) (words line)) in
      ap (λ l. joined l rest) f ∙ sym (joined_number zs z rest) ∙ ap (λ o. joined zs (before o rest)) e ∙ ap (joined zs) (sym this) ∙ going

  -- a word that is none
  pub no_number : None ≡ reading w → None ≡ readings line
  no_number e = ap (λ o. joined zs (before o (words_read (drop (n + 1) (words line))))) e ∙ ap (joined zs) (sym this) ∙ going

-- behind the last word
pub all_numbers : (line : List ℕ) (n : ℕ) (zs : List ℤ) → n ≡ length (words line) → Going line n zs → Some zs ≡ readings line
all_numbers line n zs all going =
    ap Some (sym (append-nil zs)) ∙ ap (joined zs) (sym (at_drop_all words_read (words line) n (omega arith))) ∙ going
