-- How many words and grades storing adds. Assumes nothing.
use Rattle.std.proofs.Common.{◌≡◌, ℕ, ◌+◌, ◌-◌, ◌<◌, ◌≤◌, max, refl, arith}
use Rattle.language.specs.Reading.{State, changed, with_word, with_binder, with_input}
use Rattle.grammar.specs.Syntax.{Ty, num, to, Tm, name, literal, fn, binary, half, less, Rule, input, run, rule_grades, run_of, type_words, type_grades, type_depth, term_words, term_grades, term_depth}
use Rattle.grammar.specs.Storing.{keep_grade, keep_node, entry, place_of, typed, parted, termed, ruled}

module _ {G : Type 0} where
  pub typed_words : (a : Ty G) (s : State G) → (typed a s).1.program.words ≡ s.program.words + type_words a
  typed_words num s = refl
  typed_words (to g a b) s =
      let x = (typed a (keep_grade g (changed with_word s)).1).1 in
      let e = typed_words a (keep_grade g (changed with_word s)).1 in
      let f = typed_words b x in
      omega arith

  pub typed_grades : (a : Ty G) (s : State G) → (typed a s).1.program.grades ≡ s.program.grades + type_grades a
  typed_grades num s = omega arith
  typed_grades (to g a b) s =
      let x = (typed a (keep_grade g (changed with_word s)).1).1 in
      let e = typed_grades a (keep_grade g (changed with_word s)).1 in
      let f = typed_grades b x in
      omega arith

  -- the word of the term itself is counted already
  pub parted_words : (u : Tm G) (s : State G) → (parted u s).1.program.words + 1 ≡ s.program.words + term_words u
  parted_words (name p k) s = refl
  parted_words (literal p z) s = refl
  parted_words (fn p n g a b) s =
      let i = keep_grade g s in
      let r = changed (λ q. with_binder q (entry n i.0)) i.1 in
      let x = typed a r in
      let e = typed_words a r in
      let f = parted_words b (changed with_word x.1) in
      omega arith
  parted_words (binary p form a b) s =
      let x = keep_node (place_of a) (parted a (changed with_word s)) in
      let e = parted_words a (changed with_word s) in
      let f = parted_words b (changed with_word x.1) in
      omega arith
  parted_words (half p a) s = let e = parted_words a (changed with_word s) in omega arith
  parted_words (less p a b c d) s =
      let x = keep_node (place_of a) (parted a (changed with_word s)) in
      let y = keep_node (place_of b) (parted b (changed with_word x.1)) in
      let z = keep_node (place_of c) (parted c (changed with_word y.1)) in
      let e = parted_words a (changed with_word s) in
      let f = parted_words b (changed with_word x.1) in
      let g = parted_words c (changed with_word y.1) in
      let h = parted_words d (changed with_word z.1) in
      omega arith

  pub parted_grades : (u : Tm G) (s : State G) → (parted u s).1.program.grades ≡ s.program.grades + term_grades u
  parted_grades (name p k) s = omega arith
  parted_grades (literal p z) s = omega arith
  parted_grades (fn p n g a b) s =
      let i = keep_grade g s in
      let r = changed (λ q. with_binder q (entry n i.0)) i.1 in
      let x = typed a r in
      let e = typed_grades a r in
      let f = parted_grades b (changed with_word x.1) in
      omega arith
  parted_grades (binary p form a b) s =
      let x = keep_node (place_of a) (parted a (changed with_word s)) in
      let e = parted_grades a (changed with_word s) in
      let f = parted_grades b (changed with_word x.1) in
      omega arith
  parted_grades (half p a) s = let e = parted_grades a (changed with_word s) in omega arith
  parted_grades (less p a b c d) s =
      let x = keep_node (place_of a) (parted a (changed with_word s)) in
      let y = keep_node (place_of b) (parted b (changed with_word x.1)) in
      let z = keep_node (place_of c) (parted c (changed with_word y.1)) in
      let e = parted_grades a (changed with_word s) in
      let f = parted_grades b (changed with_word x.1) in
      let g = parted_grades c (changed with_word y.1) in
      let h = parted_grades d (changed with_word z.1) in
      omega arith

  pub termed_words : (u : Tm G) (s : State G) → (termed u s).1.program.words ≡ s.program.words + term_words u
  termed_words u s = let e = parted_words u (changed with_word s) in omega arith

  pub termed_grades : (u : Tm G) (s : State G) → (termed u s).1.program.grades ≡ s.program.grades + term_grades u
  termed_grades u s = parted_grades u (changed with_word s)

  pub ruled_words : (r : Rule G) (s : State G) → (ruled r s).program.words ≡ s.program.words + term_words (run_of r)
  ruled_words (input n g r) s = ruled_words r _
  ruled_words (run u) s = termed_words u s

  pub ruled_grades : (r : Rule G) (s : State G) → (ruled r s).program.grades ≡ s.program.grades + rule_grades r
  ruled_grades (input n g r) s =
      let i = keep_grade g s in
      let e = ruled_grades r (changed (λ q. with_input q (entry n i.0)) i.1) in
      omega arith
  ruled_grades (run u) s = termed_grades u s

  -- every type and term has a word and a level
  pub type_some : (a : Ty G) → (1 ≤ type_words a) × (1 ≤ type_depth a)
  type_some num = (omega arith, omega arith)
  type_some (to g a b) = (omega arith, omega arith)

  pub term_some : (u : Tm G) → (1 ≤ term_words u) × (1 ≤ term_depth u)
  term_some (name p k) = (omega arith, omega arith)
  term_some (literal p z) = (omega arith, omega arith)
  term_some (fn p n g a b) = (omega arith, omega arith)
  term_some (binary p form a b) = (omega arith, omega arith)
  term_some (half p a) = (omega arith, omega arith)
  term_some (less p a b c d) = (omega arith, omega arith)

-- what has parts of fewer levels
pub deeper_one : (d a : ℕ) → 0 < d → a ≤ d - 1 → 1 + a ≤ d
deeper_one d a some h = omega arith

pub deeper_two : (d a b : ℕ) → 0 < d → a ≤ d - 1 → b ≤ d - 1 → 1 + max a b ≤ d
deeper_two d a b some h k = omega arith

pub deeper_four : (d a b c e : ℕ) → 0 < d → a ≤ d - 1 → b ≤ d - 1 → c ≤ d - 1 → e ≤ d - 1 → 1 + max (max a b) (max c e) ≤ d
deeper_four d a b c e some h k l m = deeper_two d (max a b) (max c e) some (omega arith) (omega arith)
