-- Rules as trees, and how large they are. Assumes nothing.
use Rattle.std.specs.Prelude.{ℕ, suc, ◌+◌, max, List, ℤ}
use Rattle.language.specs.declared.heads.Binary.{Binary}

-- the name of a binder and its place in the text
pub record Label : Type 0 where
  pub place : ℕ
  pub bytes : List ℕ

-- simple types
pub data Ty (G : Type 0) : Type 0 where
  num : Ty G
  to : G → Ty G → Ty G → Ty G

-- terms, each with the place of its first token; a name is the number of open binders passed from the innermost outwards
pub data Tm (G : Type 0) : Type 0 where
  name : ℕ → ℕ → Tm G
  literal : ℕ → ℤ → Tm G
  fn : ℕ → Label → G → Ty G → Tm G → Tm G
  binary : ℕ → Binary → Tm G → Tm G → Tm G
  half : ℕ → Tm G → Tm G
  less : ℕ → Tm G → Tm G → Tm G → Tm G → Tm G

-- a rule: inputs with their grades, and the run term
pub data Rule (G : Type 0) : Type 0 where
  input : Label → G → Rule G → Rule G
  run : Tm G → Rule G

-- how many words, grades and levels a type, a term and a rule have
abbrev pub type_words : {G : Type 0} → Ty G → ℕ
type_words num = 1
type_words (to g a b) = 1 + (type_words a + type_words b)

abbrev pub type_grades : {G : Type 0} → Ty G → ℕ
type_grades num = 0
type_grades (to g a b) = 1 + (type_grades a + type_grades b)

abbrev pub type_depth : {G : Type 0} → Ty G → ℕ
type_depth num = 1
type_depth (to g a b) = 1 + max (type_depth a) (type_depth b)

abbrev pub term_words : {G : Type 0} → Tm G → ℕ
term_words (name p k) = 1
term_words (literal p z) = 1
term_words (fn p n g a b) = 1 + (type_words a + term_words b)
term_words (binary p form a b) = 1 + (term_words a + term_words b)
term_words (half p a) = 1 + term_words a
term_words (less p a b c d) = 1 + ((term_words a + term_words b) + (term_words c + term_words d))

abbrev pub term_grades : {G : Type 0} → Tm G → ℕ
term_grades (name p k) = 0
term_grades (literal p z) = 0
term_grades (fn p n g a b) = 1 + (type_grades a + term_grades b)
term_grades (binary p form a b) = term_grades a + term_grades b
term_grades (half p a) = term_grades a
term_grades (less p a b c d) = (term_grades a + term_grades b) + (term_grades c + term_grades d)

abbrev pub term_depth : {G : Type 0} → Tm G → ℕ
term_depth (name p k) = 1
term_depth (literal p z) = 1
term_depth (fn p n g a b) = 1 + max (type_depth a) (term_depth b)
term_depth (binary p form a b) = 1 + max (term_depth a) (term_depth b)
term_depth (half p a) = 1 + term_depth a
term_depth (less p a b c d) = 1 + max (max (term_depth a) (term_depth b)) (max (term_depth c) (term_depth d))

abbrev pub rule_inputs : {G : Type 0} → Rule G → ℕ
rule_inputs (input n g r) = suc (rule_inputs r)
rule_inputs (run u) = 0

abbrev pub rule_grades : {G : Type 0} → Rule G → ℕ
rule_grades (input n g r) = 1 + rule_grades r
rule_grades (run u) = term_grades u

abbrev pub run_of : {G : Type 0} → Rule G → Tm G
run_of (input n g r) = run_of r
run_of (run u) = u
