-- How the tables grow, step by step. Assumes nothing.
use Rattle.std.proofs.Common.{◌≡◌, ℕ, ◌+◌, ◌<◌, ◌≤◌, length, sym, subst, arith}
use Rattle.std.proofs.lemmas.List.{length_push}
use Rattle.language.specs.declared.program.Binder.{Binder}
use Rattle.language.specs.declared.program.SimpleType.{SimpleType}
use Rattle.language.specs.declared.program.Node.{Node}
use Rattle.language.specs.Reading.{Tables, with_word, with_grade, with_binder, with_type, with_node}
use Rattle.language.specs.Growth.{Grown}

pub grown_word : (s t : Tables) → t ≡ with_word s → Grown 1 s t
grown_word s t e = subst (Grown 1 s) (sym e) (record { more_binders = omega arith; more_types = omega arith; more_nodes = omega arith; more_grades = omega arith; balance = omega arith })

pub grown_grade : (s t : Tables) → t ≡ with_grade s → Grown 0 s t
grown_grade s t e = subst (Grown 0 s) (sym e) (record { more_binders = omega arith; more_types = omega arith; more_nodes = omega arith; more_grades = omega arith; balance = omega arith })

pub grown_binder : (s t : Tables) (b : Binder) → t ≡ with_binder s b → Grown 0 s t
grown_binder s t b e = subst (Grown 0 s) (sym e) (record { more_binders = omega (arith, length_push s.binders b); more_types = omega arith; more_nodes = omega arith; more_grades = omega arith; balance = omega arith })

stored_type : {s t : Tables} (u : Tables) (x : SimpleType) → u ≡ with_type t x → Grown 1 s t → Grown 0 s u
stored_type {s} {t} u x e h = subst (Grown 0 s) (sym e) (let l = length_push t.types x in record { more_binders = omega arith; more_types = omega arith; more_nodes = omega arith; more_grades = omega arith; balance = omega arith })

pub stored_node : {s t : Tables} (u : Tables) (x : Node) → u ≡ with_node t x → Grown 1 s t → Grown 0 s u
stored_node {s} {t} u x e h = subst (Grown 0 s) (sym e) (let l = length_push t.nodes x in record { more_binders = omega arith; more_types = omega arith; more_nodes = omega arith; more_grades = omega arith; balance = omega arith })

-- the tables grow on
pub on : {k : ℕ} {s t u : Tables} → Grown k s t → Grown 0 t u → Grown k s u
on {k} {s} {t} {u} a b = record { more_binders = omega arith; more_types = omega arith; more_nodes = omega arith; more_grades = omega arith; balance = omega arith }

-- a word that is owed has room
pub room : {s t : Tables} → Grown 1 s t → length s.nodes + length s.types ≤ s.words → length t.nodes + length t.types < t.words
room {s} {t} h le = omega arith

-- an entry that was stored is there
type_there : (s t : Tables) (x : SimpleType) (i : ℕ) → t ≡ with_type s x → i ≡ length s.types → i < length t.types
type_there s t x i e at = subst (λ u. i < length u.types) (sym e) (omega (arith, length_push s.types x))

pub node_there : (s t : Tables) (x : Node) (i : ℕ) → t ≡ with_node s x → i ≡ length s.nodes → i < length t.nodes
node_there s t x i e at = subst (λ u. i < length u.nodes) (sym e) (omega (arith, length_push s.nodes x))

pub binder_there : (s t : Tables) (x : Binder) (i : ℕ) → t ≡ with_binder s x → i ≡ length s.binders → i < length t.binders
binder_there s t x i e at = subst (λ u. i < length u.binders) (sym e) (omega (arith, length_push s.binders x))

grade_there : (s t : Tables) (i : ℕ) → t ≡ with_grade s → i ≡ s.grades → i < t.grades
grade_there s t i e at = subst (λ u. i < u.grades) (sym e) (omega arith)

-- what an entry refers to is still there when it is stored
pub arrow_fits : {t u v : Tables} {grade from to : ℕ} → grade < t.grades → Grown 0 t u × (from < length u.types) → Grown 0 u v × (to < length v.types) → (grade < v.grades) × (from < length v.types) × (to < length v.types)
arrow_fits {t} {u} {v} g a b = (omega (arith, a.0, b.0), omega (arith, b.0), b.1)

pub fn_fits : {t u v : Tables} {binder domain body : ℕ} → binder < length t.binders → Grown 0 t u × (domain < length u.types) → Grown 0 u v × (body < length v.nodes) → (binder < length v.binders) × (domain < length v.types) × (body < length v.nodes)
fn_fits {t} {u} {v} n a b = (omega (arith, a.0, b.0), omega (arith, b.0), b.1)

-- a type that is stored where one word is owed
pub type_grown : (s t u : Tables) (x : SimpleType) {i : ℕ} → Grown 1 s t → u ≡ with_type t x → i ≡ length t.types → Grown 0 s u × (i < length u.types)
type_grown s t u x {i} h e at = (stored_type u x e h, type_there t u x i e at)

-- a function type: its word is counted, and its grade and its parts are stored
module _ (s p q r v : Tables) {from to : ℕ} (word : p ≡ with_word s) (graded : q ≡ with_grade p) (domain : Grown 0 q r × (from < length r.types)) (range : Grown 0 r v × (to < length v.types)) where
  pub arrow_owed : Grown 1 s v
  arrow_owed = on (grown_word s p word) (on (grown_grade p q graded) (on domain.0 range.0))

  -- what it refers to is still there when it is stored
  pub arrow_there : {grade : ℕ} → grade ≡ p.grades → (grade < v.grades) × (from < length v.types) × (to < length v.types)
  arrow_there {grade} at = arrow_fits (grade_there p q grade graded at) domain range

-- a function: its binder's grade, its binder, its type and its body are stored
pub fn_grown : (s p q r v : Tables) (b : Binder) {i domain body : ℕ} → p ≡ with_grade s → i ≡ length p.binders → q ≡ with_binder p b → Grown 0 q r × (domain < length r.types) → Grown 0 r v × (body < length v.nodes) →
    Grown 0 s v × ((i < length v.binders) × (domain < length v.types) × (body < length v.nodes))
fn_grown s p q r v b {i} graded at bound domain body =
    let there : i < length q.binders = binder_there p q b i bound at in
    (on (grown_grade s p graded) (on (grown_binder p q b bound) (on domain.0 body.0)), fn_fits there domain body)

-- a term that is stored behind its parts
pub term_grown : (s p t u : Tables) (x : Node) {i : ℕ} → p ≡ with_word s → Grown 0 p t → u ≡ with_node t x → i ≡ length t.nodes → Grown 0 s u × (i < length u.nodes)
term_grown s p t u x {i} word h e at = (stored_node u x e (on (grown_word s p word) h), node_there t u x i e at)
