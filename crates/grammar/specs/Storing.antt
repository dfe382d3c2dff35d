-- How a rule is stored in the tables of a program and in the grade list: every term and type behind its parts. Assumes nothing.
use Rattle.std.specs.Prelude.{ℕ, length, slice_set}
use Rattle.language.specs.declared.program.Binder.{Binder}
use Rattle.language.specs.declared.program.SimpleType.{SimpleType}
use Rattle.language.specs.declared.program.SimpleType.TheVariants.{Num, To}
use Rattle.language.specs.declared.program.Term.{Term}
use Rattle.language.specs.declared.program.Term.TheVariants.{Name, Number, Fn, Half, Less}
use Rattle.grammar.specs.Syntax.{Label, Ty, num, to, Tm, name, literal, fn, binary, half, less, Rule, input, run}
use Rattle.language.specs.Reading.{State, state, changed, with_word, with_grade, with_binder, with_input, with_type, with_node}
use Rattle.language.specs.Reading as reading

-- what is stored of a binder whose grade has a place
abbrev pub entry : Label → ℕ → Binder
entry n g = record { place = n.place; len = length n.bytes; grade = g }

module _ {G : Type 0} where
  -- a grade takes the next place of the grade list
  abbrev pub keep_grade : G → State G → ℕ × State G
  keep_grade g s = (s.program.grades, state (with_grade s.program) (slice_set s.list s.program.grades g))

  abbrev pub keep_type : SimpleType → State G → ℕ × State G
  keep_type t s = (length s.program.types, changed (λ p. with_type p t) s)

  abbrev pub keep_node : ℕ → Term × State G → ℕ × State G
  keep_node place x = (length x.1.program.nodes, changed (λ p. with_node p (record { term = x.0; place = place })) x.1)

  abbrev pub place_of : Tm G → ℕ
  place_of (name p k) = p
  place_of (literal p z) = p
  place_of (fn p n g a b) = p
  place_of (binary p form a b) = p
  place_of (half p a) = p
  place_of (less p a b c d) = p

  -- where a type is stored, and the state after it
  abbrev pub typed : Ty G → State G → ℕ × State G
  typed num s = keep_type Num (changed with_word s)
  typed (to g a b) s =
      let i = keep_grade g (changed with_word s) in
      let x = typed a i.1 in
      let y = typed b x.1 in
      keep_type (To i.0 x.0 y.0) y.1

  -- a term whose word is counted, once its parts are stored, and the state after them
  abbrev pub parted : Tm G → State G → Term × State G
  parted (name p k) s = (Name k, s)
  parted (literal p z) s = (Number z, s)
  parted (fn p n g a b) s =
      let i = keep_grade g s in
      let x = typed a (changed (λ q. with_binder q (entry n i.0)) i.1) in
      let y = keep_node (place_of b) (parted b (changed with_word x.1)) in
      (Fn (length s.program.binders) x.0 y.0, y.1)
  parted (binary p form a b) s =
      let x = keep_node (place_of a) (parted a (changed with_word s)) in
      let y = keep_node (place_of b) (parted b (changed with_word x.1)) in
      (reading.binary form x.0 y.0, y.1)
  parted (half p a) s =
      let x = keep_node (place_of a) (parted a (changed with_word s)) in
      (Half x.0, x.1)
  parted (less p a b c d) s =
      let x = keep_node (place_of a) (parted a (changed with_word s)) in
      let y = keep_node (place_of b) (parted b (changed with_word x.1)) in
      let z = keep_node (place_of c) (parted c (changed with_word y.1)) in
      let w = keep_node (place_of d) (parted d (changed with_word z.1)) in
      (Less x.0 y.0 z.0 w.0, w.1)

  -- where a term is stored, and the state after it
  abbrev pub termed : Tm G → State G → ℕ × State G
  termed u s = keep_node (place_of u) (parted u (changed with_word s))

  -- the state after a rule
  abbrev pub ruled : Rule G → State G → State G
  ruled (input n g r) s = let i = keep_grade g s in ruled r (changed (λ q. with_input q (entry n i.0)) i.1)
  ruled (run u) s = (termed u s).1
