-- What the entries of the tables stand for, with the grades of a list. Assumes nothing.
use Rattle.std.specs.Prelude.{ℕ, ◌-◌, List, [], length, slice_index_or}
use Rattle.language.specs.declared.program.SimpleType.{SimpleType}
use Rattle.language.specs.declared.program.Term.{Term}
use Rattle.language.specs.Reading.{Tables, tables_of}
use Rattle.grammar.specs.Syntax.{Ty, Tm}
use Rattle.grammar.specs.Recovering.{no_term, type_entry, types_in, form, terms_in}
use Rattle.judge.specs.declared.graded.GradedRule.{GradedRule}

-- nil stands past the end of the grade list; names are told apart by their places, so no text is needed
module _ {G : Type 0} (nil : G) (list : List G) where
  -- a type whose parts stand in a table
  abbrev pub type_in : List SimpleType → SimpleType → Ty G
  type_in types t = type_entry nil [] list (types_in nil [] list types) t

  -- a term whose parts stand in the tables of a program
  abbrev pub term_in : Tables → ℕ → Term → Tm G
  term_in t place u = form nil [] list t.binders (types_in nil [] list t.types) (terms_in nil [] list t.binders t.types t.nodes) place u

  -- the term number i
  abbrev pub term_at : Tables → ℕ → Tm G
  term_at t i = slice_index_or (terms_in nil [] list t.binders t.types t.nodes) i no_term

-- the same of a program with its grades; a term alone stands at no place of its own
module _ {G : Type 0} (nil : G) (p : GradedRule G) where
  abbrev pub part : Term → Tm G
  part u = term_in nil p.grades.now (tables_of p.rule.now.program) 0 u

  abbrev pub node_at : ℕ → Tm G
  node_at i = term_at nil p.grades.now (tables_of p.rule.now.program) i

  -- the run term, which is the last
  abbrev pub run_node : Tm G
  run_node = node_at (length p.rule.now.program.nodes.items - 1)
