-- How the tables grow while a part is read. Assumes nothing.
use Rattle.std.specs.Prelude.{◌≡◌, ℕ, ◌+◌, ◌<◌, ◌≤◌, length}
use Rattle.language.specs.declared.program.SimpleType.{SimpleType}
use Rattle.language.specs.declared.program.SimpleType.TheVariants.{Num, To}
use Rattle.language.specs.declared.program.Term.{Term}
use Rattle.language.specs.declared.program.Term.TheVariants.{Name, Number, Fn, Call, Add, Sub, Half, Less}
use Rattle.language.specs.Reading.{Tables}

-- no table shrinks, and of the words that were counted all but `owed` have been stored
pub record Grown (owed : ℕ) (s t : Tables) : Type 0 where
  pub more_binders : length s.binders ≤ length t.binders
  pub more_types : length s.types ≤ length t.types
  pub more_nodes : length s.nodes ≤ length t.nodes
  pub more_grades : s.grades ≤ t.grades
  pub balance : t.words + (length s.nodes + length s.types) ≡ s.words + (length t.nodes + length t.types) + owed

-- what a type refers to is there
abbrev pub TypeFits : Tables → SimpleType → Type 0
TypeFits t Num = Unit {0}
TypeFits t (To grade from to) = (grade < t.grades) × (from < length t.types) × (to < length t.types)

-- what a term refers to is there
abbrev pub TermFits : Tables → Term → Type 0
TermFits t (Name k) = Unit {0}
TermFits t (Number z) = Unit {0}
TermFits t (Fn binder domain body) = (binder < length t.binders) × (domain < length t.types) × (body < length t.nodes)
TermFits t (Call function argument) = (function < length t.nodes) × (argument < length t.nodes)
TermFits t (Add left right) = (left < length t.nodes) × (right < length t.nodes)
TermFits t (Sub left right) = (left < length t.nodes) × (right < length t.nodes)
TermFits t (Half part) = part < length t.nodes
TermFits t (Less left right below otherwise) = (left < length t.nodes) × (right < length t.nodes) × (below < length t.nodes) × (otherwise < length t.nodes)
