-- The state of a reading, and what each of its steps keeps. Assumes nothing.
use Rattle.std.specs.Prelude.{◌≡◌, ℕ}
use Rattle.language.specs.declared.reading.Reader.{Reader}
use Rattle.language.specs.Reading.{Tables, State, tables_of, state_of, with_grade}

abbrev pub tables_in : {G : Type 0} → Reader G → Tables
tables_in r = tables_of r.program.now

abbrev pub state_in : {G : Type 0} → Reader G → State G
state_in r = state_of r.program.now r.grades.now

-- the reading goes on in the same text, and fills the same program and grade list
abbrev pub GoesOn : {G : Type 0} → Reader G → Reader G → Type 0
GoesOn r q = (q.text.now ≡ r.text.now) × (q.program.ghost_name ≡ r.program.ghost_name) × (q.grades.ghost_name ≡ r.grades.ghost_name)

-- one more grade of the rule is stored, at the index i
abbrev pub StoresGrade : {G : Type 0} → Reader G → Reader G → ℕ → Type 0
StoresGrade r q i = (i ≡ (tables_in r).grades) × (tables_in q ≡ with_grade (tables_in r))
