-- What the program prints of a load. Assumes nothing.
use Rattle.std.specs.Prelude.{ℕ, zero, suc, List, [], ◌∷◌, ◌++◌, take, drop, Ok, Err, codes, Result, slice_index_or}
use Rattle.language.specs.declared.program.Binder.{Binder}
use Rattle.tokens.specs.declared.refusal.Fault.{Fault}
use Rattle.language.specs.Tables.{no_binder}
use Rattle.session.specs.Sessions.{Model}
use Rattle.verdicts.specs.Listings.{refusal_line}

module _ {G : Type 0} (writing : G → List ℕ) (nil : G) (text : List ℕ) where
  -- a name, which is bytes of the text, a space, and the text of its grade
  abbrev pub input_line : List G → Binder → List ℕ
  input_line grades b = take b.len (drop b.place text) ++ (32 ∷ (writing (slice_index_or grades b.grade nil) ++ 10 ∷ []))

  -- the lines of the first inputs
  abbrev pub input_lines : Model → List G → ℕ → List ℕ
  input_lines m grades zero = []
  input_lines m grades (suc n) = input_lines m grades n ++ input_line grades (slice_index_or m.rule.binders n no_binder)

  abbrev pub read_lines : Model → List G → List ℕ
  read_lines m grades = codes "read" ++ (10 ∷ input_lines m grades m.rule.inputs)

  -- what is printed of a load's answer, the session and the grade list
  abbrev pub listing : Result (Unit {0}) Fault × Model × List G → List ℕ
  listing (Ok _, m, grades) = read_lines m grades
  listing (Err f, m, grades) = refusal_line f
