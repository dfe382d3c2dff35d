-- What a session has, and what its calls do. Assumes nothing.
use Rattle.std.specs.Prelude.{ℕ, ◌+◌, ◌≤◌, cond, List, length, take, drop, Some, None, Ok, Err, Option, Result, nat_lt, slice_index_or}
use Rattle.tokens.specs.declared.refusal.Fault.{Fault}
use Rattle.tokens.specs.declared.refusal.Refusal.TheVariants.{ShortList}
use Rattle.language.specs.declared.program.Binder.{Binder}
use Rattle.tokens.specs.Tokens.{fault}
use Rattle.language.specs.Tables.{no_binder, BindersSound, TypesSound, NodesSound}
use Rattle.language.specs.Reading.{Tables, no_tables, text_read, left_by}
use Rattle.grades.specs.declared.algebra.Algebra.{Ghosts}
use Rattle.grammar.specs.Closing.{run_size}
use Rattle.judge.specs.declared.verdict.Verdict.{Verdict}
use Rattle.judge.specs.Programs.{Judged, program_judged}
use Rattle.session.specs.declared.phase.Phase.{Phase}
use Rattle.session.specs.declared.phase.Phase.TheVariants.{Empty, Loaded}

-- a session: how far it has come, the tables of its rule, and the verdict on it, if it is judged
pub record Model : Type 0 where
  pub phase : Phase
  pub rule : Tables
  pub verdict : Option Verdict

abbrev pub model : Phase → Tables → Option Verdict → Model
model p t v = record { phase = p; rule = t; verdict = v }

-- a session as it is made
abbrev pub no_rule : Model
no_rule = model Empty no_tables None

-- the session after a reading: with its rule, or without any, and in both cases not judged
abbrev pub with_rule : {G : Type 0} → Result (Unit {0}) Fault × Tables × List G → Result (Unit {0}) Fault × Model × List G
with_rule (Ok u, t, l) = (Ok u, model Loaded t None, l)
with_rule (Err f, t, l) = (Err f, model Empty t None, l)

-- what a load answers, and the session and the grade list that it leaves
abbrev pub loaded : {G : Type 0} → (List ℕ → Option (G × ℕ)) → G → G → List ℕ → Model → List G → Result (Unit {0}) Fault × Model × List G
loaded reading one nil text m l =
    cond (nat_lt (length l) 256) (Err (fault ShortList 0), m, l)
    (with_rule (left_by nil (drop 256 l) (text_read reading one text (take 256 l))))

-- the session after a judging, with what became of the verdict
abbrev pub with_verdict : {G : Type 0} → Model → Judged G → Result (Unit {0}) Fault × Model × List G
with_verdict m j = (j.0, model m.phase m.rule j.1, j.2)

-- what a judging answers, and the session and the work list that it leaves
abbrev pub session_judged : {G : Type 0} → Ghosts G → List G → Model → List G → Result (Unit {0}) Fault × Model × List G
session_judged a list m work = with_verdict m (program_judged a m.rule list m.verdict work)

-- what holds of every session: its rule's entries refer to older ones and to what is there, the limits hold, and its run term is
-- closed
pub record Sound (m : Model) : Type 0 where
  pub binders : BindersSound m.rule.grades m.rule.binders
  pub types : TypesSound m.rule.grades m.rule.types
  pub nodes : NodesSound (length m.rule.binders) (length m.rule.types) m.rule.nodes
  pub counted : length m.rule.nodes + length m.rule.types ≤ m.rule.words
  pub named : length m.rule.binders ≤ m.rule.inputs + m.rule.words
  pub declared : m.rule.inputs ≤ length m.rule.binders
  pub few_inputs : m.rule.inputs ≤ 8
  pub few_grades : m.rule.grades ≤ 256
  pub few_words : m.rule.words ≤ 512
  pub closed : (run_size m.rule.nodes).binders ≤ m.rule.inputs
  pub levels : (run_size m.rule.nodes).levels ≤ 24
  pub functions : (run_size m.rule.nodes).functions ≤ 512

-- the binders of the inputs
abbrev pub inputs_of : Model → List Binder
inputs_of m = take m.rule.inputs m.rule.binders

-- the binder of an input
abbrev pub input_at : Model → ℕ → Option Binder
input_at m i = cond (nat_lt i m.rule.inputs) (Some (slice_index_or m.rule.binders i no_binder)) None
