-- The line of the verdict on a rule's text. Assumes nothing.
use Rattle.std.specs.Prelude.{ℕ, List, [], ◌∷◌, ◌++◌, replicate, Ok, Err, codes, decimal, Option, Result}
use Rattle.tokens.specs.declared.refusal.Fault.{Fault}
use Rattle.tokens.specs.Refusals.{number_of}
use Rattle.grades.specs.declared.algebra.Algebra.{Ghosts}
use Rattle.session.specs.Sessions.{Model, no_rule, loaded, session_judged}
use Rattle.verdicts.specs.Marks.{accepted_line}

-- `refused N at P`
abbrev pub refusal_line : Fault → List ℕ
refusal_line f = codes "refused " ++ (decimal (number_of f.refusal) ++ (codes " at " ++ (decimal f.place ++ 10 ∷ [])))

-- `accepted`, or the refusal
abbrev pub verdict_line : Result (Unit {0}) Fault → List ℕ
verdict_line (Ok _) = accepted_line
verdict_line (Err f) = refusal_line f

module _ {G : Type 0} (a : Ghosts G) where
  -- a load that was not refused is followed by a judging
  abbrev pub judged_after : List G → Result (Unit {0}) Fault × Model × List G → Result (Unit {0}) Fault
  judged_after work (Ok _, m, list) = (session_judged a list m work).0
  judged_after work (Err f, m, list) = Err f

  -- the answer on a text, by a session and its lists
  abbrev pub answer : (List ℕ → Option (G × ℕ)) → List ℕ → Model → List G → List G → Result (Unit {0}) Fault
  answer reading text m list work = judged_after work (loaded reading a.unit a.nil text m list)

  -- the line of a text: the answer of a session without a rule, with lists of zeros
  abbrev pub listing : (List ℕ → Option (G × ℕ)) → List ℕ → List ℕ
  listing reading text = verdict_line (answer reading text no_rule (replicate 256 a.nil) (replicate 2592 a.nil))
