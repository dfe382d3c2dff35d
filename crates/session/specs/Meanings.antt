-- What the answer of a judging means. Assumes nothing.
use Rattle.std.specs.Prelude.{◌≡◌, ◌<◌, ◌≤◌, ◌↔◌, List, length, take, None, Ok, Result}
use Rattle.tokens.specs.declared.refusal.Fault.{Fault}
use Rattle.grades.specs.declared.algebra.Algebra.{Ghosts}
use Rattle.grammar.specs.Syntax.{Rule, rule_inputs}
use Rattle.typing.specs.Derivations.{Acceptable, LeastUsages}
use Rattle.judge.specs.Programs.{rule_of}
use Rattle.session.specs.Sessions.{Model}

-- the session has a rule that is not judged yet, and the lists are long enough
pub record Due {G : Type 0} (m : Model) (list work : List G) : Type 0 where
  pub long : 256 ≤ length list
  pub wide : 2592 ≤ length work
  pub there : 0 < length m.rule.nodes
  pub unjudged : m.verdict ≡ None

module _ {G : Type 0} (a : Ghosts G) where
  -- r and work are the verdict on the rule
  pub record Correct (rule : Rule G) (r : Result (Unit {0}) Fault) (work : List G) : Type 0 where
    -- accepted exactly when some derivation makes the rule acceptable
    pub accepts : (r ≡ Ok tt) ↔ Acceptable a rule
    -- the work list then begins with the inputs' least usages of any derivation
    pub reports : r ≡ Ok tt → LeastUsages a rule (take (rule_inputs rule) work)

  -- a judging that is due tells the verdict on the rule, with the grades of the list
  abbrev pub JudgesCorrectly : Model → List G → List G → Result (Unit {0}) Fault → List G → Type 0
  JudgesCorrectly m list work r after = Due m list work → Correct (rule_of a m.rule list) r after
