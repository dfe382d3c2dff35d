-- What a verdict means: a rule is accepted exactly when it is acceptable, with the least usages. Assumes nothing.
use Rattle.std.specs.Prelude.{◌≡◌, ◌↔◌, List, Ok}
use Rattle.grades.specs.declared.algebra.Algebra.{Ghosts}
use Rattle.grammar.specs.Syntax.{Rule}
use Rattle.typing.specs.Derivations.{Acceptable, LeastUsages}
use Rattle.typing.specs.Judging.{rule_judged}

module _ {G : Type 0} (a : Ghosts G) where
  -- judging accepts the rule
  abbrev pub Accepted : Rule G → Type 0
  Accepted r = (us : List G) × (rule_judged a r ≡ Ok us)

  pub record Exact : Type 0 where
    -- accepted exactly when some derivation makes the rule acceptable
    pub accepts : (r : Rule G) → Accepted r ↔ Acceptable a r
    -- the reported usages are the least of any derivation
    pub least : (r : Rule G) (us : List G) → rule_judged a r ≡ Ok us → LeastUsages a r us
