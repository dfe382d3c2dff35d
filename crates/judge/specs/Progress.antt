-- What holds while the terms of a program are judged. Assumes nothing.
use Rattle.std.specs.Prelude.{◌≡◌, ℕ, ◌+◌, ◌<◌, ◌≤◌, true, List, ◌++◌, map, length, IfOk, Ok, Err, Result, slice_index_or}
use Rattle.tokens.specs.declared.refusal.Fault.{Fault}
use Rattle.language.specs.declared.program.SimpleType.{SimpleType}
use Rattle.language.specs.declared.program.SimpleType.TheVariants.{Num}
use Rattle.language.specs.declared.program.Term.{Term}
use Rattle.language.specs.Tables.{type_sound}
use Rattle.language.specs.Growth.{TermFits}
use Rattle.language.specs.Reading.{tables_of, ◌then◌}
use Rattle.grammar.specs.Syntax.{Ty, Tm}
use Rattle.grammar.specs.Closing.{needed, nesting, functions}
use Rattle.grammar.specs.Storing.{place_of}
use Rattle.grades.specs.declared.algebra.Algebra.{Ghosts}
use Rattle.typing.specs.Judging.{Judgement, judged, number, both}
use Rattle.judge.specs.declared.graded.GradedRule.{GradedRule}
use Rattle.judge.specs.declared.table.TypeTable.{TypeTable}
use Rattle.judge.specs.declared.usage.Usage.{Usage}
use Rattle.judge.specs.Newest.{newest}
use Rattle.judge.specs.Meaning.{type_in, part, node_at}

-- A context is the types of the open binders, the innermost first.

-- the term can be judged: the table of types begins with those of the program, the context has types of the program,
-- and there is room for its names, its functions inside one another and their results
pub record Ready {G : Type 0} (p : GradedRule G) (context : List SimpleType) (types : TypeTable) (u : Tm G) : Type 0 where
  pub added : List SimpleType
  pub begins : types.types.items ≡ p.rule.now.program.types.items ++ added
  pub sound : (i : ℕ) → i < length context → type_sound 256 (length p.rule.now.program.types.items) (slice_index_or context i Num) ≡ true
  pub names : needed u ≤ length context
  pub levels : length context + nesting u ≤ 32
  pub room : length types.types.items + functions u ≤ 1024

-- the same of a term that stands in the tables of the rule, and of the term number i
pub record ReadyTerm {G : Type 0} (nil : G) (p : GradedRule G) (context : List SimpleType) (types : TypeTable) (u : Term) : Type 0 where
  pub there : TermFits (tables_of p.rule.now.program) u
  pub ready : Ready p context types (part nil p u)

pub record ReadyNode {G : Type 0} (nil : G) (p : GradedRule G) (context : List SimpleType) (types : TypeTable) (i : ℕ) : Type 0 where
  pub there : i < length p.rule.now.program.nodes.items
  pub ready : Ready p context types (node_at nil p i)

-- the table of types has grown by so many at most
pub record Grown (most : ℕ) (before after : TypeTable) : Type 0 where
  pub added : List SimpleType
  pub is : after.types.items ≡ before.types.items ++ added
  pub few : length after.types.items ≤ length before.types.items + most

-- an answer, with the usage that was written over the one that was lent; a refusal says nothing of it
abbrev pub judged_into : {G : Type 0} → Result SimpleType Fault → Usage G → Result (SimpleType × Usage G) Fault
judged_into (Ok s) v = Ok (s, v)
judged_into (Err f) v = Err f

abbrev pub used_into : {G : Type 0} → Result (Unit {0}) Fault → Usage G → Result (Usage G) Fault
used_into (Ok _) v = Ok v
used_into (Err f) v = Err f

-- what the code's values stand for
module _ {G : Type 0} (nil : G) (list : List G) where
  abbrev pub context_types : List SimpleType → List SimpleType → List (Ty G)
  context_types types context = map (type_in nil list types) context

  -- a type, and the usages of the open binders
  abbrev pub judgement_of : List SimpleType → ℕ → Result (SimpleType × Usage G) Fault → Result (Judgement G) Fault
  judgement_of types n (Ok (s, u)) = Ok (type_in nil list types s, newest nil u.grades n)
  judgement_of types n (Err f) = Err f

abbrev pub usage_of : {G : Type 0} → G → ℕ → Result (Usage G) Fault → Result (List G) Fault
usage_of nil n (Ok u) = Ok (newest nil u.grades n)
usage_of nil n (Err f) = Err f

module _ {G : Type 0} (a : Ghosts G) (p : GradedRule G) (context : List SimpleType) where
  -- r is the judgement of the term u, with which the table of types has grown
  pub record Judges (u : Tm G) (before after : TypeTable) (r : Result (SimpleType × Usage G) Fault) : Type 0 where
    pub answer : judgement_of a.nil p.grades.now after.types.items (length context) r ≡ judged a (context_types a.nil p.grades.now before.types.items context) u
    pub grows : IfOk r (λ j. Grown (functions u) before after × (type_sound 256 (length after.types.items) j.0 ≡ true))

  -- the usage of the term u, which has to be a number
  abbrev pub number_judged : TypeTable → Tm G → Result (List G) Fault
  number_judged types u = judged a (context_types a.nil p.grades.now types.types.items context) u then number (place_of u)

  -- r is the usage that is due, with which the table of types has grown by so many at most
  pub record Uses (due : Result (List G) Fault) (most : ℕ) (before after : TypeTable) (r : Result (Usage G) Fault) : Type 0 where
    pub answer : usage_of a.nil (length context) r ≡ due
    pub grows : IfOk r (λ _. Grown most before after)

  -- that of one number, and of two
  abbrev pub JudgesNumber : Tm G → TypeTable → TypeTable → Result (Usage G) Fault → Type 0
  JudgesNumber u before = Uses (number_judged before u) (functions u) before

  abbrev pub JudgesNumbers : Tm G → Tm G → TypeTable → TypeTable → Result (Usage G) Fault → Type 0
  JudgesNumbers s u before = Uses (both a (number_judged before s) (number_judged before u)) (functions s + functions u) before
