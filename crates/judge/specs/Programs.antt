-- What judging a program answers, and the verdict and the work list that it leaves. Assumes nothing.
use Rattle.std.specs.Prelude.{ℕ, ◌-◌, cond, ◌||◌, List, [], ◌++◌, length, take, drop, replicate, Some, None, Ok, Err, Option, Result, ◌==◌, nat_lt}
use Rattle.tokens.specs.declared.refusal.Fault.{Fault}
use Rattle.tokens.specs.declared.refusal.Refusal.TheVariants.{ShortList, NoProgram, AlreadyJudged}
use Rattle.tokens.specs.Tokens.{fault}
use Rattle.language.specs.Reading.{Tables, tables_of}
use Rattle.grades.specs.declared.algebra.Algebra.{Ghosts}
use Rattle.grammar.specs.Syntax.{Rule}
use Rattle.grammar.specs.Recovering.{rule_in}
use Rattle.typing.specs.Judging.{rule_judged}
use Rattle.judge.specs.declared.graded.GradedRule.{GradedRule}
use Rattle.judge.specs.declared.usage.Usage.{Usage}
use Rattle.judge.specs.declared.verdict.Verdict.{Verdict}
use Rattle.judge.specs.declared.verdict.Verdict.TheVariants.{Accepted, Refused}

-- the usages of the first inputs
abbrev pub usages_of : {G : Type 0} → ℕ → Result (Usage G) Fault → Result (List G) Fault
usages_of n (Ok u) = Ok (take n u.grades)
usages_of n (Err f) = Err f

-- an answer, the verdict and the work list
abbrev pub Judged : Type 0 → Type 0
Judged G = Result (Unit {0}) Fault × Option Verdict × List G

module _ {G : Type 0} (a : Ghosts G) where
  -- the rule that stands in the tables, with the grades of the list; names are told apart by their places
  abbrev pub rule_of : Tables → List G → Rule G
  rule_of t list = rule_in a.nil [] list t

  -- the same, by the struct that a judging reads
  abbrev pub graded_rule : GradedRule G → Rule G
  graded_rule p = rule_of (tables_of p.rule.now.program) p.grades.now

  -- usages, and zeros behind them to the 2,592nd place; the places beyond are as they were
  abbrev pub reported : List G → List G → List G
  reported work us = (us ++ replicate (2592 - length us) a.nil) ++ drop 2592 work

  abbrev pub concluded : List G → Result (List G) Fault → Judged G
  concluded work (Ok us) = (Ok tt, Some Accepted, reported work us)
  concluded work (Err f) = (Err f, Some Refused, reported work [])

  -- a rule is judged once
  abbrev pub once_judged : Tables → List G → List G → Option Verdict → Judged G
  once_judged t list work (Some v) = (Err (fault AlreadyJudged 0), Some v, work)
  once_judged t list work None = concluded work (rule_judged a (rule_of t list))

  abbrev pub program_judged : Tables → List G → Option Verdict → List G → Judged G
  program_judged t list v work =
      cond (nat_lt (length list) 256 || nat_lt (length work) 2592) (Err (fault ShortList 0), v, work)
      (cond (length t.nodes == 0) (Err (fault NoProgram 0), v, work) (once_judged t list work v))
