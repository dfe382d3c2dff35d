-- What a judging answers is the verdict on the rule. Assumes nothing.
use Rattle.std.proofs.Common.{◌≡◌, ◌-◌, List, ◌++◌, length, take, drop, replicate, is_some, Ok, Err, Option, Result, sym, refl, ap, ◌∙◌, subst, append_assoc}
use Rattle.std.proofs.lemmas.List.{length-reverse, length-replicate, take_at}
use Rattle.tokens.specs.declared.refusal.Fault.{Fault}
use Rattle.grades.specs.declared.algebra.Algebra.{Ghosts}
use Rattle.grades.specs.Laws.{Laws}
use Rattle.grammar.specs.Syntax.{Rule, num, rule_inputs}
use Rattle.grammar.proofs.Beginnings.{absurd_ok}
use Rattle.typing.specs.Derivations.{LeastUsages}
use Rattle.typing.specs.Judging.{rule_judged}
use Rattle.typing.proofs.Fitting.{has_fits, fits_length}
use Rattle.typing.proofs.Theorem.{exact}
use Rattle.judge.specs.declared.verdict.Verdict.{Verdict}
use Rattle.judge.specs.Programs.{Judged, rule_of, concluded, program_judged}
use Rattle.judge.proofs.Rules.{judging}
use Rattle.session.specs.Sessions.{Model}
use Rattle.session.specs.Meanings.{Correct, JudgesCorrectly}

module _ {G : Type 0} (a : Ghosts G) (laws : Laws a.nil a.unit a.plus a.times a.lub a.permits a.taking) where
  -- the answer, by what judging gives
  tells : (rule : Rule G) (work : List G) (x : Result (List G) Fault) → rule_judged a rule ≡ x → (r : Result (Unit {0}) Fault) (v : Option Verdict) (after : List G) → ◌≡◌ {A = Judged G} (r, v, after) (concluded a work x) → Correct a rule r after
  tells rule work (Ok us) e r v after is =
      let ok = ap (λ p. p.0) is in
      let least = (exact a laws).least rule us e in
      let many : length us ≡ rule_inputs rule = sym (length-reverse us) ∙ fits_length (has_fits a least.has) ∙ length-replicate (rule_inputs rule) num in
      let front : take (rule_inputs rule) after ≡ us =
      ap (λ p. take (rule_inputs rule) p.2) is
      ∙ ap (take (rule_inputs rule)) (append_assoc us (replicate (2592 - length us) a.nil) (drop 2592 work))
      ∙ take_at us (replicate (2592 - length us) a.nil ++ drop 2592 work) (rule_inputs rule) many in
      record { accepts = (λ _. ((exact a laws).accepts rule).0 (us, e), λ _. ok); reports = λ _. subst (LeastUsages a rule) (sym front) least }
  tells rule work (Err f) e r v after is =
      let fails = ap (λ p. p.0) is in
      record {
        accepts = (λ h. absurd_ok (sym fails ∙ h), λ h. let p = ((exact a laws).accepts rule).1 h in absurd_ok (sym e ∙ p.1));
        reports = λ h. absurd_ok (sym fails ∙ h);
      }

  pub correctly : (m : Model) (list work : List G) (r : Result (Unit {0}) Fault) (v : Option Verdict) (after : List G) → ◌≡◌ {A = Judged G} (r, v, after) (program_judged a m.rule list m.verdict work) → JudgesCorrectly a m list work r after
  correctly m list work r v after e due =
      tells (rule_of a m.rule list) work _ refl r v after (e ∙ judging a m.rule list work m.verdict due.long due.wide due.there (ap is_some due.unjudged))
