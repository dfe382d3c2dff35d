-- The theorem about judging: it accepts exactly the acceptable rules, with the least usages. Assumes nothing.
use Rattle.std.proofs.Common.{◌≡◌, List, [], ◌∷◌, reverse, length, Ok, sym, refl, ap, ◌∙◌, subst, arith}
use Rattle.std.proofs.lemmas.List.{length-replicate, length-reverse, reverse-reverse}
use Rattle.grades.specs.declared.algebra.Algebra.{Ghosts}
use Rattle.grades.specs.Laws.{Laws}
use Rattle.grammar.specs.Syntax.{num, Rule, input, run, rule_inputs, run_of}
use Rattle.grammar.proofs.Beginnings.{then_ok, ok_same}
use Rattle.typing.specs.Derivations.{input_types, declared, Has, wider, Acceptable, LeastUsages}
use Rattle.typing.specs.Judging.{Judgement, judged, inputs_covered, rule_judged}
use Rattle.typing.specs.Verdicts.{Accepted, Exact}
use Rattle.typing.proofs.Usages.{none, more, reversed, Covering, covers}
use Rattle.typing.proofs.Steps.{unless_from, answer_from}
use Rattle.typing.proofs.Fitting.{fits_length, has_fits}
use Rattle.typing.proofs.Sound.{sound}
use Rattle.typing.proofs.Complete.{complete}

module _ {G : Type 0} (a : Ghosts G) where
  -- the declared grades cover the usages of the inputs exactly when no test refuses
  covered_from : (r : Rule G) (us : List G) → length us ≡ rule_inputs r → inputs_covered a r us ≡ Ok tt → Covering a (declared r) us
  covered_from (run t) [] l e = none
  covered_from (run t) (p ∷ us) l e = absurd (omega arith)
  covered_from (input n g r) [] l e = absurd (omega arith)
  covered_from (input n g r) (p ∷ us) l e = let h = unless_from _ _ _ _ e in more h.0 (covered_from r us (omega arith) h.1)

  covered_is : (r : Rule G) {us : List G} → Covering a (declared r) us → inputs_covered a r us ≡ Ok tt
  covered_is (run t) none = refl
  covered_is (input n g r) (more h c) = rw h (covered_is r c)

  -- what an accepted rule was judged to be
  record Taken (r : Rule G) (us : List G) : Type 0 where
    usage : List G
    told : judged a (input_types r) (run_of r) ≡ Ok (num, usage)
    passed : inputs_covered a r (reverse usage) ≡ Ok tt
    turned : reverse us ≡ usage

  taken : (r : Rule G) (us : List G) → rule_judged a r ≡ Ok us → Taken r us
  taken r us e =
      let p = then_ok {X = Judgement G} _ _ _ e in
      let q = answer_from a _ _ _ _ p.2 in
      let s = then_ok _ _ _ q.1 in
      let u = p.0.1 in
      record {
        usage = u;
        told = p.1 ∙ ap (λ A. Ok (A, u)) q.0;
        passed = s.1;
        turned = ap reverse (sym (ok_same _ _ s.2)) ∙ reverse-reverse u;
      }

  module _ (laws : Laws a.nil a.unit a.plus a.times a.lub a.permits a.taking) where
    acceptable : (r : Rule G) → Accepted a r → Acceptable a r
    acceptable r (us, e) =
        let t = taken r us e in
        let u = t.usage in
        let d = sound a laws (input_types r) (run_of r) (num, u) t.told in
        let long : length (reverse u) ≡ rule_inputs r = length-reverse u ∙ fits_length (has_fits a d) ∙ length-replicate (rule_inputs r) num in
        let c = reversed (covered_from r (reverse u) long t.passed) in
        wider d (covers a (subst (Covering a (reverse (declared r))) (reverse-reverse u) c))

    accepted : (r : Rule G) → Acceptable a r → Accepted a r
    accepted r d =
        let p = complete a laws d in
        let u = p.usage in
        let c = subst (λ v. Covering a v (reverse u)) (reverse-reverse (declared r)) (reversed p.covered) in
        (reverse u, rw (p.answer, covered_is r c))

    least_usages : (r : Rule G) (us : List G) → rule_judged a r ≡ Ok us → LeastUsages a r us
    least_usages r us e =
        let t = taken r us e in
        let d = sound a laws (input_types r) (run_of r) (num, t.usage) t.told in
        record {
          has = subst (Has a (input_types r) (run_of r) num) (sym t.turned) d;
          least = λ v h.
              let p = complete a laws h in
              let same = ap (λ j. j.1) (ok_same _ _ (sym p.answer ∙ t.told)) ∙ sym t.turned in
              covers a (subst (Covering a v) same p.covered);
        }

    pub exact : Exact a
    exact = record { accepts = λ r. (acceptable r, accepted r); least = least_usages }
