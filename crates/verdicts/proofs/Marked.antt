-- The program prints `accepted` exactly of the acceptable texts. Assumes nothing.
use Rattle.std.proofs.Common.{◌≡◌, ℕ, ◌≤◌, ◌↔◌, List, [], ◌++◌, length, get_or, take, replicate, None, Ok, Err, Option, Result, sym, refl, ap, ◌∙◌, subst, append-nil, arith}
use Rattle.std.proofs.lemmas.List.{length-replicate, take_all, drop_all}
use Rattle.std.proofs.lemmas.Bool.{cond-false, le-ltb}
use Rattle.tokens.specs.declared.refusal.Fault.{Fault}
use Rattle.language.specs.Reading.{Read, state, no_tables, text_read, zeros_from, left_by}
use Rattle.grades.specs.declared.algebra.Algebra.{Ghosts}
use Rattle.grades.specs.Laws.{Laws}
use Rattle.grammar.specs.Storing.{ruled}
use Rattle.grammar.specs.Recovering.{rule_in}
use Rattle.grammar.proofs.Beginnings.{absurd_ok}
use Rattle.grammar.proofs.Recovered.{ruled_long}
use Rattle.grammar.proofs.Theorem.{exact}
use Rattle.grammar.proofs.Closing.{read_closed}
use Rattle.typing.specs.Derivations.{Acceptable}
use Rattle.judge.specs.Programs.{program_judged}
use Rattle.session.specs.declared.phase.Phase.TheVariants.{Loaded}
use Rattle.session.specs.Sessions.{Model, model, no_rule, with_rule, loaded}
use Rattle.session.proofs.Correctness.{correctly}
use Rattle.verdicts.specs.Listings.{verdict_line, judged_after, answer, listing}
use Rattle.verdicts.specs.Marks.{accepted_line, AcceptableText}
use Rattle.verdicts.proofs.Alike.{acceptable_alike, rule_alike}
use Rattle.verdicts.proofs.Cleared.{all_zeros, Cleared, ruled_cleared, zeros_same}

-- the line tells the answer
line_tells : (r : Result (Unit {0}) Fault) → (verdict_line r ≡ accepted_line) ↔ (r ≡ Ok tt)
line_tells (Ok u) = (λ _. refl, λ _. refl)
line_tells (Err f) = (λ e. let z : ◌≡◌ {A = ℕ} 114 97 = ap (λ l. get_or l 0 0) e in absurd (omega arith), λ e. absurd_ok e)

module _ {G : Type 0} (a : Ghosts G) (laws : Laws a.nil a.unit a.plus a.times a.lub a.permits a.taking) (reading : List ℕ → Option (G × ℕ)) (text : List ℕ) where
  module _ (list work : List G) (long : length list ≡ 256) (wide : 2592 ≤ length work) (zeros : (k : ℕ) → get_or list k a.nil ≡ a.nil) where
    -- by what reading the text gives
    settled : (o : Read G (Unit {0})) → text_read reading a.unit text list ≡ o → (judged_after a work (with_rule (left_by a.nil [] o)) ≡ Ok tt) ↔ AcceptableText a reading text
    settled (Ok (tt, s)) e =
        let ex = exact reading a.unit in
        let read = (ex.accepts text list s).0 e in
        let start = state no_tables list in
        let enough : 256 ≤ length list = omega arith in
        let is = ex.recovers a.nil text list s enough read in
        let kept : zeros_from a.nil s.program.grades s.list ++ [] ≡ s.list =
        append-nil _ ∙ zeros_same a.nil s.program.grades s.list (subst (Cleared a.nil) (sym read.stored) (ruled_cleared a.nil read.rule start (λ k h. zeros k))) in
        let same : length s.list ≡ length list = ap (λ z. length z.list) read.stored ∙ ruled_long read.rule start in
        let after = zeros_from a.nil s.program.grades s.list ++ [] in
        let m = model Loaded s.program None in
        let x = program_judged a s.program after None work in
        let tells = (correctly a laws m after work x.0 x.1 x.2 refl (record { long = omega (arith, ap length kept); wide = wide; there = (read_closed reading a.unit text list s e enough).1; unjudged = refl })).accepts in
        let nameless = λ (l : List G). Acceptable a (rule_in a.nil [] l s.program) in (
          λ ok. record {
            rule = read.rule;
            sentence = read.sentence;
            within = read.within;
            acceptable = subst (Acceptable a) is (acceptable_alike a (rule_alike a.nil [] text s.list s.program) (subst nameless kept (tells.0 ok)));
          },
          λ t. tells.1 (subst nameless (sym kept) (acceptable_alike a (rule_alike a.nil text [] s.list s.program) (subst (Acceptable a) (ex.unique text t.rule read.rule t.sentence read.sentence ∙ sym is) t.acceptable))),
        )
    settled (Err f) e =
        let read = λ (t : AcceptableText a reading text). ((exact reading a.unit).accepts text list (ruled t.rule (state no_tables list))).1 (record { rule = t.rule; sentence = t.sentence; within = t.within; stored = refl }) in
        (λ ok. absurd_ok ok, λ t. absurd_ok (sym e ∙ read t))

    answered : (m : Model) → (answer a reading text m list work ≡ Ok tt) ↔ AcceptableText a reading text
    answered m =
        let load : loaded reading a.unit a.nil text m list ≡ with_rule (left_by a.nil [] (text_read reading a.unit text list)) =
        cond-false _ _ _ (le-ltb (length list) 256 (omega arith))
        ∙ ap (λ l. with_rule (left_by a.nil l (text_read reading a.unit text (take 256 list)))) (drop_all 256 list (omega arith))
        ∙ ap (λ l. with_rule (left_by a.nil [] (text_read reading a.unit text l))) (take_all 256 list (omega arith)) in
        subst (λ x. (judged_after a work x ≡ Ok tt) ↔ AcceptableText a reading text) (sym load) (settled (text_read reading a.unit text list) refl)

  pub marked : (listing a reading text ≡ accepted_line) ↔ AcceptableText a reading text
  marked =
      let list = replicate 256 a.nil in
      let work = replicate 2592 a.nil in
      let line = line_tells (answer a reading text no_rule list work) in
      let wide : 2592 ≤ length work = omega (arith, length-replicate 2592 a.nil) in
      let right = answered list work (length-replicate 256 a.nil) wide (all_zeros a.nil 256) no_rule in
      (λ e. right.0 (line.0 e), λ t. line.1 (right.1 t))
