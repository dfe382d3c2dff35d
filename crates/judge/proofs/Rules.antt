-- Judging a rule, once its run term is judged. Assumes nothing.
use Rattle.std.proofs.Common.{◌≡◌, ℕ, zero, suc, ◌-◌, ◌<◌, ◌≤◌, false, ◌||◌, ltb, List, [], ◌∷◌, ◌++◌, map, reverse, length, get_or, take, drop, replicate, is_some, Some, None, Ok, Err, Option, Result, sym, refl, ap, ◌∙◌, append-nil, arith}
use Rattle.std.proofs.lemmas.List.{get_or-replicate, length-replicate, length-take-le}
use Rattle.std.proofs.lemmas.Bool.{cond-false, le-ltb, ne_eqb}
use Rattle.tokens.specs.declared.refusal.Fault.{Fault}
use Rattle.tokens.specs.declared.refusal.Refusal.TheVariants.{AnswerNotNum}
use Rattle.tokens.specs.Tokens.{fault}
use Rattle.language.specs.declared.program.Binder.{Binder}
use Rattle.language.specs.declared.program.SimpleType.{SimpleType}
use Rattle.language.specs.declared.program.SimpleType.TheVariants.{Num}
use Rattle.language.specs.Tables.{type_sound}
use Rattle.language.specs.Reading.{Tables, tables_of, ◌then◌}
use Rattle.language.proofs.Chains.{goes_on, ends}
use Rattle.grades.specs.declared.algebra.Algebra.{Ghosts}
use Rattle.grammar.specs.Syntax.{Ty, num, to, Tm, Rule, run, rule_inputs}
use Rattle.grammar.specs.Storing.{place_of}
use Rattle.grammar.specs.Recovering.{inputs_in}
use Rattle.grammar.proofs.Closing.{closed_of, size_held, last_held}
use Rattle.typing.specs.Derivations.{input_types}
use Rattle.typing.specs.Judging.{judged, answer, inputs_covered, rule_judged}
use Rattle.judge.specs.declared.graded.GradedRule.{GradedRule}
use Rattle.judge.specs.declared.table.TypeTable.{TypeTable}
use Rattle.judge.specs.declared.usage.Usage.{Usage}
use Rattle.judge.specs.Newest.{newest}
use Rattle.judge.specs.Meaning.{type_in, node_at}
use Rattle.judge.specs.Progress.{Ready, used_into, context_types}
use Rattle.judge.specs.declared.verdict.Verdict.{Verdict}
use Rattle.judge.specs.declared.verdict.Verdict.TheVariants.{Accepted, Refused}
use Rattle.judge.specs.Programs.{rule_of, graded_rule, usages_of, concluded, once_judged, program_judged}
use Rattle.judge.proofs.Inputs.{newest_reversed}

inputs_many : {G : Type 0} (nil : G) (list : List G) (bs : List Binder) (u : Tm G) → rule_inputs (inputs_in nil [] list bs (run u)) ≡ length bs
inputs_many nil list [] u = refl
inputs_many nil list (b ∷ bs) u = ap suc (inputs_many nil list bs u)

all_numbers : {G : Type 0} (nil : G) (list : List G) (types : List SimpleType) (n : ℕ) → map (type_in nil list types) (replicate n Num) ≡ replicate n num
all_numbers nil list types zero = refl
all_numbers nil list types (suc n) = ap (λ l. num ∷ l) (all_numbers nil list types n)

-- the context of the inputs
module _ {G : Type 0} (a : Ghosts G) (p : GradedRule G) (c : List SimpleType) (is : c ≡ replicate p.rule.now.program.inputs Num) where
  abbrev inputs : ℕ
  inputs = p.rule.now.program.inputs

  abbrev t : Tables
  t = tables_of p.rule.now.program

  abbrev last : ℕ
  last = length t.nodes - 1

  many : length c ≡ inputs
  many = ap length is ∙ length-replicate inputs Num

  -- the run term is ready to be judged
  pub run_ready : (types : TypeTable) → types.types.items ≡ t.types → Ready p c types (node_at a.nil p last)
  run_ready types same =
      let closed = closed_of p.rule.now in
      let size = size_held a.nil [] p.grades.now t.binders t.types t.nodes last in
      let needs = ap (λ s. s.binders) size in
      let levels = ap (λ s. s.levels) size in
      let functions = ap (λ s. s.functions) size in
      let few = p.rule.now.program.few_inputs in
      record {
        added = [];
        begins = same ∙ sym (append-nil t.types);
        sound = λ j below.
            ap (λ l. type_sound 256 (length t.types) (get_or l j Num)) is ∙ ap (type_sound 256 (length t.types)) (get_or-replicate inputs j Num Num (omega (arith, many)));
        names = omega (arith, closed.closed, many);
        levels = omega (arith, closed.levels, many);
        room = omega (arith, closed.functions, ap length same, p.rule.now.program.counted, p.rule.now.program.few_words);
      }

  module _ (types : TypeTable) where
    abbrev rule : Rule G
    rule = graded_rule a p

    abbrev term : Tm G
    term = node_at a.nil p last

    context_is : context_types a.nil p.grades.now types.types.items c ≡ input_types rule
    context_is =
        let declared : rule_inputs rule ≡ inputs = inputs_many a.nil p.grades.now (take inputs t.binders) _ ∙ length-take-le inputs t.binders p.rule.now.program.declared in
        ap (map (type_in a.nil p.grades.now types.types.items)) is ∙ all_numbers a.nil p.grades.now types.types.items inputs ∙ ap (λ n. replicate n num) (sym declared)

    chain : rule_judged a rule ≡ (judged a (context_types a.nil p.grades.now types.types.items c) term then λ (A, u). answer a (place_of term) A then λ _. inputs_covered a rule (reverse u) then λ _. Ok (reverse u))
    chain =
        ap (λ u. judged a (input_types rule) u then λ (A, v). answer a (place_of u) A then λ _. inputs_covered a rule (reverse v) then λ _. Ok (reverse v)) (last_held a.nil [] p.grades.now t)
        ∙ ap (λ x. judged a x term then λ (A, v). answer a (place_of term) A then λ _. inputs_covered a rule (reverse v) then λ _. Ok (reverse v)) (sym context_is)

    pub run_fails : {f : Fault} → Err f ≡ judged a (context_types a.nil p.grades.now types.types.items c) term → rule_judged a rule ≡ Err f
    run_fails e = chain ∙ ends _ _ _ e

    pub no_answer : {g : G} {A B : Ty G} {u : List G} → Ok (to g A B, u) ≡ judged a (context_types a.nil p.grades.now types.types.items c) term → rule_judged a rule ≡ Err (fault AnswerNotNum (place_of term))
    no_answer e = chain ∙ goes_on _ _ _ e

    module _ (u : Usage G) (long : inputs ≤ length u.grades) (e : Ok (num, newest a.nil u.grades (length c)) ≡ judged a (context_types a.nil p.grades.now types.types.items c) term) where
      tested : rule_judged a rule ≡ (inputs_covered a rule (take inputs u.grades) then λ _. Ok (take inputs u.grades))
      tested =
          let ordered : reverse (newest a.nil u.grades (length c)) ≡ take inputs u.grades = ap (λ n. reverse (newest a.nil u.grades n)) many ∙ newest_reversed a.nil u.grades inputs long in
          chain ∙ goes_on _ _ _ e ∙ ap (λ us. inputs_covered a rule us then λ _. Ok us) ordered

      pub input_fails : {f : Fault} → Err f ≡ inputs_covered a rule (take inputs u.grades) → rule_judged a rule ≡ Err f
      input_fails h = tested ∙ ends _ _ _ h

      pub run_judged : {q : Unit {0}} → Ok q ≡ inputs_covered a rule (take inputs u.grades) → Ok (take inputs u.grades) ≡ rule_judged a rule
      run_judged h = sym (tested ∙ goes_on _ _ _ h)

      pub run_tested : (r : Result (Unit {0}) Fault) → r ≡ inputs_covered a rule (take inputs u.grades) → usages_of inputs (used_into r u) ≡ rule_judged a rule
      run_tested (Ok q) h = run_judged h
      run_tested (Err f) h = sym (input_fails h)

-- nothing stands in the way of judging
module _ {G : Type 0} (a : Ghosts G) (t : Tables) (list work : List G) (v : Option Verdict) (long : 256 ≤ length list) (wide : 2592 ≤ length work) (there : 0 < length t.nodes) where
  unjudged : (o : Option Verdict) → is_some o ≡ false → once_judged a t list work o ≡ concluded a work (rule_judged a (rule_of a t list))
  unjudged None e = refl
  unjudged (Some x) e = let z : ◌≡◌ {A = ℕ} 0 1 = cc in absurd (omega arith)

  pub judging : is_some v ≡ false → program_judged a t list v work ≡ concluded a work (rule_judged a (rule_of a t list))
  judging none =
      let short : (ltb (length list) 256 || ltb (length work) 2592) ≡ false = (λ k. le-ltb (length list) 256 long k || le-ltb (length work) 2592 wide k) in
      cond-false _ _ _ short ∙ cond-false _ _ _ (ne_eqb (length t.nodes) 0 (λ e. omega arith)) ∙ unjudged v none

  pub accepts : (us front : List G) → is_some v ≡ false → Ok us ≡ rule_judged a (rule_of a t list) → front ≡ us ++ replicate (2592 - length us) a.nil → (Ok tt, Some Accepted, front ++ drop 2592 work) ≡ program_judged a t list v work
  accepts us front none e is = ap (λ l. (Ok tt, Some Accepted, l ++ drop 2592 work)) is ∙ sym (judging none ∙ ap (concluded a work) (sym e))

  pub refuses : (f : Fault) (front : List G) → is_some v ≡ false → Err f ≡ rule_judged a (rule_of a t list) → front ≡ replicate 2592 a.nil → (Err f, Some Refused, front ++ drop 2592 work) ≡ program_judged a t list v work
  refuses f front none e is = ap (λ l. (Err f, Some Refused, l ++ drop 2592 work)) is ∙ sym (judging none ∙ ap (concluded a work) (sym e))
