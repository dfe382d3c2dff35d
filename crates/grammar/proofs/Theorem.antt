-- The theorem about reading: it accepts exactly the sentences within the limits. Assumes nothing.
use Rattle.std.proofs.Common.{◌≡◌, ℕ, ◌+◌, ◌≤◌, Bool, true, false, cond, List, [], length, Ok, Err, Option, Result, sym, refl, ap, ◌∙◌, subst, arith}
use Rattle.std.proofs.lemmas.Bool.{cond-false, ne_eqb, eqb-false, le-ltb, ltb-false}
use Rattle.tokens.specs.declared.refusal.Fault.{Fault}
use Rattle.language.specs.Reading.{State, state, no_tables, text_read}
use Rattle.grammar.specs.Syntax.{Rule}
use Rattle.grammar.specs.Grammar.{RuleIn}
use Rattle.grammar.specs.Storing.{ruled}
use Rattle.grammar.specs.Recovering.{rule_in}
use Rattle.grammar.specs.Sentences.{Sentence, Accepted, Exact}
use Rattle.grammar.proofs.Beginnings.{absurd_ok}
use Rattle.grammar.proofs.Sizes.{ruled_words, ruled_grades}
use Rattle.grammar.proofs.Unique.{lexes_same, rule_same}
use Rattle.grammar.proofs.Complete.{rule_complete}
use Rattle.grammar.proofs.SoundRules.{rule_sound}
use Rattle.grammar.proofs.Recovered.{stored_held, ruled_long}
use Rattle.grammar.proofs.Spelling.{rule_spelled}

-- a test that did not refuse
passed : {X : Type 0} (b : Bool) (f : Fault) (r : Result X Fault) (x : X) → cond b (Err f) r ≡ Ok x → (b ≡ false) × (r ≡ Ok x)
passed true f r x e = absurd_ok e
passed false f r x e = (refl, e)

not_zero : (n : ℕ) → (n ≡ 0 → ⊥) → 1 ≤ n
not_zero n h = omega arith

-- sizes that are counted from nothing
few_of : {most : ℕ} (n k : ℕ) → n ≡ 0 + k → n ≤ most → k ≤ most
few_of n k e h = omega arith

no_more : {n most : ℕ} → n ≤ most → 0 + n ≤ most
no_more {n} {most} h = omega arith

enough : {n k l m : ℕ} → n ≡ 0 + k → l ≡ m → k ≤ 256 → 256 ≤ m → n ≤ l
enough {n} {k} {l} {m} e f h i = omega arith

module _ {G : Type 0} (reading : List ℕ → Option (G × ℕ)) (one : G) where
  accepted_from : (text : List ℕ) (list : List G) (s : State G) → text_read reading one text list ≡ Ok (tt, s) → Accepted reading one text list s
  accepted_from text list s e =
      let some = passed _ _ _ _ e in
      let short = passed _ _ _ _ some.1 in
      let r = rule_sound reading one text 8 [] 0 (state no_tables list) (tt, s) short.1 in
      let grades = few_of s.program.grades _ (ap (λ z. z.program.grades) r.stored ∙ ruled_grades r.tree (state no_tables list)) (r.few_grades (omega arith)) in
      let words = few_of s.program.words _ (ap (λ z. z.program.words) r.stored ∙ ruled_words r.tree (state no_tables list)) r.few_words in
      record {
        rule = r.tree;
        sentence = record { tokens = r.tokens; lexes = r.lexes; parses = r.parses };
        within = record {
          some_byte = not_zero (length text) (eqb-false (length text) 0 some.0);
          few_bytes = ltb-false 16384 (length text) short.0;
          few_inputs = r.few_inputs;
          few_grades = grades;
          few_words = words;
          few_levels = r.deep;
        };
        stored = r.stored;
      }

  read_from : (text : List ℕ) (list : List G) (s : State G) → Accepted reading one text list s → text_read reading one text list ≡ Ok (tt, s)
  read_from text list s a =
      let w = a.within in
      cond-false _ _ _ (ne_eqb (length text) 0 (λ e. omega (arith, w.some_byte)))
      ∙ cond-false _ _ _ (le-ltb 16384 (length text) w.few_bytes)
      ∙ rule_complete reading one text a.sentence.parses 8 0 (state no_tables list) a.sentence.lexes w.few_inputs (no_more w.few_words) (no_more w.few_grades) w.few_levels
      ∙ ap (λ z. Ok (tt, z)) (sym a.stored)

  one_rule : (text : List ℕ) (r q : Rule G) → Sentence reading one text r → Sentence reading one text q → r ≡ q
  one_rule text r q a b = rule_same a.parses (subst (λ l. RuleIn one [] l q) (sym (lexes_same a.lexes b.lexes)) b.parses)

  recovered : (beyond : G) (text : List ℕ) (list : List G) (s : State G) → 256 ≤ length list → (a : Accepted reading one text list s) → rule_in beyond text s.list s.program ≡ a.rule
  recovered beyond text list s long a =
      let r = a.rule in
      let start = state no_tables list in
      let full : (ruled r start).program.grades ≤ length (ruled r start).list = enough (ruled_grades r start) (ruled_long r start) a.within.few_grades long in
      ap (λ t. rule_in beyond text t.list t.program) a.stored
      ∙ stored_held beyond text r start refl refl full (rule_spelled reading text one a.sentence.parses a.sentence.lexes)

  pub exact : Exact reading one
  exact = record { accepts = λ text list s. (accepted_from text list s, read_from text list s); recovers = recovered; unique = one_rule }
