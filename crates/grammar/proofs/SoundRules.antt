-- Rules that are read are rules of the grammar. Assumes nothing.
use Rattle.std.proofs.Common.{◌≡◌, ℕ, zero, suc, ◌≤◌, List, [], ◌∷◌, Some, Ok, Option, sym, ap, ◌∙◌, subst, suc-le-suc, arith}
use Rattle.language.specs.declared.heads.Parsed.{Parsed}
use Rattle.language.specs.declared.heads.RuleHead.{RuleHead}
use Rattle.language.specs.declared.heads.RuleHead.TheVariants as rule-heads
use Rattle.tokens.specs.Keywords.{keyword_of}
use Rattle.tokens.specs.Tokens.{word, end, Lexed, token_at}
use Rattle.language.specs.Reading.{◌then◌, State, Read, changed, with_input, Bound, binder, term, ended, rule_head, rule_rest, rule_by, rule}
use Rattle.language.specs.Reading as forms
use Rattle.grammar.specs.Syntax.{Label, Rule, input, run, rule_inputs, run_of, term_depth}
use Rattle.grammar.specs.Grammar.{Lexes, none, more, BinderIn, RuleIn, input-rule, run_rule}
use Rattle.grammar.specs.Storing.{keep_grade, entry, ruled}
use Rattle.grammar.proofs.Beginnings.{then_ok, ok_same, absurd_ok, rule_from, rule_keyword, end_from}
use Rattle.grammar.proofs.SoundTypes.{one_more, solid_word, binder_sound}
use Rattle.grammar.proofs.SoundTerms.{term_sound}

module _ {G : Type 0} (reading : List ℕ → Option (G × ℕ)) (one : G) (text : List ℕ) where
  -- tokens of a rule with its tree and what is stored of it
  pub record RuleRead (left : ℕ) (scope : List (List ℕ)) (at : ℕ) (s : State G) (x : Unit {0} × State G) : Type 0 where
    pub tokens : List (Lexed G)
    pub tree : Rule G
    pub lexes : Lexes reading text at tokens
    pub parses : RuleIn one scope tokens tree
    pub stored : x.1 ≡ ruled tree s
    pub few_inputs : rule_inputs tree ≤ left
    pub deep : term_depth (run_of tree) ≤ 24
    pub few_words : x.1.program.words ≤ 512
    pub few_grades : s.program.grades ≤ 256 → x.1.program.grades ≤ 256

  -- the same behind the word `input`
  record InputRead (left : ℕ) (scope : List (List ℕ)) (at : ℕ) (s : State G) (x : Unit {0} × State G) : Type 0 where
    tokens : List (Lexed G)
    rest : List (Lexed G)
    name : Label
    declared : G
    tree : Rule G
    lexes : Lexes reading text at tokens
    binds : BinderIn one tokens name declared rest
    parses : RuleIn one (name.bytes ∷ scope) rest tree
    stored : x.1 ≡ ruled (input name declared tree) s
    few_inputs : suc (rule_inputs tree) ≤ left
    deep : term_depth (run_of tree) ≤ 24
    few_words : x.1.program.words ≤ 512
    few_grades : s.program.grades ≤ 256 → x.1.program.grades ≤ 256

  abbrev InputsSound : ℕ → (ℕ → List (List ℕ) → ℕ → State G → Read G (Unit {0})) → Type 0
  InputsSound left inputs = (place : ℕ) (scope : List (List ℕ)) (at : ℕ) (s : State G) (x : Unit {0} × State G) → inputs place scope at s ≡ Ok x → InputRead left scope at s x

  module _ (left : ℕ) (scope : List (List ℕ)) (at : ℕ) (s : State G) (x : Unit {0} × State G) (t : Lexed G) (w : List ℕ) (lexed : token_at reading text at ≡ Ok t) (is : t.token ≡ word w) where
    run_sound : keyword_of w ≡ Some (rule_keyword rule-heads.Run) → (a : Parsed ℕ × State G) (u : Lexed G) → term reading text one 24 scope t.next s ≡ Ok a → token_at reading text a.0.next ≡ Ok u → u.token ≡ end → ◌≡◌ {A = Unit {0} × State G} (tt, a.1) x → RuleRead left scope at s x
    run_sound key a u e1 e2 last gives =
        let body = term_sound reading one text 24 scope t.next s a [] e1 (none e2 last) in
        record {
          tokens = t ∷ body.tokens;
          tree = run body.tree;
          lexes = more lexed (solid_word t.token w is) body.lexes;
          parses = run_rule is key body.parses;
          stored = sym (ap (λ z. z.1) gives) ∙ ap (λ z. z.1) body.stored;
          few_inputs = omega arith;
          deep = body.deep;
          few_words = subst (λ z. z.1.program.words ≤ 512) gives body.few_words;
          few_grades = λ few. subst (λ z. z.1.program.grades ≤ 256) gives (body.few_grades few);
        }

    rest_sound : (inputs : ℕ → List (List ℕ) → ℕ → State G → Read G (Unit {0})) → InputsSound left inputs → (h : RuleHead) → keyword_of w ≡ Some (rule_keyword h) → rule_rest reading text one inputs h scope t.place t.next s ≡ Ok x → RuleRead left scope at s x
    rest_sound inputs sound rule-heads.Run key k =
        let step1 = then_ok (term reading text one 24 scope t.next s) _ x k in
        let a = step1.0 in
        let step2 = then_ok (token_at reading text a.0.next) _ x step1.2 in
        let u = step2.0 in
        let step3 = then_ok (ended u.token u.place) _ x step2.2 in
        run_sound key a u step1.1 step2.1 (end_from u.token u.place step3.0 step3.1) (ok_same _ _ step3.2)
    rest_sound inputs sound rule-heads.Input key k =
        let r = sound t.place scope t.next s x k in
        record {
          tokens = t ∷ r.tokens;
          tree = input r.name r.declared r.tree;
          lexes = more lexed (solid_word t.token w is) r.lexes;
          parses = input-rule is key r.binds r.parses;
          stored = r.stored;
          few_inputs = r.few_inputs;
          deep = r.deep;
          few_words = r.few_words;
          few_grades = r.few_grades;
        }

  rule_by_sound : (left : ℕ) (inputs : ℕ → List (List ℕ) → ℕ → State G → Read G (Unit {0})) → InputsSound left inputs → (scope : List (List ℕ)) (at : ℕ) (s : State G) (x : Unit {0} × State G) → rule_by reading text one inputs scope at s ≡ Ok x → RuleRead left scope at s x
  rule_by_sound left inputs sound scope at s x e =
      let token = then_ok (token_at reading text at) _ x e in
      let t = token.0 in
      let head = then_ok (rule_head t.token t.place) _ x token.2 in
      let is = rule_from t.token t.place head.0 head.1 in
      rest_sound left scope at s x t is.0 token.1 is.1 inputs sound head.0 is.2 head.2

  -- an input that was read, and the rule behind it
  one_input : (left place : ℕ) (scope : List (List ℕ)) (at : ℕ) (s : State G) (x : Unit {0} × State G) (n : Bound × State G) → binder reading text one at s ≡ Ok n → RuleRead left (n.0.name ∷ scope) n.0.next (changed (λ p. with_input p n.0.entry) n.1) x → InputRead (suc left) scope at s x
  one_input left place scope at s x n e r =
      let bound = binder_sound reading one text at s n r.tokens e r.lexes in
      let i = keep_grade bound.declared s in
      record {
        tokens = bound.tokens;
        rest = r.tokens;
        name = bound.name;
        declared = bound.declared;
        tree = r.tree;
        lexes = bound.lexes;
        binds = bound.parses;
        parses = subst (λ w. RuleIn one (w ∷ scope) r.tokens r.tree) bound.bytes r.parses;
        stored =
            r.stored
            ∙ ap (λ q. ruled r.tree (changed (λ p. with_input p q) n.1)) bound.entered
            ∙ ap (λ q. ruled r.tree (changed (λ p. with_input p (entry bound.name i.0)) q)) bound.stored;
        few_inputs = suc-le-suc r.few_inputs;
        deep = r.deep;
        few_words = r.few_words;
        few_grades = λ _. r.few_grades (subst (λ q. q.program.grades ≤ 256) (sym bound.stored) (one_more bound.few));
      }

  input_sound : (left : ℕ) → InputsSound left (forms.input reading text one left)
  input_sound zero place scope at s x e = absurd_ok e
  input_sound (suc left) place scope at s x e =
      let step = then_ok (binder reading text one at s) _ x e in
      let n = step.0 in
      one_input left place scope at s x n step.1 (rule_by_sound left (forms.input reading text one left) (input_sound left) (n.0.name ∷ scope) n.0.next (changed (λ p. with_input p n.0.entry) n.1) x step.2)

  pub rule_sound : (left : ℕ) (scope : List (List ℕ)) (at : ℕ) (s : State G) (x : Unit {0} × State G) → rule reading text one left scope at s ≡ Ok x → RuleRead left scope at s x
  rule_sound left scope at s x e = rule_by_sound left (forms.input reading text one left) (input_sound left) scope at s x e
