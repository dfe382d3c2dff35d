-- A text has one list of tokens, and a list of tokens is at most one rule. Assumes nothing.
use Rattle.std.proofs.Common.{◌≡◌, ℕ, List, ◌∷◌, Some, Option, sym, refl, ap, ◌∙◌, subst, arith}
use Rattle.tokens.specs.declared.keyword.Keyword.TheVariants as keywords
use Rattle.language.specs.declared.heads.TermHead.{TermHead}
use Rattle.tokens.specs.Keywords.{keyword_of}
use Rattle.tokens.specs.Tokens.{Lexeme, word, grade, Lexed}
use Rattle.grammar.specs.Syntax.{Label, Ty, to, Tm, fn, binary, half, less, Rule, input, run}
use Rattle.grammar.specs.Grammar.{Lexes, none, more, Solid, Begins, Ungraded, label, BinderIn, graded, bare, TypeIn, num_type, function_type, TermIn, begun, PartsIn, name_parts, literal_parts, fn_parts, binary_parts, half_parts, less_parts, RuleIn, input-rule, run_rule}
use Rattle.grammar.proofs.Beginnings.{ok_same, head_of}

module _ {G : Type 0} {reading : List ℕ → Option (G × ℕ)} {text : List ℕ} where
  pub lexes_same : {p : ℕ} {ts us : List (Lexed G)} → Lexes reading text p ts → Lexes reading text p us → ts ≡ us
  lexes_same (none e f) (none e' f') = refl
  lexes_same (none {t = t} e f) (more {t = u} e' s l) = absurd (subst Solid (ap (λ x. x.token) (ok_same u t (sym e' ∙ e)) ∙ f) s)
  lexes_same (more {t = t} e s l) (none {t = u} e' f) = absurd (subst Solid (ap (λ x. x.token) (ok_same t u (sym e ∙ e')) ∙ f) s)
  lexes_same (more {t = t} {ts = ts} e s l) (more {t = u} {ts = us} e' s' l') =
      let same = ok_same t u (sym e ∙ e') in
      let rest = lexes_same l (subst (λ x. Lexes reading text x.next us) (sym same) l') in
      λ k. same k ∷ rest k

begins_same : {G : Type 0} {scope : List (List ℕ)} {t : Lexeme G} {h i : TermHead} → Begins scope t h → Begins scope t i → h ≡ i
begins_same a b = ok_same _ _ (sym (head_of a 0) ∙ head_of b 0)

word_same : {G : Type 0} (t : Lexeme G) (w v : List ℕ) → t ≡ word w → t ≡ word v → w ≡ v
word_same t w v e f = cc

grade_same : {G : Type 0} (t : Lexeme G) (w v : List ℕ) (g h : G) → t ≡ grade w g → t ≡ grade v h → g ≡ h
grade_same t w v g h e f = cc

num_or_to : {G A : Type 0} (t : Lexeme G) (w v : List ℕ) → t ≡ word w → t ≡ word v → keyword_of w ≡ Some keywords.Num → keyword_of v ≡ Some keywords.To → A
num_or_to t w v a b e f = let s : w ≡ v = word_same t w v a b in let z : ◌≡◌ {A = ℕ} 0 1 = cc in absurd (omega arith)

input_or_run : {G A : Type 0} (t : Lexeme G) (w v : List ℕ) → t ≡ word w → t ≡ word v → keyword_of w ≡ Some keywords.Input → keyword_of v ≡ Some keywords.Run → A
input_or_run t w v a b e f = let s : w ≡ v = word_same t w v a b in let z : ◌≡◌ {A = ℕ} 0 1 = cc in absurd (omega arith)

module _ {G : Type 0} {one : G} where
  pub binder_same : {ts us vs : List (Lexed G)} {n m : Label} {g h : G} → BinderIn one ts n g us → BinderIn one ts m h vs → (n ≡ m) × (g ≡ h) × (us ≡ vs)
  binder_same (graded {t} {u} {w} {v} {g} a k b) (graded {w = w'} {v = v'} {g = h} a' k' b') = (ap (label t) (word_same t.token w w' a a'), grade_same u.token v v' g h b b', refl)
  binder_same (graded {t} {u} {w} {v} {g} a k b) (bare a' k' un) = absurd (subst Ungraded b un)
  binder_same (bare a k un) (graded {t} {u} {w} {v} {g} a' k' b) = absurd (subst Ungraded b un)
  binder_same (bare {t} {w} a k un) (bare {w = w'} a' k' un') = (ap (label t) (word_same t.token w w' a a'), refl, refl)

  pub type_same : {ts us vs : List (Lexed G)} {a b : Ty G} → TypeIn one ts a us → TypeIn one ts b vs → (a ≡ b) × (us ≡ vs)
  type_same (num_type a k) (num_type a' k') = (refl, refl)
  type_same (num_type {t} {w} a k) (function_type {w = v} a' k' g x y) = num_or_to t.token w v a a' k k'
  type_same (function_type {t} {w = v} a k g x y) (num_type {w = w} a' k') = num_or_to t.token w v a' a k' k
  type_same (function_type {u = u} {v = v} {g = g} {b = b} a k e x y) (function_type {v = v'} {g = g'} {b = b'} {vs = vs'} a' k' e' x' y') =
      let first = type_same x x' in
      let second = type_same y (subst (λ l. TypeIn one l b' vs') (sym first.1) y') in
      let grades = grade_same u.token v v' g g' e e' in
      (λ i. to (grades i) (first.0 i) (second.0 i), second.1)

  mutual
    pub term_same : {scope : List (List ℕ)} {ts us vs : List (Lexed G)} {a b : Tm G} → TermIn one scope ts a us → TermIn one scope ts b vs → (a ≡ b) × (us ≡ vs)
    term_same {scope} (begun {t = t} {h = h} {ts = ts} x p) (begun {u = v} {us = vs} y q) = parts_same p (subst (λ i. PartsIn one scope t.place i ts v vs) (begins_same y x) q)

    pub parts_same : {scope : List (List ℕ)} {p : ℕ} {h : TermHead} {ts us vs : List (Lexed G)} {a b : Tm G} → PartsIn one scope p h ts a us → PartsIn one scope p h ts b vs → (a ≡ b) × (us ≡ vs)
    parts_same name_parts name_parts = (refl, refl)
    parts_same literal_parts literal_parts = (refl, refl)
    parts_same {scope} (fn_parts {p = p} {n = n} {g = g} {a = a} {b = b} x y z) (fn_parts {n = n'} {g = g'} {a = a'} {b = b'} {vs = vs'} {ws = ws'} x' y' z') =
        let binder = binder_same x x' in
        let type = type_same y (subst (λ l. TypeIn one l a' vs') (sym binder.2) y') in
        let body = term_same z (subst (λ l. TermIn one (n.bytes ∷ scope) l b' ws') (sym type.1) (subst (λ m. TermIn one (m.bytes ∷ scope) vs' b' ws') (sym binder.0) z')) in
        (λ i. fn p (binder.0 i) (binder.1 i) (type.0 i) (body.0 i), body.1)
    parts_same {scope} (binary_parts {p = p} {form = form} x y) (binary_parts {b = b'} {vs = vs'} x' y') =
        let left = term_same x x' in
        let right = term_same y (subst (λ l. TermIn one scope l b' vs') (sym left.1) y') in
        (λ i. binary p form (left.0 i) (right.0 i), right.1)
    parts_same (half_parts {p = p} x) (half_parts x') = let part = term_same x x' in (ap (half p) part.0, part.1)
    parts_same {scope} (less_parts {p = p} x y z w) (less_parts {b = b'} {c = c'} {d = d'} {vs = vs'} {ws = ws'} {xs = xs'} x' y' z' w') =
        let a = term_same x x' in
        let b = term_same y (subst (λ l. TermIn one scope l b' vs') (sym a.1) y') in
        let c = term_same z (subst (λ l. TermIn one scope l c' ws') (sym b.1) z') in
        let d = term_same w (subst (λ l. TermIn one scope l d' xs') (sym c.1) w') in
        (λ i. less p (a.0 i) (b.0 i) (c.0 i) (d.0 i), d.1)

  pub rule_same : {scope : List (List ℕ)} {ts : List (Lexed G)} {r q : Rule G} → RuleIn one scope ts r → RuleIn one scope ts q → r ≡ q
  rule_same {scope} (input-rule {n = n} {r = r} a k x y) (input-rule {r = r'} {us = us'} a' k' x' y') =
      let binder = binder_same x x' in
      let rest = rule_same y (subst (λ l. RuleIn one (n.bytes ∷ scope) l r') (sym binder.2) (subst (λ m. RuleIn one (m.bytes ∷ scope) us' r') (sym binder.0) y')) in
      λ i. input (binder.0 i) (binder.1 i) (rest i)
  rule_same (input-rule {t = t} {w = w} a k x y) (run_rule {w = v} a' k' z) = input_or_run t.token w v a a' k k'
  rule_same (run_rule {t = t} {w = v} a k z) (input-rule {w = w} a' k' x y) = input_or_run t.token w v a' a k' k
  rule_same (run_rule a k x) (run_rule a' k' x') = ap run (term_same x x').0
