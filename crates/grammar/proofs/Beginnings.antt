-- What begins a part, by the grammar and by the reader; and readings that succeeded, taken apart. Assumes nothing.
use Rattle.std.proofs.Common.{◌≡◌, ℕ, ◌-◌, ◌<◌, Bool, true, false, cond, List, Some, None, Ok, Err, Option, Result, sym, refl, ap, ◌∙◌, subst, arith}
use Rattle.std.proofs.lemmas.Bool.{cond-false, or_from, or_parts, ne_eqb, lt-leb, leb-false, eqb-false}
use Rattle.tokens.specs.declared.refusal.Fault.{Fault}
use Rattle.tokens.specs.declared.keyword.Keyword.{Keyword}
use Rattle.tokens.specs.declared.keyword.Keyword.TheVariants as keywords
use Rattle.language.specs.declared.heads.TypeHead.{TypeHead}
use Rattle.language.specs.declared.heads.TypeHead.TheVariants as type-heads
use Rattle.language.specs.declared.heads.TermHead.{TermHead}
use Rattle.language.specs.declared.heads.RuleHead.{RuleHead}
use Rattle.language.specs.declared.heads.RuleHead.TheVariants as rule-heads
use Rattle.tokens.specs.Keywords.{keyword_of}
use Rattle.language.specs.Scopes.{find}
use Rattle.tokens.specs.Tokens.{Lexeme, word, number, grade, end}
use Rattle.language.specs.Reading.{◌then◌, State, Tables, with_word, counted, graded, name_of, unless_keyword, type_head, type_word, term_head, term_word, open_name, rule_head, rule_word, grade_of, ended}
use Rattle.grammar.specs.Grammar.{Begins, by_name, by_number, by_fn, by_call, by_add, by_sub, by_half, by_less}
use Rattle.grammar.specs.Storing.{keep_grade}

pub absurd_ok : {X : Type 0} {A : Type 0} {f : Fault} {x : X} → Err f ≡ Ok x → A
absurd_ok e = let z : ◌≡◌ {A = ℕ} 0 1 = cc in absurd (omega arith)

-- a chain that succeeded: its first part did, and then the rest
pub then_ok : {X Y : Type 0} (r : Result X Fault) (k : X → Result Y Fault) (y : Y) → (r then k) ≡ Ok y → (x : X) × (r ≡ Ok x) × (k x ≡ Ok y)
then_ok (Ok x) k y e = (x, refl, e)
then_ok (Err f) k y e = absurd_ok e

pub ok_same : {X : Type 0} (x y : X) → ◌≡◌ {A = Result X Fault} (Ok x) (Ok y) → x ≡ y
ok_same x y e = cc

-- the first word of a term
pub head_of : {G : Type 0} {scope : List (List ℕ)} {t : Lexeme G} {h : TermHead} → Begins scope t h → (place : ℕ) → term_head scope t place ≡ Ok h
head_of {scope = scope} (by_name {w} {k} e f) place = ap (term_word place scope w) e ∙ ap (open_name place) f
head_of by_number place = refl
head_of {scope = scope} (by_fn {w} e) place = ap (term_word place scope w) e
head_of {scope = scope} (by_call {w} e) place = ap (term_word place scope w) e
head_of {scope = scope} (by_add {w} e) place = ap (term_word place scope w) e
head_of {scope = scope} (by_sub {w} e) place = ap (term_word place scope w) e
head_of {scope = scope} (by_half {w} e) place = ap (term_word place scope w) e
head_of {scope = scope} (by_less {w} e) place = ap (term_word place scope w) e

named-begins : {G : Type 0} (scope : List (List ℕ)) (w : List ℕ) (place : ℕ) (h : TermHead) → keyword_of w ≡ None → (o : Option ℕ) → find w scope ≡ o → open_name place o ≡ Ok h → Begins {G = G} scope (word w) h
named-begins scope w place h e None f g = absurd_ok g
named-begins {G} scope w place h e (Some k) f g = subst (Begins {G = G} scope (word w)) (ok_same _ _ g) (by_name e f)

word_begins : {G : Type 0} (scope : List (List ℕ)) (w : List ℕ) (place : ℕ) (h : TermHead) (o : Option Keyword) → keyword_of w ≡ o → term_word place scope w o ≡ Ok h → Begins {G = G} scope (word w) h
word_begins scope w place h None e g = named-begins scope w place h e (find w scope) refl g
word_begins scope w place h (Some keywords.Input) e g = absurd_ok g
word_begins scope w place h (Some keywords.Run) e g = absurd_ok g
word_begins {G} scope w place h (Some keywords.Fn) e g = subst (Begins {G = G} scope (word w)) (ok_same _ _ g) (by_fn e)
word_begins {G} scope w place h (Some keywords.Call) e g = subst (Begins {G = G} scope (word w)) (ok_same _ _ g) (by_call e)
word_begins {G} scope w place h (Some keywords.Add) e g = subst (Begins {G = G} scope (word w)) (ok_same _ _ g) (by_add e)
word_begins {G} scope w place h (Some keywords.Sub) e g = subst (Begins {G = G} scope (word w)) (ok_same _ _ g) (by_sub e)
word_begins {G} scope w place h (Some keywords.Half) e g = subst (Begins {G = G} scope (word w)) (ok_same _ _ g) (by_half e)
word_begins {G} scope w place h (Some keywords.Less) e g = subst (Begins {G = G} scope (word w)) (ok_same _ _ g) (by_less e)
word_begins scope w place h (Some keywords.Num) e g = absurd_ok g
word_begins scope w place h (Some keywords.To) e g = absurd_ok g

pub begins_from : {G : Type 0} (scope : List (List ℕ)) (t : Lexeme G) (place : ℕ) (h : TermHead) → term_head scope t place ≡ Ok h → Begins scope t h
begins_from scope (word w) place h e = word_begins scope w place h (keyword_of w) refl e
begins_from scope (number w z) place h e = subst (Begins scope (number w z)) (ok_same _ _ e) by_number
begins_from scope (grade w g) place h e = absurd_ok e
begins_from scope end place h e = absurd_ok e

-- a binder's name
name_word : (w : List ℕ) (place : ℕ) (v : List ℕ) (o : Option Keyword) → keyword_of w ≡ o → unless_keyword w place o ≡ Ok v → (w ≡ v) × (keyword_of w ≡ None)
name_word w place v None e g = (ok_same _ _ g, e)
name_word w place v (Some k) e g = absurd_ok g

pub name_from : {G : Type 0} (t : Lexeme G) (place : ℕ) (v : List ℕ) → name_of t place ≡ Ok v → (t ≡ word v) × (keyword_of v ≡ None)
name_from {G} (word w) place v e = let p = name_word w place v (keyword_of w) refl e in (ap word p.0, subst (λ x. keyword_of x ≡ None) p.0 p.1)
name_from (number w z) place v e = absurd_ok e
name_from (grade w g) place v e = absurd_ok e
name_from end place v e = absurd_ok e

pub name_is : {G : Type 0} (t : Lexeme G) (place : ℕ) (w : List ℕ) → t ≡ word w → keyword_of w ≡ None → name_of t place ≡ Ok w
name_is t place w e f = ap (λ x. name_of x place) e ∙ ap (unless_keyword w place) f

-- the first word of a type
abbrev pub type_keyword : TypeHead → Keyword
type_keyword type-heads.Num = keywords.Num
type_keyword type-heads.To = keywords.To

type_word_from : (place : ℕ) (h : TypeHead) (o : Option Keyword) → type_word place o ≡ Ok h → o ≡ Some (type_keyword h)
type_word_from place h None e = absurd_ok e
type_word_from place h (Some keywords.Input) e = absurd_ok e
type_word_from place h (Some keywords.Run) e = absurd_ok e
type_word_from place h (Some keywords.Fn) e = absurd_ok e
type_word_from place h (Some keywords.Call) e = absurd_ok e
type_word_from place h (Some keywords.Add) e = absurd_ok e
type_word_from place h (Some keywords.Sub) e = absurd_ok e
type_word_from place h (Some keywords.Half) e = absurd_ok e
type_word_from place h (Some keywords.Less) e = absurd_ok e
type_word_from place h (Some keywords.Num) e = ap (λ x. Some (type_keyword x)) (ok_same _ _ e)
type_word_from place h (Some keywords.To) e = ap (λ x. Some (type_keyword x)) (ok_same _ _ e)

pub type_from : {G : Type 0} (t : Lexeme G) (place : ℕ) (h : TypeHead) → type_head t place ≡ Ok h → (w : List ℕ) × (t ≡ word w) × (keyword_of w ≡ Some (type_keyword h))
type_from (word w) place h e = (w, refl, type_word_from place h (keyword_of w) e)
type_from (number w z) place h e = absurd_ok e
type_from (grade w g) place h e = absurd_ok e
type_from end place h e = absurd_ok e

type_word_is : (place : ℕ) (h : TypeHead) → type_word place (Some (type_keyword h)) ≡ Ok h
type_word_is place type-heads.Num = refl
type_word_is place type-heads.To = refl

pub type_is : {G : Type 0} (t : Lexeme G) (place : ℕ) (h : TypeHead) (w : List ℕ) → t ≡ word w → keyword_of w ≡ Some (type_keyword h) → type_head t place ≡ Ok h
type_is t place h w e f = ap (λ x. type_head x place) e ∙ ap (type_word place) f ∙ type_word_is place h

-- the first word of a rule
abbrev pub rule_keyword : RuleHead → Keyword
rule_keyword rule-heads.Input = keywords.Input
rule_keyword rule-heads.Run = keywords.Run

rule_word_from : (place : ℕ) (h : RuleHead) (o : Option Keyword) → rule_word place o ≡ Ok h → o ≡ Some (rule_keyword h)
rule_word_from place h None e = absurd_ok e
rule_word_from place h (Some keywords.Input) e = ap (λ x. Some (rule_keyword x)) (ok_same _ _ e)
rule_word_from place h (Some keywords.Run) e = ap (λ x. Some (rule_keyword x)) (ok_same _ _ e)
rule_word_from place h (Some keywords.Fn) e = absurd_ok e
rule_word_from place h (Some keywords.Call) e = absurd_ok e
rule_word_from place h (Some keywords.Add) e = absurd_ok e
rule_word_from place h (Some keywords.Sub) e = absurd_ok e
rule_word_from place h (Some keywords.Half) e = absurd_ok e
rule_word_from place h (Some keywords.Less) e = absurd_ok e
rule_word_from place h (Some keywords.Num) e = absurd_ok e
rule_word_from place h (Some keywords.To) e = absurd_ok e

pub rule_from : {G : Type 0} (t : Lexeme G) (place : ℕ) (h : RuleHead) → rule_head t place ≡ Ok h → (w : List ℕ) × (t ≡ word w) × (keyword_of w ≡ Some (rule_keyword h))
rule_from (word w) place h e = (w, refl, rule_word_from place h (keyword_of w) e)
rule_from (number w z) place h e = absurd_ok e
rule_from (grade w g) place h e = absurd_ok e
rule_from end place h e = absurd_ok e

rule_word_is : (place : ℕ) (h : RuleHead) → rule_word place (Some (rule_keyword h)) ≡ Ok h
rule_word_is place rule-heads.Input = refl
rule_word_is place rule-heads.Run = refl

pub rule_is : {G : Type 0} (t : Lexeme G) (place : ℕ) (h : RuleHead) (w : List ℕ) → t ≡ word w → keyword_of w ≡ Some (rule_keyword h) → rule_head t place ≡ Ok h
rule_is t place h w e f = ap (λ x. rule_head x place) e ∙ ap (rule_word place) f ∙ rule_word_is place h

-- a grade, and the end
pub grade_from : {G : Type 0} (t : Lexeme G) (place : ℕ) (g : G) → grade_of t place ≡ Ok g → (w : List ℕ) × (t ≡ grade w g)
grade_from (word w) place g e = absurd_ok e
grade_from (number w z) place g e = absurd_ok e
grade_from (grade w h) place g e = (w, ap (grade w) (ok_same _ _ e))
grade_from end place g e = absurd_ok e

pub end_from : {G : Type 0} (t : Lexeme G) (place : ℕ) (u : Unit {0}) → ended t place ≡ Ok u → t ≡ end
end_from (word w) place u e = absurd_ok e
end_from (number w z) place u e = absurd_ok e
end_from (grade w h) place u e = absurd_ok e
end_from end place u e = refl

-- a word that was counted
pub counted_is : (d place : ℕ) (t : Tables) → 0 < d → t.words < 512 → counted d place t ≡ Ok (d - 1, with_word t)
counted_is d place t some few = cond-false _ _ _ (or_from _ _ (ne_eqb d 0 (λ e. omega arith)) (lt-leb 512 t.words few))

cond_ok : {X : Type 0} (b : Bool) (f : Fault) (x y : X) → ◌≡◌ {A = Result X Fault} (cond b (Err f) (Ok x)) (Ok y) → (b ≡ false) × (x ≡ y)
cond_ok true f x y e = absurd_ok e
cond_ok false f x y e = (refl, ok_same _ _ e)

pub counted_from : (d place : ℕ) (t : Tables) (x : ℕ × Tables) → counted d place t ≡ Ok x → (0 < d) × (t.words < 512) × (x ≡ (d - 1, with_word t))
counted_from d place t x e =
    let p = cond_ok _ _ _ _ e in
    let q = or_parts _ _ p.0 in
    let ne = eqb-false d 0 q.0 in
    (positive d ne, leb-false 512 t.words q.1, sym p.1)
  where
    positive : (d : ℕ) → (d ≡ 0 → ⊥) → 0 < d
    positive d h = omega arith

-- a grade that was stored
pub graded_is : {G : Type 0} (g : G) (place : ℕ) (s : State G) → s.program.grades < 256 → graded g place s ≡ Ok (keep_grade g s)
graded_is g place s few = cond-false _ _ _ (lt-leb 256 s.program.grades few)

pub graded_from : {G : Type 0} (g : G) (place : ℕ) (s : State G) (x : ℕ × State G) → graded g place s ≡ Ok x → (s.program.grades < 256) × (x ≡ keep_grade g s)
graded_from g place s x e = let p = cond_ok _ _ _ _ e in (leb-false 256 s.program.grades p.0, sym p.1)
