-- Binders and types that are read are binders and types of the grammar. Assumes nothing.
use Rattle.std.proofs.Common.{◌≡◌, ℕ, zero, suc, ◌+◌, ◌-◌, ◌<◌, ◌≤◌, List, ◌∷◌, length, Some, None, Ok, Option, sym, refl, ap, ◌∙◌, subst, arith}
use Rattle.language.specs.declared.program.SimpleType.TheVariants.{To}
use Rattle.language.specs.declared.heads.Parsed.{Parsed}
use Rattle.language.specs.declared.heads.TypeHead.{TypeHead}
use Rattle.language.specs.declared.heads.TypeHead.TheVariants as type-heads
use Rattle.tokens.specs.Keywords.{keyword_of}
use Rattle.tokens.specs.Tokens.{Lexeme, word, number, grade, end, Lexed, token_at}
use Rattle.language.specs.Reading.{◌then◌, State, state, Read, changed, with_word, parsed, graded, grade_or, grade_of, binder_grade, binder, Bound, bound, name_of, type_head, counted, type_rest, type_inside, simple_type}
use Rattle.grammar.specs.Syntax.{Label, Ty, num, to, type_depth}
use Rattle.grammar.specs.Grammar.{Lexes, none, more, Solid, Ungraded, NoGrade, label, BinderIn, graded as written, bare, TypeIn, num_type, function_type}
use Rattle.grammar.specs.Storing.{keep_grade, keep_type, entry, typed}
use Rattle.grammar.proofs.Sizes.{deeper_two}
use Rattle.grammar.proofs.Beginnings.{then_ok, ok_same, absurd_ok, name_from, type_from, type_keyword, grade_from, counted_from, graded_from}

pub one_more : {n m : ℕ} → n < m → n + 1 ≤ m
one_more {n} {m} h = omega arith

-- a word or a grade is a token of the text
pub solid_word : {G : Type 0} (t : Lexeme G) (w : List ℕ) → t ≡ word w → Solid t
solid_word t w e = subst Solid (sym e) tt

pub solid_grade : {G : Type 0} (t : Lexeme G) (w : List ℕ) (g : G) → t ≡ grade w g → Solid t
solid_grade t w g e = subst Solid (sym e) tt

module _ {G : Type 0} (reading : List ℕ → Option (G × ℕ)) (one : G) (text : List ℕ) where
  -- tokens of a binder with its name, grade and what is stored of it
  pub record BinderRead (at : ℕ) (s : State G) (x : Bound × State G) (rest : List (Lexed G)) : Type 0 where
    pub tokens : List (Lexed G)
    pub name : Label
    pub declared : G
    pub lexes : Lexes reading text at tokens
    pub parses : BinderIn one tokens name declared rest
    pub bytes : x.0.name ≡ name.bytes
    pub entered : x.0.entry ≡ entry name (keep_grade declared s).0
    pub stored : x.1 ≡ (keep_grade declared s).1
    pub few : s.program.grades < 256

  no_grade_from : {p : ℕ} {ts : List (Lexed G)} (u : Lexed G) → Lexes reading text p ts → token_at reading text p ≡ Ok u → Ungraded u.token → NoGrade ts
  no_grade_from u (none e f) e' un = tt
  no_grade_from u (more {t = t} e s l) e' un = subst (λ x. Ungraded x.token) (ok_same u t (sym e' ∙ e)) un

  module _ (at : ℕ) (s : State G) (x : Bound × State G) (rest : List (Lexed G)) (t : Lexed G) (w : List ℕ) (lexed : token_at reading text at ≡ Ok t) (is : t.token ≡ word w) (key : keyword_of w ≡ None) (y : Parsed ℕ × State G) (gives : ◌≡◌ {A = Bound × State G} (bound w (record { place = t.place; len = length w; grade = y.0.value }) y.0.next, y.1) x) (left : Lexes reading text x.0.next rest) where
    -- the binder is bare
    bare_read : (u : Lexed G) → token_at reading text t.next ≡ Ok u → Ungraded u.token → (graded one t.place s then λ (i, s). Ok (parsed i t.next, s)) ≡ Ok y → BinderRead at s x rest
    bare_read u e un k =
        let step = then_ok (graded one t.place s) (λ (i, s). Ok (parsed i t.next, s)) y k in
        let kept = graded_from one t.place s step.0 step.1 in
        let is_y : (parsed (keep_grade one s).0 t.next, (keep_grade one s).1) ≡ y = ap (λ z. (parsed z.0 t.next, z.1)) (sym kept.1) ∙ ok_same _ _ step.2 in
        let next : x.0.next ≡ t.next = sym (ap (λ z. z.0.next) gives) ∙ sym (ap (λ z. z.0.next) is_y) in
        let l = subst (λ q. Lexes reading text q rest) next left in
        record {
          tokens = t ∷ rest;
          name = label t w;
          declared = one;
          lexes = more lexed (solid_word t.token w is) l;
          parses = bare is key (no_grade_from u l e un);
          bytes = sym (ap (λ z. z.0.name) gives);
          entered = sym (ap (λ z. z.0.entry) gives) ∙ ap (λ z. record { place = t.place; len = length w; grade = z.0.value }) (sym is_y);
          stored = sym (ap (λ z. z.1) gives) ∙ ap (λ z. z.1) (sym is_y);
          few = kept.0;
        }

    graded_read : (u : Lexed G) (v : List ℕ) (g : G) → token_at reading text t.next ≡ Ok u → u.token ≡ grade v g → (graded g u.place s then λ (i, s). Ok (parsed i u.next, s)) ≡ Ok y → BinderRead at s x rest
    graded_read u v g e ge k =
        let step = then_ok (graded g u.place s) (λ (i, s). Ok (parsed i u.next, s)) y k in
        let kept = graded_from g u.place s step.0 step.1 in
        let is_y : (parsed (keep_grade g s).0 u.next, (keep_grade g s).1) ≡ y = ap (λ z. (parsed z.0 u.next, z.1)) (sym kept.1) ∙ ok_same _ _ step.2 in
        let next : x.0.next ≡ u.next = sym (ap (λ z. z.0.next) gives) ∙ sym (ap (λ z. z.0.next) is_y) in
        record {
          tokens = t ∷ u ∷ rest;
          name = label t w;
          declared = g;
          lexes = more lexed (solid_word t.token w is) (more e (solid_grade u.token v g ge) (subst (λ q. Lexes reading text q rest) next left));
          parses = written is key ge;
          bytes = sym (ap (λ z. z.0.name) gives);
          entered = sym (ap (λ z. z.0.entry) gives) ∙ ap (λ z. record { place = t.place; len = length w; grade = z.0.value }) (sym is_y);
          stored = sym (ap (λ z. z.1) gives) ∙ ap (λ z. z.1) (sym is_y);
          few = kept.0;
        }

    by_token : (u : Lexed G) (k : Lexeme G) → token_at reading text t.next ≡ Ok u → u.token ≡ k → grade_or reading text one t.place t.next k u.place u.next s ≡ Ok y → BinderRead at s x rest
    by_token u (word v) e f g = bare_read u e (subst Ungraded (sym f) tt) g
    by_token u (number v z) e f g = bare_read u e (subst Ungraded (sym f) tt) g
    by_token u (grade v q) e f g = graded_read u v q e f g
    by_token u end e f g = bare_read u e (subst Ungraded (sym f) tt) g

  pub binder_sound : (at : ℕ) (s : State G) (x : Bound × State G) (rest : List (Lexed G)) → binder reading text one at s ≡ Ok x → Lexes reading text x.0.next rest → BinderRead at s x rest
  binder_sound at s x rest e left =
      let one_token = then_ok (token_at reading text at) _ x e in
      let t = one_token.0 in
      let named = then_ok (name_of t.token t.place) _ x one_token.2 in
      let is = name_from t.token t.place named.0 named.1 in
      let graded = then_ok (binder_grade reading text one t.place t.next s) _ x named.2 in
      let after = then_ok (token_at reading text t.next) _ graded.0 graded.1 in
      by_token at s x rest t named.0 one_token.1 is.0 is.1 graded.0 (ok_same _ _ graded.2) left after.0 after.0.token after.1 refl after.2

  -- tokens of a type with its tree and where it is stored
  pub record TypeRead (d at : ℕ) (s : State G) (x : Parsed ℕ × State G) (rest : List (Lexed G)) : Type 0 where
    pub tokens : List (Lexed G)
    pub tree : Ty G
    pub lexes : Lexes reading text at tokens
    pub parses : TypeIn one tokens tree rest
    pub stored : (x.0.value, x.1) ≡ typed tree s
    pub deep : type_depth tree ≤ d
    pub few_words : x.1.program.words ≤ 512
    pub few_grades : s.program.grades ≤ 256 → x.1.program.grades ≤ 256

  -- a reader gives types of so many levels at most
  abbrev pub TypesSound : ℕ → (ℕ → State G → Read G (Parsed ℕ)) → Type 0
  TypesSound d part = (at : ℕ) (s : State G) (x : Parsed ℕ × State G) (rest : List (Lexed G)) → part at s ≡ Ok x → Lexes reading text x.0.next rest → TypeRead d at s x rest

  module _ (d : ℕ) (inside : TypesSound (d - 1) (type_inside reading text d)) (at : ℕ) (s : State G) (x : Parsed ℕ × State G) (rest : List (Lexed G)) (left : Lexes reading text x.0.next rest) (some : 0 < d) (few_words : s.program.words < 512) (t : Lexed G) (w : List ℕ) (lexed : token_at reading text at ≡ Ok t) (is : t.token ≡ word w) where
    rest_sound : (h : TypeHead) → keyword_of w ≡ Some (type_keyword h) → type_rest reading text (type_inside reading text d) h t.next (changed with_word s) ≡ Ok x → TypeRead d at s x rest
    rest_sound type-heads.Num key k =
        let gives = ok_same _ _ k in
        record {
          tokens = t ∷ rest;
          tree = num;
          lexes = more lexed (solid_word t.token w is) (subst (λ q. Lexes reading text q rest) (sym (ap (λ z. z.0.next) gives)) left);
          parses = num_type is key;
          stored = ap (λ z. (z.0.value, z.1)) (sym gives);
          deep = some;
          few_words = subst (λ z. z.1.program.words ≤ 512) gives (omega arith);
          few_grades = λ few. subst (λ z. z.1.program.grades ≤ 256) gives few;
        }
    rest_sound type-heads.To key k =
        let s0 = changed with_word s in
        let token = then_ok (token_at reading text t.next) _ x k in
        let u = token.0 in
        let grade-step = then_ok (grade_of u.token u.place) _ x token.2 in
        let g = grade-step.0 in
        let ge = grade_from u.token u.place g grade-step.1 in
        let Kept-step = then_ok (graded g u.place s0) _ x grade-step.2 in
        let kept = graded_from g u.place s0 Kept-step.0 Kept-step.1 in
        let i = keep_grade g s0 in
        let from_step = then_ok (type_inside reading text d u.next Kept-step.0.1) _ x Kept-step.2 in
        let a = from_step.0 in
        let to_step = then_ok (type_inside reading text d a.0.next a.1) _ x from_step.2 in
        let b = to_step.0 in
        let gives = ok_same _ _ to_step.2 in
        let read_from : type_inside reading text d u.next i.1 ≡ Ok a = subst (λ z. type_inside reading text d u.next z.1 ≡ Ok a) kept.1 from_step.1 in
        let second = inside a.0.next a.1 b rest to_step.1 (subst (λ q. Lexes reading text q rest) (sym (ap (λ z. z.0.next) gives)) left) in
        let first = inside u.next i.1 a second.tokens read_from second.lexes in
        record {
          tokens = t ∷ u ∷ first.tokens;
          tree = to g first.tree second.tree;
          lexes = more lexed (solid_word t.token w is) (more token.1 (solid_grade u.token ge.0 g ge.1) first.lexes);
          parses = function_type is key ge.1 first.parses second.parses;
          stored =
              ap (λ z. (z.0.value, z.1)) (sym gives)
              ∙ ap (λ z. keep_type (To z.0 a.0.value b.0.value) b.1) kept.1
              ∙ ap (λ z. keep_type (To i.0 a.0.value z.0) z.1) second.stored
              ∙ ap (λ z. keep_type (To i.0 z.0 (typed second.tree z.1).0) (typed second.tree z.1).1) first.stored;
          deep = deeper_two d (type_depth first.tree) (type_depth second.tree) some first.deep second.deep;
          few_words = subst (λ z. z.1.program.words ≤ 512) gives second.few_words;
          few_grades = λ few. subst (λ z. z.1.program.grades ≤ 256) gives (second.few_grades (first.few_grades (one_more kept.0)));
        }

  pub type_by_sound : (d : ℕ) → TypesSound (d - 1) (type_inside reading text d) → TypesSound d (simple_type reading text d)
  type_by_sound d inside at s x rest e left =
      let token = then_ok (token_at reading text at) _ x e in
      let t = token.0 in
      let head = then_ok (type_head t.token t.place) _ x token.2 in
      let is = type_from t.token t.place head.0 head.1 in
      let count = then_ok (counted d t.place s.program) _ x head.2 in
      let known = counted_from d t.place s.program count.0 count.1 in
      let k = subst (λ z. type_rest reading text (type_inside reading text d) head.0 t.next (state z.1 s.list) ≡ Ok x) known.2 count.2 in
      rest_sound d inside at s x rest left known.0 known.1 t is.0 token.1 is.1 head.0 is.2 k

  pub type_inside_sound : (d : ℕ) → TypesSound (d - 1) (type_inside reading text d)
  type_inside_sound zero at s x rest e left = absurd_ok e
  type_inside_sound (suc d) at s x rest e left = lower (type_by_sound d (type_inside_sound d) at s x rest e left)
    where
      lower : TypeRead d at s x rest → TypeRead (suc d - 1) at s x rest
      lower r = let same : d ≡ suc d - 1 = omega arith in subst (λ n. TypeRead n at s x rest) same r

  pub type_sound : (d : ℕ) → TypesSound d (simple_type reading text d)
  type_sound d = type_by_sound d (type_inside_sound d)
