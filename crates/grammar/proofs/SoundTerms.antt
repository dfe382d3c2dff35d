-- Terms that are read are terms of the grammar. Assumes nothing.
use Rattle.std.proofs.Common.{◌≡◌, ℕ, zero, suc, ◌-◌, ◌<◌, ◌≤◌, List, ◌∷◌, length, Ok, Option, sym, ap, ◌∙◌, subst, arith}
use Rattle.language.specs.declared.program.Term.{Term}
use Rattle.language.specs.declared.program.Term.TheVariants.{Fn, Half, Less}
use Rattle.language.specs.declared.heads.Binary.{Binary}
use Rattle.language.specs.declared.heads.Parsed.{Parsed}
use Rattle.language.specs.declared.heads.TermHead.{TermHead}
use Rattle.language.specs.declared.heads.TermHead.TheVariants as heads
use Rattle.tokens.specs.Tokens.{Lexeme, Lexed, token_at}
use Rattle.language.specs.Reading.{◌then◌, State, state, Read, changed, with_word, with_binder, counted, binder, Bound, type_inside, term_head, parsed, term_parts, term_inside, term, store_term}
use Rattle.language.specs.Reading as forms
use Rattle.grammar.specs.Syntax.{Tm, name, literal, fn, binary, half, less, type_depth, term_depth}
use Rattle.grammar.specs.Grammar.{Lexes, more, Solid, Begins, by_name, by_number, by_fn, by_call, by_add, by_sub, by_half, by_less, TermIn, begun, PartsIn, name_parts, literal_parts, fn_parts, binary_parts, half_parts, less_parts}
use Rattle.grammar.specs.Storing.{keep_grade, keep_node, entry, typed, parted, termed}
use Rattle.grammar.proofs.Sizes.{deeper_one, deeper_two, deeper_four}
use Rattle.grammar.proofs.Beginnings.{then_ok, ok_same, absurd_ok, begins_from, counted_from}
use Rattle.grammar.proofs.Complete.{parts_place}
use Rattle.grammar.proofs.SoundTypes.{one_more, binder_sound, TypesSound, type_inside_sound}

solid_begins : {G : Type 0} {scope : List (List ℕ)} {t : Lexeme G} {h : TermHead} → Begins scope t h → Solid t
solid_begins (by_name e f) = tt
solid_begins by_number = tt
solid_begins (by_fn e) = tt
solid_begins (by_call e) = tt
solid_begins (by_add e) = tt
solid_begins (by_sub e) = tt
solid_begins (by_half e) = tt
solid_begins (by_less e) = tt

module _ {G : Type 0} (reading : List ℕ → Option (G × ℕ)) (one : G) (text : List ℕ) where
  -- tokens of a term with its tree and where it is stored
  pub record TermRead (d : ℕ) (scope : List (List ℕ)) (at : ℕ) (s : State G) (x : Parsed ℕ × State G) (rest : List (Lexed G)) : Type 0 where
    pub tokens : List (Lexed G)
    pub tree : Tm G
    pub lexes : Lexes reading text at tokens
    pub parses : TermIn one scope tokens tree rest
    pub stored : (x.0.value, x.1) ≡ termed tree s
    pub deep : term_depth tree ≤ d
    pub few_words : x.1.program.words ≤ 512
    pub few_grades : s.program.grades ≤ 256 → x.1.program.grades ≤ 256

  -- tokens of the parts of a term, with its tree
  pub record PartsRead (d : ℕ) (scope : List (List ℕ)) (place : ℕ) (h : TermHead) (at : ℕ) (s : State G) (x : Parsed Term × State G) (rest : List (Lexed G)) : Type 0 where
    pub tokens : List (Lexed G)
    pub tree : Tm G
    pub lexes : Lexes reading text at tokens
    pub parses : PartsIn one scope place h tokens tree rest
    pub stored : (x.0.value, x.1) ≡ parted tree s
    pub deep : term_depth tree ≤ d
    pub few_words : s.program.words ≤ 512 → x.1.program.words ≤ 512
    pub few_grades : s.program.grades ≤ 256 → x.1.program.grades ≤ 256

  -- a reader gives terms of so many levels at most
  abbrev pub TermsSound : ℕ → (List (List ℕ) → ℕ → State G → Read G (Parsed ℕ)) → Type 0
  TermsSound d part = (scope : List (List ℕ)) (at : ℕ) (s : State G) (x : Parsed ℕ × State G) (rest : List (Lexed G)) → part scope at s ≡ Ok x → Lexes reading text x.0.next rest → TermRead d scope at s x rest

  module _ (d : ℕ) (some : 0 < d) (types : TypesSound reading one text (d - 1) (type_inside reading text d)) (inside : TermsSound (d - 1) (term_inside reading text one d)) (scope : List (List ℕ)) (place at : ℕ) (s : State G) (x : Parsed Term × State G) (rest : List (Lexed G)) (left : Lexes reading text x.0.next rest) where
    fn_sound : (n : Bound × State G) (a b : Parsed ℕ × State G) → binder reading text one at s ≡ Ok n → type_inside reading text d n.0.next (changed (λ p. with_binder p n.0.entry) n.1) ≡ Ok a → term_inside reading text one d (n.0.name ∷ scope) a.0.next a.1 ≡ Ok b →
        ◌≡◌ {A = Parsed Term × State G} (parsed (Fn (length n.1.program.binders) a.0.value b.0.value) b.0.next, b.1) x → PartsRead d scope place heads.Fn at s x rest
    fn_sound n a b e1 e2 e3 gives =
        let body = inside (n.0.name ∷ scope) a.0.next a.1 b rest e3 (subst (λ q. Lexes reading text q rest) (sym (ap (λ z. z.0.next) gives)) left) in
        let type = types n.0.next (changed (λ p. with_binder p n.0.entry) n.1) a body.tokens e2 body.lexes in
        let bound = binder_sound reading one text at s n type.tokens e1 type.lexes in
        let i = keep_grade bound.declared s in
        record {
          tokens = bound.tokens;
          tree = fn place bound.name bound.declared type.tree body.tree;
          lexes = bound.lexes;
          parses = fn_parts bound.parses type.parses (subst (λ w. TermIn one (w ∷ scope) body.tokens body.tree rest) bound.bytes body.parses);
          stored =
              ap (λ z. (z.0.value, z.1)) (sym gives)
              ∙ ap (λ z. (Fn (length n.1.program.binders) a.0.value z.0, z.1)) body.stored
              ∙ ap (λ z. (Fn (length n.1.program.binders) z.0 (termed body.tree z.1).0, (termed body.tree z.1).1)) type.stored
              ∙ ap (λ q. let z = typed type.tree (changed (λ p. with_binder p q) n.1) in (Fn (length n.1.program.binders) z.0 (termed body.tree z.1).0, (termed body.tree z.1).1)) bound.entered
              ∙ ap (λ r. let z = typed type.tree (changed (λ p. with_binder p (entry bound.name i.0)) r) in (Fn (length r.program.binders) z.0 (termed body.tree z.1).0, (termed body.tree z.1).1)) bound.stored;
          deep = deeper_two d (type_depth type.tree) (term_depth body.tree) some type.deep body.deep;
          few_words = λ _. subst (λ z. z.1.program.words ≤ 512) gives body.few_words;
          few_grades = λ _. subst (λ z. z.1.program.grades ≤ 256) gives (body.few_grades (type.few_grades (subst (λ r. r.program.grades ≤ 256) (sym bound.stored) (one_more bound.few))));
        }

    binary_sound : (form : Binary) (a b : Parsed ℕ × State G) → term_inside reading text one d scope at s ≡ Ok a → term_inside reading text one d scope a.0.next a.1 ≡ Ok b →
        ◌≡◌ {A = Parsed Term × State G} (parsed (forms.binary form a.0.value b.0.value) b.0.next, b.1) x → PartsRead d scope place (heads.Binary form) at s x rest
    binary_sound form a b e1 e2 gives =
        let second = inside scope a.0.next a.1 b rest e2 (subst (λ q. Lexes reading text q rest) (sym (ap (λ z. z.0.next) gives)) left) in
        let first = inside scope at s a second.tokens e1 second.lexes in
        record {
          tokens = first.tokens;
          tree = binary place form first.tree second.tree;
          lexes = first.lexes;
          parses = binary_parts first.parses second.parses;
          stored =
              ap (λ z. (z.0.value, z.1)) (sym gives)
              ∙ ap (λ z. (forms.binary form a.0.value z.0, z.1)) second.stored
              ∙ ap (λ z. (forms.binary form z.0 (termed second.tree z.1).0, (termed second.tree z.1).1)) first.stored;
          deep = deeper_two d (term_depth first.tree) (term_depth second.tree) some first.deep second.deep;
          few_words = λ _. subst (λ z. z.1.program.words ≤ 512) gives second.few_words;
          few_grades = λ few. subst (λ z. z.1.program.grades ≤ 256) gives (second.few_grades (first.few_grades few));
        }

    half_sound : (a : Parsed ℕ × State G) → term_inside reading text one d scope at s ≡ Ok a →
        ◌≡◌ {A = Parsed Term × State G} (parsed (Half a.0.value) a.0.next, a.1) x → PartsRead d scope place heads.Half at s x rest
    half_sound a e1 gives =
        let first = inside scope at s a rest e1 (subst (λ q. Lexes reading text q rest) (sym (ap (λ z. z.0.next) gives)) left) in
        record {
          tokens = first.tokens;
          tree = half place first.tree;
          lexes = first.lexes;
          parses = half_parts first.parses;
          stored = ap (λ z. (z.0.value, z.1)) (sym gives) ∙ ap (λ z. (Half z.0, z.1)) first.stored;
          deep = deeper_one d (term_depth first.tree) some first.deep;
          few_words = λ _. subst (λ z. z.1.program.words ≤ 512) gives first.few_words;
          few_grades = λ few. subst (λ z. z.1.program.grades ≤ 256) gives (first.few_grades few);
        }

    less_sound : (a b c f : Parsed ℕ × State G) → term_inside reading text one d scope at s ≡ Ok a → term_inside reading text one d scope a.0.next a.1 ≡ Ok b → term_inside reading text one d scope b.0.next b.1 ≡ Ok c → term_inside reading text one d scope c.0.next c.1 ≡ Ok f →
        ◌≡◌ {A = Parsed Term × State G} (parsed (Less a.0.value b.0.value c.0.value f.0.value) f.0.next, f.1) x → PartsRead d scope place heads.Less at s x rest
    less_sound a b c f e1 e2 e3 e4 gives =
        let fourth = inside scope c.0.next c.1 f rest e4 (subst (λ q. Lexes reading text q rest) (sym (ap (λ z. z.0.next) gives)) left) in
        let third = inside scope b.0.next b.1 c fourth.tokens e3 fourth.lexes in
        let second = inside scope a.0.next a.1 b third.tokens e2 third.lexes in
        let first = inside scope at s a second.tokens e1 second.lexes in
        record {
          tokens = first.tokens;
          tree = less place first.tree second.tree third.tree fourth.tree;
          lexes = first.lexes;
          parses = less_parts first.parses second.parses third.parses fourth.parses;
          stored =
              ap (λ z. (z.0.value, z.1)) (sym gives)
              ∙ ap (λ z. (Less a.0.value b.0.value c.0.value z.0, z.1)) fourth.stored
              ∙ ap (λ z. (Less a.0.value b.0.value z.0 (termed fourth.tree z.1).0, (termed fourth.tree z.1).1)) third.stored
              ∙ ap (λ z. let y = termed third.tree z.1 in (Less a.0.value z.0 y.0 (termed fourth.tree y.1).0, (termed fourth.tree y.1).1)) second.stored
              ∙ ap (λ z. let w = termed second.tree z.1 in let y = termed third.tree w.1 in (Less z.0 w.0 y.0 (termed fourth.tree y.1).0, (termed fourth.tree y.1).1)) first.stored;
          deep = deeper_four d (term_depth first.tree) (term_depth second.tree) (term_depth third.tree) (term_depth fourth.tree) some first.deep second.deep third.deep fourth.deep;
          few_words = λ _. subst (λ z. z.1.program.words ≤ 512) gives fourth.few_words;
          few_grades = λ few. subst (λ z. z.1.program.grades ≤ 256) gives (fourth.few_grades (third.few_grades (second.few_grades (first.few_grades few))));
        }

    parts_sound : (h : TermHead) → term_parts reading text one (type_inside reading text d) (term_inside reading text one d) scope h at s ≡ Ok x → PartsRead d scope place h at s x rest
    parts_sound (heads.Name k) e =
        let gives = ok_same _ _ e in
        record {
          tokens = rest;
          tree = name place k;
          lexes = subst (λ q. Lexes reading text q rest) (sym (ap (λ z. z.0.next) gives)) left;
          parses = name_parts;
          stored = ap (λ z. (z.0.value, z.1)) (sym gives);
          deep = some;
          few_words = subst (λ z. z.1.program.words ≤ 512) gives;
          few_grades = subst (λ z. z.1.program.grades ≤ 256) gives;
        }
    parts_sound (heads.Number v) e =
        let gives = ok_same _ _ e in
        record {
          tokens = rest;
          tree = literal place v;
          lexes = subst (λ q. Lexes reading text q rest) (sym (ap (λ z. z.0.next) gives)) left;
          parses = literal_parts;
          stored = ap (λ z. (z.0.value, z.1)) (sym gives);
          deep = some;
          few_words = subst (λ z. z.1.program.words ≤ 512) gives;
          few_grades = subst (λ z. z.1.program.grades ≤ 256) gives;
        }
    parts_sound heads.Fn e =
        let step1 = then_ok (binder reading text one at s) _ x e in
        let n = step1.0 in
        let step2 = then_ok (type_inside reading text d n.0.next (changed (λ p. with_binder p n.0.entry) n.1)) _ x step1.2 in
        let a = step2.0 in
        let step3 = then_ok (term_inside reading text one d (n.0.name ∷ scope) a.0.next a.1) _ x step2.2 in
        fn_sound n a step3.0 step1.1 step2.1 step3.1 (ok_same _ _ step3.2)
    parts_sound (heads.Binary form) e =
        let step1 = then_ok (term_inside reading text one d scope at s) _ x e in
        let a = step1.0 in
        let step2 = then_ok (term_inside reading text one d scope a.0.next a.1) _ x step1.2 in
        binary_sound form a step2.0 step1.1 step2.1 (ok_same _ _ step2.2)
    parts_sound heads.Half e =
        let step1 = then_ok (term_inside reading text one d scope at s) _ x e in
        half_sound step1.0 step1.1 (ok_same _ _ step1.2)
    parts_sound heads.Less e =
        let step1 = then_ok (term_inside reading text one d scope at s) _ x e in
        let a = step1.0 in
        let step2 = then_ok (term_inside reading text one d scope a.0.next a.1) _ x step1.2 in
        let b = step2.0 in
        let step3 = then_ok (term_inside reading text one d scope b.0.next b.1) _ x step2.2 in
        let c = step3.0 in
        let step4 = then_ok (term_inside reading text one d scope c.0.next c.1) _ x step3.2 in
        less_sound a b c step4.0 step1.1 step2.1 step3.1 step4.1 (ok_same _ _ step4.2)

  pub term_by_sound : (d : ℕ) → TypesSound reading one text (d - 1) (type_inside reading text d) → TermsSound (d - 1) (term_inside reading text one d) → TermsSound d (term reading text one d)
  term_by_sound d types inside scope at s x rest e left =
      let token = then_ok (token_at reading text at) _ x e in
      let t = token.0 in
      let head = then_ok (term_head scope t.token t.place) _ x token.2 in
      let h = head.0 in
      let begins = begins_from scope t.token t.place h head.1 in
      let count = then_ok (counted d t.place s.program) _ x head.2 in
      let known = counted_from d t.place s.program count.0 count.1 in
      let k = subst (λ z. (term_parts reading text one (type_inside reading text d) (term_inside reading text one d) scope h t.next (state z.1 s.list) then λ (f, s). store_term t.place f.value f.next s) ≡ Ok x) known.2 count.2 in
      let step = then_ok (term_parts reading text one (type_inside reading text d) (term_inside reading text one d) scope h t.next (changed with_word s)) _ x k in
      let f = step.0 in
      let gives = ok_same _ _ step.2 in
      let parts = parts_sound d known.0 types inside scope t.place t.next (changed with_word s) f rest (subst (λ q. Lexes reading text q rest) (sym (ap (λ z. z.0.next) gives)) left) h step.1 in
      record {
        tokens = t ∷ parts.tokens;
        tree = parts.tree;
        lexes = more token.1 (solid_begins begins) parts.lexes;
        parses = begun begins parts.parses;
        stored =
            ap (λ z. (z.0.value, z.1)) (sym gives)
            ∙ ap (keep_node t.place) parts.stored
            ∙ ap (λ q. keep_node q (parted parts.tree (changed with_word s))) (parts_place parts.parses);
        deep = parts.deep;
        few_words = subst (λ z. z.1.program.words ≤ 512) gives (parts.few_words (one_more known.1));
        few_grades = λ few. subst (λ z. z.1.program.grades ≤ 256) gives (parts.few_grades few);
      }

  pub term_inside_sound : (d : ℕ) → TermsSound (d - 1) (term_inside reading text one d)
  term_inside_sound zero scope at s x rest e left = absurd_ok e
  term_inside_sound (suc d) scope at s x rest e left = lower (term_by_sound d (type_inside_sound reading one text d) (term_inside_sound d) scope at s x rest e left)
    where
      lower : TermRead d scope at s x rest → TermRead (suc d - 1) scope at s x rest
      lower r = let same : d ≡ suc d - 1 = omega arith in subst (λ n. TermRead n scope at s x rest) same r

  pub term_sound : (d : ℕ) → TermsSound d (term reading text one d)
  term_sound d = term_by_sound d (type_inside_sound reading one text d) (term_inside_sound d)
