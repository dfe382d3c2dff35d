-- Every sentence within the limits is read, and stored as its rule is. Assumes nothing.
use Rattle.std.proofs.Common.{◌≡◌, ℕ, ◌+◌, ◌-◌, ◌≤◌, List, [], Ok, Option, sym, refl, ap, ◌∙◌, subst, arith}
use Rattle.language.specs.declared.heads.Parsed.{Parsed}
use Rattle.language.specs.declared.heads.TypeHead.TheVariants as type-heads
use Rattle.language.specs.declared.heads.TermHead.{TermHead}
use Rattle.language.specs.declared.heads.TermHead.TheVariants as heads
use Rattle.language.specs.declared.heads.RuleHead.TheVariants as rule-heads
use Rattle.tokens.specs.Tokens.{Lexeme, word, number, grade, end, Lexed, token_at}
use Rattle.language.specs.Reading.{◌then◌, State, Read, changed, with_word, with_binder, parsed, graded, grade_or, grade_of, binder_grade, binder, bound, simple_type, term, term_parts, store_term, rule, ended}
use Rattle.grammar.specs.Syntax.{Label, Ty, Tm, Rule, type_words, type_grades, type_depth, term_words, term_grades, term_depth, rule_inputs, rule_grades, run_of}
use Rattle.grammar.specs.Grammar.{Lexes, none, more, Ungraded, NoGrade, BinderIn, graded as written, bare, TypeIn, num_type, function_type, TermIn, begun, PartsIn, name_parts, literal_parts, fn_parts, binary_parts, half_parts, less_parts, RuleIn, input-rule, run_rule}
use Rattle.grammar.specs.Storing.{keep_grade, entry, place_of, typed, parted, termed, ruled}
use Rattle.grammar.proofs.Beginnings.{head_of, name_is, type_is, rule_is, counted_is, graded_is}
use Rattle.grammar.proofs.Sizes.{typed_words, typed_grades, termed_words, termed_grades, term_some}
use Rattle.language.proofs.Chains.{goes_on, type_begun, arrow_parts, term_begun, fn_begun, input_begun}

-- the token after a bare binder
next_token : {G : Type 0} {reading : List ℕ → Option (G × ℕ)} {text : List ℕ} {p : ℕ} {ts : List (Lexed G)} → Lexes reading text p ts → NoGrade ts → (u : Lexed G) × (token_at reading text p ≡ Ok u) × Ungraded u.token
next_token (none {t = t} e f) un = (t, e, subst Ungraded (sym f) tt)
next_token (more {t = t} e s l) un = (t, e, un)

-- a term stands where its first token does
pub parts_place : {G : Type 0} {one : G} {scope : List (List ℕ)} {p : ℕ} {h : TermHead} {ts us : List (Lexed G)} {u : Tm G} → PartsIn one scope p h ts u us → p ≡ place_of u
parts_place name_parts = refl
parts_place literal_parts = refl
parts_place (fn_parts x y z) = refl
parts_place (binary_parts x y) = refl
parts_place (half_parts x) = refl
parts_place (less_parts x y z w) = refl

module _ {G : Type 0} (reading : List ℕ → Option (G × ℕ)) (one : G) (text : List ℕ) where
  -- a part is read as what is stored of it, and the tokens that are left follow it
  abbrev Reads : Read G (Parsed ℕ) → ℕ × State G → List (Lexed G) → Type 0
  Reads r x rest = (next : ℕ) × (r ≡ Ok (parsed x.0 next, x.1)) × Lexes reading text next rest

  ungraded : (place behind at next : ℕ) (s : State G) (t : Lexeme G) → Ungraded t → grade_or reading text one place behind t at next s ≡ (graded one place s then λ (i, s). Ok (parsed i behind, s))
  ungraded place behind at next s (word w) un = refl
  ungraded place behind at next s (number w z) un = refl
  ungraded place behind at next s (grade w g) un = absurd un
  ungraded place behind at next s end un = refl

  binder_complete : {ts rest : List (Lexed G)} {n : Label} {g : G} → BinderIn one ts n g rest → (at : ℕ) (s : State G) → Lexes reading text at ts → s.program.grades + 1 ≤ 256 →
      (next : ℕ) × (binder reading text one at s ≡ Ok (bound n.bytes (entry n (keep_grade g s).0) next, (keep_grade g s).1)) × Lexes reading text next rest
  binder_complete (written {t} {u} {w} {v} {g} is key ge) at s (more e1 s1 (more e2 s2 l)) few =
      let grade-read : binder_grade reading text one t.place t.next s ≡ Ok (parsed (keep_grade g s).0 u.next, (keep_grade g s).1) =
      goes_on _ _ _ (sym e2) ∙ ap (λ x. grade_or reading text one t.place t.next x u.place u.next s) ge ∙ goes_on _ _ _ (sym (graded_is g u.place s (omega arith))) in
      (u.next, goes_on _ _ _ (sym e1) ∙ goes_on _ _ _ (sym (name_is t.token t.place w is key)) ∙ goes_on _ _ _ (sym grade-read), l)
  binder_complete (bare {t} {w} is key un) at s (more e1 s1 l) few =
      let after = next_token l un in
      let u = after.0 in
      let grade-read : binder_grade reading text one t.place t.next s ≡ Ok (parsed (keep_grade one s).0 t.next, (keep_grade one s).1) =
      goes_on _ _ _ (sym after.1) ∙ ungraded t.place t.next u.place u.next s u.token after.2 ∙ goes_on _ _ _ (sym (graded_is one t.place s (omega arith))) in
      (t.next, goes_on _ _ _ (sym e1) ∙ goes_on _ _ _ (sym (name_is t.token t.place w is key)) ∙ goes_on _ _ _ (sym grade-read), l)

  type_complete : {ts rest : List (Lexed G)} {a : Ty G} → TypeIn one ts a rest → (d at : ℕ) (s : State G) → Lexes reading text at ts → type_depth a ≤ d → s.program.words + type_words a ≤ 512 → s.program.grades + type_grades a ≤ 256 → Reads (simple_type reading text d at s) (typed a s) rest
  type_complete (num_type {t} {w} is key) d at s (more e s1 l) deep words grades =
      (t.next, type_begun reading text d at s (sym e) (sym (type_is t.token t.place type-heads.Num w is key)) (sym (counted_is d t.place s.program (omega arith) (omega arith))) (omega arith), l)
  type_complete (function_type {t} {u} {w} {v} {g} {a} {b} is key ge x y) d at s (more e1 s1 (more e2 s2 l)) deep words grades =
      let i = keep_grade g (changed with_word s) in
      let begun = type_begun reading text d at s (sym e1) (sym (type_is t.token t.place type-heads.To w is key)) (sym (counted_is d t.place s.program (omega arith) (omega arith))) (omega arith) in
      let parts = arrow_parts reading text (simple_type reading text (d - 1)) t.next (changed with_word s) (sym e2) (sym (ap (λ k. grade_of k u.place) ge)) (sym (graded_is g u.place (changed with_word s) (omega arith))) in
      let first = type_complete x (d - 1) u.next i.1 l (omega arith) (omega arith) (omega arith) in
      let grown = typed_words a i.1 in
      let more_grades = typed_grades a i.1 in
      let second = type_complete y (d - 1) first.0 (typed a i.1).1 first.2 (omega arith) (omega arith) (omega arith) in
      (second.0, begun ∙ parts ∙ goes_on _ _ _ (sym first.1) ∙ goes_on _ _ _ (sym second.1), second.2)

  mutual
    term_complete : {scope : List (List ℕ)} {ts rest : List (Lexed G)} {u : Tm G} → TermIn one scope ts u rest → (d at : ℕ) (s : State G) → Lexes reading text at ts → term_depth u ≤ d → s.program.words + term_words u ≤ 512 → s.program.grades + term_grades u ≤ 256 → Reads (term reading text one d scope at s) (termed u s) rest
    term_complete {scope} (begun {t = t} {h = h} {u = u} b p) d at s (more e s1 l) deep words grades =
        let some = term_some u in
        let parts = parts_complete p (d - 1) t.next (changed with_word s) l (omega arith) (omega arith) (omega arith) in
        let start = term_begun reading text one d scope at s (sym e) (sym (head_of b t.place)) (sym (counted_is d t.place s.program (omega arith) (omega arith))) (omega arith) in
        let x = parted u (changed with_word s) in
        (parts.0, start ∙ goes_on _ _ _ (sym parts.1) ∙ ap (λ q. store_term q x.0 parts.0 x.1) (parts_place p), parts.2)

    parts_complete : {scope : List (List ℕ)} {p : ℕ} {h : TermHead} {ts rest : List (Lexed G)} {u : Tm G} → PartsIn one scope p h ts u rest → (inner at : ℕ) (s : State G) → Lexes reading text at ts → term_depth u ≤ inner + 1 → s.program.words + term_words u ≤ 513 → s.program.grades + term_grades u ≤ 256 →
        (next : ℕ) × (term_parts reading text one (simple_type reading text inner) (term reading text one inner) scope h at s ≡ Ok (parsed (parted u s).0 next, (parted u s).1)) × Lexes reading text next rest
    parts_complete name_parts inner at s l deep words grades = (at, refl, l)
    parts_complete literal_parts inner at s l deep words grades = (at, refl, l)
    parts_complete {scope} (fn_parts {n = n} {g = g} {a = a} {b = b} x y z) inner at s l deep words grades =
        let binder = binder_complete x at s l (omega arith) in
        let r = changed (λ q. with_binder q (entry n (keep_grade g s).0)) (keep_grade g s).1 in
        let some = term_some b in
        let type = type_complete y inner binder.0 r binder.2 (omega arith) (omega arith) (omega arith) in
        let grown = typed_words a r in
        let more_grades = typed_grades a r in
        let body = term_complete z inner type.0 (typed a r).1 type.2 (omega arith) (omega arith) (omega arith) in
        (body.0, fn_begun reading text one (simple_type reading text inner) (term reading text one inner) scope heads.Fn at s refl (sym binder.1) refl refl ∙ goes_on _ _ _ (sym type.1) ∙ goes_on _ _ _ (sym body.1), body.2)
    parts_complete (binary_parts {a = a} {b = b} x y) inner at s l deep words grades =
        let some = term_some b in
        let left = term_complete x inner at s l (omega arith) (omega arith) (omega arith) in
        let grown = termed_words a s in
        let more_grades = termed_grades a s in
        let right = term_complete y inner left.0 (termed a s).1 left.2 (omega arith) (omega arith) (omega arith) in
        (right.0, goes_on _ _ _ (sym left.1) ∙ goes_on _ _ _ (sym right.1), right.2)
    parts_complete (half_parts {a = a} x) inner at s l deep words grades =
        let part = term_complete x inner at s l (omega arith) (omega arith) (omega arith) in
        (part.0, goes_on _ _ _ (sym part.1), part.2)
    parts_complete (less_parts {a = a} {b = b} {c = c} {d = d} x y z w) inner at s l deep words grades =
        let some-b = term_some b in
        let some-c = term_some c in
        let some-d = term_some d in
        let one = term_complete x inner at s l (omega arith) (omega arith) (omega arith) in
        let s1 = (termed a s).1 in
        let words1 = termed_words a s in
        let grades1 = termed_grades a s in
        let two = term_complete y inner one.0 s1 one.2 (omega arith) (omega arith) (omega arith) in
        let s2 = (termed b s1).1 in
        let words2 = termed_words b s1 in
        let grades2 = termed_grades b s1 in
        let three = term_complete z inner two.0 s2 two.2 (omega arith) (omega arith) (omega arith) in
        let s3 = (termed c s2).1 in
        let words3 = termed_words c s2 in
        let grades3 = termed_grades c s2 in
        let four = term_complete w inner three.0 s3 three.2 (omega arith) (omega arith) (omega arith) in
        (four.0, goes_on _ _ _ (sym one.1) ∙ goes_on _ _ _ (sym two.1) ∙ goes_on _ _ _ (sym three.1) ∙ goes_on _ _ _ (sym four.1), four.2)

  -- the text ends behind the run term
  last_token : {p : ℕ} → Lexes reading text p [] → (u : Lexed G) × (token_at reading text p ≡ Ok u) × (ended u.token u.place ≡ Ok tt)
  last_token (none {t = t} e f) = (t, e, ap (λ k. ended k t.place) f)

  pub rule_complete : {scope : List (List ℕ)} {ts : List (Lexed G)} {r : Rule G} → RuleIn one scope ts r → (left at : ℕ) (s : State G) → Lexes reading text at ts → rule_inputs r ≤ left → s.program.words + term_words (run_of r) ≤ 512 → s.program.grades + rule_grades r ≤ 256 → term_depth (run_of r) ≤ 24 → rule reading text one left scope at s ≡ Ok (tt, ruled r s)
  rule_complete {scope} (input-rule {t = t} {w = w} {n = n} {g = g} {r = r} is key x y) left at s (more e s1 l) inputs words grades deep =
      let binder = binder_complete x t.next s l (omega arith) in
      let begun = input_begun reading text one left scope at s (sym e) (sym (rule_is t.token t.place rule-heads.Input w is key)) refl (omega arith) in
      begun ∙ goes_on _ _ _ (sym binder.1) ∙ rule_complete y (left - 1) binder.0 _ binder.2 (omega arith) (omega arith) (omega arith) deep
  rule_complete {scope} (run_rule {t = t} {w = w} {u = u} is key x) left at s (more e s1 l) inputs words grades deep =
      let body = term_complete x 24 t.next s l deep words grades in
      let after = last_token body.2 in
      goes_on _ _ _ (sym e) ∙ goes_on _ _ _ (sym (rule_is t.token t.place rule-heads.Run w is key)) ∙ goes_on _ _ _ (sym body.1) ∙ goes_on _ _ _ (sym after.1) ∙ goes_on _ _ _ (sym after.2)
