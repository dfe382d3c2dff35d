-- The names of a sentence stand in its text where their labels say. Assumes nothing.
use Rattle.std.proofs.Common.{◌≡◌, ℕ, ◌+◌, ◌-◌, ◌≤◌, Bool, true, false, cond, eqb, ltb, leb, List, length, get_or, drop, ℤ, Some, None, Ok, Err, Option, Result, refl, ap, ◌∙◌, subst, arith, length-drop, length-take}
use Rattle.std.specs.List.{between}
use Rattle.std.proofs.lemmas.Bool.{leb-false}
use Rattle.text.specs.declared.scan.Class.TheVariants.{Blank, Digit, Wordy, Inside}
use Rattle.text.specs.Decimals.{integer_of}
use Rattle.text.specs.Scan.{run_end}
use Rattle.tokens.specs.declared.refusal.Fault.{Fault}
use Rattle.tokens.specs.declared.refusal.Refusal.TheVariants.{NoToken, BadToken, BadGrade}
use Rattle.language.specs.declared.heads.TermHead.{TermHead}
use Rattle.tokens.specs.Tokens.{Lexeme, word, number, grade, end, Lexed, fault, lexed, Start, letter, digit, minus, opening, other, start_of, number_of, grade_of, starting, token_at}
use Rattle.grammar.specs.Syntax.{Label, Ty, Tm, Rule}
use Rattle.grammar.specs.Grammar.{Lexes, more, label, BinderIn, graded, bare, TypeIn, num_type, function_type, TermIn, begun, PartsIn, name_parts, literal_parts, fn_parts, binary_parts, half_parts, less_parts, RuleIn, input-rule, run_rule}
use Rattle.grammar.proofs.Beginnings.{absurd_ok, ok_same}
use Rattle.tokens.proofs.Tokens.{run_within}
use Rattle.grammar.proofs.Recovery.{SpelledAt, Spelled, AllSpelled}

-- a result whose token is no word
no_word : {G A : Type 0} (t u : Lexed G) (w : List ℕ) → ◌≡◌ {A = Result (Lexed G) Fault} (Ok t) (Ok u) → u.token ≡ word w → ((v : List ℕ) → t.token ≡ word v → ⊥) → A
no_word t u w e f h = absurd (h w (ap (λ x. x.token) (ok_same t u e) ∙ f))

number_word : {G : Type 0} (v w : List ℕ) (z : ℤ) → ◌≡◌ {A = Lexeme G} (number v z) (word w) → ⊥
number_word v w z e = let q : ◌≡◌ {A = ℕ} 0 1 = cc in omega arith

grade_word : {G : Type 0} (v w : List ℕ) (g : G) → ◌≡◌ {A = Lexeme G} (grade v g) (word w) → ⊥
grade_word v w g e = let q : ◌≡◌ {A = ℕ} 0 1 = cc in omega arith

end_word : {G : Type 0} (w : List ℕ) → ◌≡◌ {A = Lexeme G} end (word w) → ⊥
end_word w e = let q : ◌≡◌ {A = ℕ} 0 1 = cc in omega arith

length_between : (p e : ℕ) (text : List ℕ) → p ≤ e → e ≤ length text → length (between p e text) ≡ e - p
length_between p e text h k = length-take (e - p) (drop p text) ∙ (let l = length-drop p text in omega arith)

module _ {G : Type 0} (reading : List ℕ → Option (G × ℕ)) (text : List ℕ) where
  module _ (t : Lexed G) (w : List ℕ) (is : t.token ≡ word w) where
    word_case : (p : ℕ) (b : Bool) → p ≤ length text → cond b (Err (fault BadToken p)) (Ok (lexed (word (between p (run_end Wordy text p) text)) p (run_end Wordy text p))) ≡ Ok t → SpelledAt text (label t w)
    word_case p true inside e = absurd_ok e
    word_case p false inside e =
        let same = ok_same _ _ e in
        let bytes : between p (run_end Wordy text p) text ≡ w = word_bytes (ap (λ x. x.token) same ∙ is) in
        let place : p ≡ t.place = ap (λ x. x.place) same in
        let long : p + length w ≡ run_end Wordy text p = rw (← bytes) (omega (arith, length_between p (run_end Wordy text p) text (omega arith) (run_within Wordy text p inside))) in
        spelled p place (ap (λ q. between p q text) long ∙ bytes)
      where
        word_bytes : {v : List ℕ} → ◌≡◌ {A = Lexeme G} (word v) (word w) → v ≡ w
        word_bytes q = cc

        spelled : (p : ℕ) → p ≡ t.place → between p (p + length w) text ≡ w → SpelledAt text (label t w)
        spelled p e f = let g : between t.place (t.place + length w) text ≡ w = subst (λ q. between q (q + length w) text ≡ w) e f in λ k. record { place = t.place; bytes = g k }

    number_case : (p e : ℕ) (o : Option ℤ) {A : Type 0} → number_of reading text p e o ≡ Ok t → A
    number_case p e None h = absurd_ok h
    number_case p e (Some z) h = no_word _ t w h is (λ v. number_word _ v _)

    negative_case : (p e : ℕ) (b : Bool) (o : Option ℤ) {A : Type 0} → cond b (Err (fault NoToken p)) (number_of reading text p e o) ≡ Ok t → A
    negative_case p e true o h = absurd_ok h
    negative_case p e false o h = number_case p e o h

    whole_case : (p e : ℕ) (g : G) (b : Bool) {A : Type 0} → cond b (Ok (lexed (grade (between p (e + 1) text) g) p (e + 1))) (Err (fault BadGrade p)) ≡ Ok t → A
    whole_case p e g true h = no_word _ t w h is (λ v. grade_word _ v _)
    whole_case p e g false h = absurd_ok h

    grade_case : (p e : ℕ) (b : Bool) (o : Option (G × ℕ)) {A : Type 0} → cond b (Err (fault BadGrade p)) (grade_of reading text p e o) ≡ Ok t → A
    grade_case p e true o h = absurd_ok h
    grade_case p e false None h = absurd_ok h
    grade_case p e false (Some x) h = whole_case p e x.0 (eqb x.1 (e - (p + 1))) h

    start_case : (p : ℕ) (k : Start) → p ≤ length text → starting reading text k p ≡ Ok t → SpelledAt text (label t w)
    start_case p letter inside h = word_case p (ltb 16 (run_end Wordy text p - p)) inside h
    start_case p digit inside h = number_case p (run_end Digit text p) (integer_of (between p (run_end Digit text p) text) false) h
    start_case p minus inside h = negative_case p (run_end Digit text (p + 1)) (eqb (run_end Digit text (p + 1)) (p + 1)) (integer_of (between (p + 1) (run_end Digit text (p + 1)) text) true) h
    start_case p opening inside h = grade_case p (run_end Inside text (p + 1)) (leb (length text) (run_end Inside text (p + 1))) (reading (between (p + 1) (run_end Inside text (p + 1)) text)) h
    start_case p other inside h = absurd_ok h

    at_case : (p : ℕ) (b : Bool) → leb (length text) p ≡ b → cond b (Ok (lexed end p p)) (starting reading text (start_of (get_or text p 0)) p) ≡ Ok t → SpelledAt text (label t w)
    at_case p true e h = no_word _ t w h is end_word
    at_case p false e h = start_case p (start_of (get_or text p 0)) (let l = leb-false (length text) p e in omega arith) h

    pub word_spelled : (from : ℕ) → token_at reading text from ≡ Ok t → SpelledAt text (label t w)
    word_spelled from h = at_case (run_end Blank text from) (leb (length text) (run_end Blank text from)) refl h

  module _ (one : G) where
    binder_spelled : {ts rest : List (Lexed G)} {n : Label} {g : G} {at : ℕ} → BinderIn one ts n g rest → Lexes reading text at ts → SpelledAt text n × ((next : ℕ) × Lexes reading text next rest)
    binder_spelled (graded {t} {u} {w} is key ge) (more {p = p} e1 s1 (more e2 s2 l)) = (word_spelled t w is p e1, (u.next, l))
    binder_spelled (bare {t} {w} is key un) (more {p = p} e s l) = (word_spelled t w is p e, (t.next, l))

    type_left : {ts rest : List (Lexed G)} {a : Ty G} {at : ℕ} → TypeIn one ts a rest → Lexes reading text at ts → (next : ℕ) × Lexes reading text next rest
    type_left (num_type {t} is key) (more e s l) = (t.next, l)
    type_left (function_type is key ge x y) (more e1 s1 (more e2 s2 l)) = let a = type_left x l in type_left y a.1

    mutual
      term_spelled : {scope : List (List ℕ)} {ts rest : List (Lexed G)} {u : Tm G} {at : ℕ} → TermIn one scope ts u rest → Lexes reading text at ts → Spelled text u × ((next : ℕ) × Lexes reading text next rest)
      term_spelled (begun b p) (more e s l) = parts_spelled p l

      parts_spelled : {scope : List (List ℕ)} {p : ℕ} {h : TermHead} {ts rest : List (Lexed G)} {u : Tm G} {at : ℕ} → PartsIn one scope p h ts u rest → Lexes reading text at ts → Spelled text u × ((next : ℕ) × Lexes reading text next rest)
      parts_spelled {at = at} name_parts l = (tt, (at, l))
      parts_spelled {at = at} literal_parts l = (tt, (at, l))
      parts_spelled (fn_parts x y z) l =
          let n = binder_spelled x l in
          let a = type_left y n.1.1 in
          let b = term_spelled z a.1 in
          ((n.0, b.0), b.1)
      parts_spelled (binary_parts x y) l = let a = term_spelled x l in let b = term_spelled y a.1.1 in ((a.0, b.0), b.1)
      parts_spelled (half_parts x) l = term_spelled x l
      parts_spelled (less_parts x y z w) l =
          let a = term_spelled x l in
          let b = term_spelled y a.1.1 in
          let c = term_spelled z b.1.1 in
          let d = term_spelled w c.1.1 in
          ((a.0, b.0, c.0, d.0), d.1)

    pub rule_spelled : {scope : List (List ℕ)} {ts : List (Lexed G)} {r : Rule G} {at : ℕ} → RuleIn one scope ts r → Lexes reading text at ts → AllSpelled text r
    rule_spelled (input-rule is key x y) (more e s l) = let n = binder_spelled x l in (n.0, rule_spelled y n.1.1)
    rule_spelled (run_rule is key x) (more e s l) = (term_spelled x l).0
