-- What a chain of readings gives, once each of its parts is known. Assumes nothing.
use Rattle.std.proofs.Common.{◌≡◌, ℕ, suc, ◌+◌, ◌-◌, ◌<◌, ◌≤◌, List, ◌∷◌, ◌++◌, length, take, drop, replicate, IsErrAnd, Ok, Err, Option, Result, sym, ap, ◌∙◌, arith}
use Rattle.std.proofs.lemmas.Bool.{cond-false, le-ltb}
use Rattle.std.proofs.lemmas.Result.{err_from_is_err_and}
use Rattle.tokens.specs.declared.refusal.Fault.{Fault}
use Rattle.language.specs.declared.program.SimpleType.{SimpleType}
use Rattle.language.specs.declared.program.SimpleType.TheVariants.{To}
use Rattle.language.specs.declared.program.Term.{Term}
use Rattle.language.specs.declared.program.Term.TheVariants.{Fn}
use Rattle.language.specs.declared.heads.Parsed.{Parsed}
use Rattle.language.specs.declared.heads.TypeHead.{TypeHead}
use Rattle.language.specs.declared.heads.TypeHead.TheVariants as type-heads
use Rattle.language.specs.declared.heads.TermHead.{TermHead}
use Rattle.language.specs.declared.heads.TermHead.TheVariants as heads
use Rattle.language.specs.declared.heads.RuleHead.{RuleHead}
use Rattle.language.specs.declared.heads.RuleHead.TheVariants as rule-heads
use Rattle.tokens.specs.Tokens.{Lexed, token_at}
use Rattle.language.specs.Reading.{told, ◌then◌, State, Read, Tables, state, Bound, changed, with_binder, with_type, with_node, binder, type_head, type_rest, type_inside, simple_type, counted, grade_of, graded, parsed, store_type, store_term, term_head, term_parts, term_inside, term, rule_head, rule_rest, input, rule, with_input, no_tables, text_read, left_by, program_read}

-- a reading that succeeded goes on, and one that failed ends the chain
pub goes_on : {X Y : Type 0} (r : Result X Fault) (x : X) (k : X → Result Y Fault) → Ok x ≡ r → (r then k) ≡ k x
goes_on r x k e = ap (λ q. q then k) (sym e)

pub ends : {X Y : Type 0} (r : Result X Fault) (f : Fault) (k : X → Result Y Fault) → Err f ≡ r → (r then k) ≡ Err f
ends r f k e = ap (λ q. q then k) (sym e)

-- the exit by a fault
pub failed : {X S : Type 0} (r : Result X Fault) (f : Fault) (s : S) (spec : Result (X × S) Fault) → IsErrAnd r (λ y. y ≡ f) → spec ≡ Err f → told r s ≡ spec
failed r f s spec e h = let p = err_from_is_err_and r e in ap (λ q. told q s) p.1 ∙ ap Err p.2 ∙ sym h

-- entries that were stored
type_stored : {G : Type 0} (i next : ℕ) (t u : Tables) (x : SimpleType) (l : List G) → i ≡ length t.types → u ≡ with_type t x → Ok (parsed i next, state u l) ≡ store_type x next (state t l)
type_stored {G} i next t u x l at e = λ k. Ok (parsed (at k) next, state (e k) l)

pub node_stored : {G : Type 0} (place i next : ℕ) (t u : Tables) (x : Term) (l : List G) → i ≡ length t.nodes → u ≡ with_node t (record { term = x; place = place }) → Ok (parsed i next, state u l) ≡ store_term place x next (state t l)
node_stored {G} place i next t u x l at e = λ k. Ok (parsed (at k) next, state (e k) l)

module _ {G : Type 0} (reading : List ℕ → Option (G × ℕ)) (text : List ℕ) where
  -- the readers of parts, one level further in
  pub inside_type : (d inner : ℕ) → inner + 1 ≡ d → type_inside reading text d ≡ simple_type reading text inner
  inside_type d inner e = let f : d ≡ suc inner = omega arith in ap (λ n. type_inside reading text n) f

  pub inside-term : (one : G) (d inner : ℕ) → inner + 1 ≡ d → term_inside reading text one d ≡ term reading text one inner
  inside-term one d inner e = let f : d ≡ suc inner = omega arith in ap (λ n. term_inside reading text one n) f

  -- a type whose first word is counted goes on with its parts
  pub type_begun : (d at : ℕ) (s : State G) {t : Lexed G} {h : TypeHead} {inner : ℕ} {p : Tables} →
      Ok t ≡ token_at reading text at → Ok h ≡ type_head t.token t.place → Ok (inner, p) ≡ counted d t.place s.program → inner + 1 ≡ d →
      simple_type reading text d at s ≡ type_rest reading text (simple_type reading text inner) h t.next (state p s.list)
  type_begun d at s {t} {h} {inner} {p} e1 e2 e3 fell =
      goes_on _ _ _ e1 ∙ goes_on _ _ _ e2 ∙ goes_on _ _ _ e3 ∙ ap (λ part. type_rest reading text part h t.next (state p s.list)) (inside_type d inner fell)

  pub arrow_parts : (part : ℕ → State G → Read G (Parsed ℕ)) (next : ℕ) (s : State G) {u : Lexed G} {g : G} {i : ℕ} {s1 : State G} →
      Ok u ≡ token_at reading text next → Ok g ≡ grade_of u.token u.place → Ok (i, s1) ≡ graded g u.place s →
      type_rest reading text part type-heads.To next s ≡ (part u.next s1 then λ (a, s). part a.next s then λ (b, s). store_type (To i a.value b.value) b.next s)
  arrow_parts part next s e4 e5 e6 = goes_on _ _ _ e4 ∙ goes_on _ _ _ e5 ∙ goes_on _ _ _ e6

  -- a function type whose grade is stored
  module _ (d at : ℕ) (s : State G) (p : Tables) (s1 : State G) {t : Lexed G} {h : TypeHead} {inner : ℕ} {u : Lexed G} {g : G} {grade : ℕ}
      (e1 : Ok t ≡ token_at reading text at) (e2 : Ok h ≡ type_head t.token t.place) (is : h ≡ type-heads.To) (e3 : Ok (inner, p) ≡ counted d t.place s.program) (fell : inner + 1 ≡ d)
      (e4 : Ok u ≡ token_at reading text t.next) (e5 : Ok g ≡ grade_of u.token u.place) (e6 : Ok (grade, s1) ≡ graded g u.place (state p s.list)) where
    arrow_begun : simple_type reading text d at s ≡ (simple_type reading text inner u.next s1 then λ (a, s). simple_type reading text inner a.next s then λ (b, s). store_type (To grade a.value b.value) b.next s)
    arrow_begun = type_begun d at s e1 (ap Ok (sym is) ∙ e2) e3 fell ∙ arrow_parts (simple_type reading text inner) t.next (state p s.list) e4 e5 e6

    pub from_failed : {v : List ℕ} {f : Fault} → v ≡ text → Err f ≡ simple_type reading v inner u.next s1 → simple_type reading text d at s ≡ Err f
    from_failed same e = arrow_begun ∙ ends _ _ _ (e ∙ ap (λ x. simple_type reading x inner u.next s1) same)

    pub to_failed : (s2 : State G) {v w : List ℕ} {a : Parsed ℕ} {f : Fault} → v ≡ text → w ≡ v → Ok (a, s2) ≡ simple_type reading v inner u.next s1 → Err f ≡ simple_type reading w inner a.next s2 → simple_type reading text d at s ≡ Err f
    to_failed s2 {v} {w} {a} same still from e =
        arrow_begun ∙ goes_on _ _ _ (from ∙ ap (λ x. simple_type reading x inner u.next s1) same) ∙ ends _ _ _ (e ∙ ap (λ x. simple_type reading x inner a.next s2) (still ∙ same))

    pub arrow_read : (s2 s3 : State G) (q : Tables) {v w : List ℕ} {a b : Parsed ℕ} {i : ℕ} →
        v ≡ text → w ≡ v → Ok (a, s2) ≡ simple_type reading v inner u.next s1 → Ok (b, s3) ≡ simple_type reading w inner a.next s2 → i ≡ length s3.program.types → q ≡ with_type s3.program (To grade a.value b.value) →
        Ok (parsed i b.next, state q s3.list) ≡ simple_type reading text d at s
    arrow_read s2 s3 q {v} {w} {a} {b} {i} same still from to there after =
        type_stored i b.next s3.program q _ s3.list there after
        ∙ sym (arrow_begun ∙ goes_on _ _ _ (from ∙ ap (λ x. simple_type reading x inner u.next s1) same) ∙ goes_on _ _ _ (to ∙ ap (λ x. simple_type reading x inner a.next s2) (still ∙ same)))

  -- a term whose first word is counted goes on with its parts, and is stored
  pub term_begun : (one : G) (d : ℕ) (scope : List (List ℕ)) (at : ℕ) (s : State G) {t : Lexed G} {h : TermHead} {inner : ℕ} {p : Tables} →
      Ok t ≡ token_at reading text at → Ok h ≡ term_head scope t.token t.place → Ok (inner, p) ≡ counted d t.place s.program → inner + 1 ≡ d →
      term reading text one d scope at s ≡ (term_parts reading text one (simple_type reading text inner) (term reading text one inner) scope h t.next (state p s.list) then λ (f, s). store_term t.place f.value f.next s)
  term_begun one d scope at s {t} {h} {inner} {p} e1 e2 e3 fell =
      goes_on _ _ _ e1 ∙ goes_on _ _ _ e2 ∙ goes_on _ _ _ e3
      ∙ ap (λ type. term_parts reading text one type (term_inside reading text one d) scope h t.next (state p s.list) then λ (f, s). store_term t.place f.value f.next s) (inside_type d inner fell)
      ∙ ap (λ part. term_parts reading text one (simple_type reading text inner) part scope h t.next (state p s.list) then λ (f, s). store_term t.place f.value f.next s) (inside-term one d inner fell)

  -- a function whose binder is stored goes on with its type and its body
  pub fn_begun : (one : G) (type : ℕ → State G → Read G (Parsed ℕ)) (part : List (List ℕ) → ℕ → State G → Read G (Parsed ℕ)) (scope : List (List ℕ)) (h : TermHead) (next : ℕ) (s : State G) {n : Bound} {p q : Tables} {l : List G} {i : ℕ} →
      h ≡ heads.Fn → Ok (n, state p l) ≡ binder reading text one next s → i ≡ length p.binders → q ≡ with_binder p n.entry →
      term_parts reading text one type part scope h next s ≡ (type n.next (state q l) then λ (a, t). part (n.name ∷ scope) a.next t then λ (b, u). Ok (parsed (Fn i a.value b.value) b.next, u))
  fn_begun one type part scope h next s {n} {p} {q} {l} {i} is e at after =
      ap (λ x. term_parts reading text one type part scope x next s) is
      ∙ goes_on _ _ _ e
      ∙ ap (λ r. type n.next (state r l) then λ (a, t). part (n.name ∷ scope) a.next t then λ (b, u). Ok (parsed (Fn (length p.binders) a.value b.value) b.next, u)) (sym after)
      ∙ ap (λ j. type n.next (state q l) then λ (a, t). part (n.name ∷ scope) a.next t then λ (b, u). Ok (parsed (Fn j a.value b.value) b.next, u)) (sym at)

  -- a term whose parts failed, and one that is stored
  module _ (one : G) (d : ℕ) (scope : List (List ℕ)) (at : ℕ) (s : State G) (p : Tables) {t : Lexed G} {h : TermHead} {inner : ℕ}
      (e1 : Ok t ≡ token_at reading text at) (e2 : Ok h ≡ term_head scope t.token t.place) (e3 : Ok (inner, p) ≡ counted d t.place s.program) (fell : inner + 1 ≡ d) where
    pub term_failed : {f : Fault} → Err f ≡ term_parts reading text one (simple_type reading text inner) (term reading text one inner) scope h t.next (state p s.list) → term reading text one d scope at s ≡ Err f
    term_failed e = term_begun one d scope at s e1 e2 e3 fell ∙ ends _ _ _ e

    pub term_read : (s1 : State G) (q : Tables) {x : Parsed Term} {i : ℕ} →
        Ok (x, s1) ≡ term_parts reading text one (simple_type reading text inner) (term reading text one inner) scope h t.next (state p s.list) → i ≡ length s1.program.nodes → q ≡ with_node s1.program (record { term = x.value; place = t.place }) →
        Ok (parsed i x.next, state q s1.list) ≡ term reading text one d scope at s
    term_read s1 q {x} {i} e there after =
        node_stored t.place i x.next s1.program q x.value s1.list there after ∙ sym (term_begun one d scope at s e1 e2 e3 fell ∙ goes_on _ _ _ e)

  -- a part that was read in the same text
  pub part_in : (one : G) (inner : ℕ) (scope : List (List ℕ)) (at : ℕ) (s : State G) {v : List ℕ} {r : Read G (Parsed ℕ)} → v ≡ text → r ≡ term reading v one inner scope at s → r ≡ term reading text one inner scope at s
  part_in one inner scope at s same e = e ∙ ap (λ x. term reading x one inner scope at s) same

  -- a function whose type or body failed, and one whose parts are read
  module _ (one : G) (inner : ℕ) (scope : List (List ℕ)) (h : TermHead) (next : ℕ) (s : State G) (p q : Tables) (l : List G) {n : Bound} {i : ℕ}
      (is : h ≡ heads.Fn) (e : Ok (n, state p l) ≡ binder reading text one next s) (at : i ≡ length p.binders) (after : q ≡ with_binder p n.entry) where
    abbrev all : Read G (Parsed Term)
    all = term_parts reading text one (simple_type reading text inner) (term reading text one inner) scope h next s

    abbrev rest : Read G (Parsed Term)
    rest = simple_type reading text inner n.next (state q l) then λ (a, t). term reading text one inner (n.name ∷ scope) a.next t then λ (b, u). Ok (parsed (Fn i a.value b.value) b.next, u)

    begun : all ≡ rest
    begun = fn_begun one (simple_type reading text inner) (term reading text one inner) scope h next s is e at after

    pub domain_failed : {v : List ℕ} {f : Fault} → v ≡ text → Err f ≡ simple_type reading v inner n.next (state q l) → all ≡ Err f
    domain_failed same wrong = begun ∙ ends _ _ _ (wrong ∙ ap (λ x. simple_type reading x inner n.next (state q l)) same)

    pub body_failed : (s1 : State G) {v w : List ℕ} {a : Parsed ℕ} {f : Fault} →
        v ≡ text → w ≡ v → Ok (a, s1) ≡ simple_type reading v inner n.next (state q l) → Err f ≡ term reading w one inner (n.name ∷ scope) a.next s1 → all ≡ Err f
    body_failed s1 {v} {w} {a} same still domain wrong =
        begun ∙ goes_on _ _ _ (domain ∙ ap (λ x. simple_type reading x inner n.next (state q l)) same) ∙ ends _ _ _ (wrong ∙ ap (λ x. term reading x one inner (n.name ∷ scope) a.next s1) (still ∙ same))

    pub fn_read : (s1 s2 : State G) {v w : List ℕ} {a b : Parsed ℕ} →
        v ≡ text → w ≡ v → Ok (a, s1) ≡ simple_type reading v inner n.next (state q l) → Ok (b, s2) ≡ term reading w one inner (n.name ∷ scope) a.next s1 → Ok (parsed (Fn i a.value b.value) b.next, s2) ≡ all
    fn_read s1 s2 {v} {w} {a} {b} same still domain body =
        sym (begun ∙ goes_on _ _ _ (domain ∙ ap (λ x. simple_type reading x inner n.next (state q l)) same) ∙ goes_on _ _ _ (body ∙ ap (λ x. term reading x one inner (n.name ∷ scope) a.next s1) (still ∙ same)))

  -- an input that is allowed, and the rest of the rule behind it
  pub input_begun : (one : G) (left : ℕ) (scope : List (List ℕ)) (at : ℕ) (s : State G) {t : Lexed G} {h : RuleHead} →
      Ok t ≡ token_at reading text at → Ok h ≡ rule_head t.token t.place → h ≡ rule-heads.Input → 0 < left →
      rule reading text one left scope at s ≡ (binder reading text one t.next s then λ (n, s). rule reading text one (left - 1) (n.name ∷ scope) n.next (changed (λ p. with_input p n.entry) s))
  input_begun one left scope at s {t} {h} e1 e2 is some =
      let down : left ≡ suc (left - 1) = omega arith in
      goes_on _ _ _ e1 ∙ goes_on _ _ _ e2
      ∙ ap (λ x. rule_rest reading text one (input reading text one left) x scope t.place t.next s) is
      ∙ ap (λ n. input reading text one n t.place scope t.next s) down

-- what is left where the grade list is long enough
module _ {G : Type 0} (reading : List ℕ → Option (G × ℕ)) (one nil : G) (text : List ℕ) (t : Tables) (l : List G) (long : 256 ≤ length l) where
  pub program_dropped : {f : Fault} {p : Tables} {m' : List G} {n : ℕ} → Err f ≡ text_read reading one text (take 256 l) → p ≡ no_tables → n ≡ 256 → m' ≡ replicate n nil → (Err f, p, m' ++ drop 256 l) ≡ program_read reading one nil text t l
  program_dropped {f} {p} {m'} {n} e empty full filled =
      ap (λ q. (Err f, q, m' ++ drop 256 l)) empty ∙ ap (λ x. (Err f, no_tables, x ++ drop 256 l)) (filled ∙ ap (λ k. replicate k nil) full) ∙ ap (left_by nil (drop 256 l)) e ∙ sym (cond-false _ _ _ (le-ltb (length l) 256 long))
