-- What is stored can be recovered. Assumes nothing.
use Rattle.std.proofs.Common.{◌≡◌, ℕ, ◌+◌, ◌<◌, ◌≤◌, List, [], ◌∷◌, ◌++◌, length, get_or, sym, refl, ap, ◌∙◌, append_assoc, add-zero, arith}
use Rattle.std.proofs.lemmas.List.{length_push, length-append, get_or_append_left, get_or_at}
use Rattle.language.specs.declared.program.Binder.{Binder}
use Rattle.language.specs.declared.program.SimpleType.{SimpleType}
use Rattle.language.specs.declared.program.SimpleType.TheVariants.{Num, To}
use Rattle.language.specs.declared.program.Term.{Term}
use Rattle.language.specs.declared.program.Node.{Node}
use Rattle.language.specs.declared.heads.Binary.{Binary}
use Rattle.language.specs.declared.heads.Binary.TheVariants as binaries
use Rattle.language.specs.Tables.{no_binder}
use Rattle.language.specs.Reading.{State, changed, with_word, with_binder}
use Rattle.language.specs.Reading as forms
use Rattle.grammar.specs.Syntax.{Label, Ty, num, to, Tm, name, literal, fn, binary, half, less, Rule, input, run}
use Rattle.grammar.specs.Storing.{keep_grade, keep_type, keep_node, entry, place_of, typed, parted, termed}
use Rattle.grammar.specs.Recovering.{grow, label_of, no_term, type_entry, types_in, form, terms_in}
use Rattle.grammar.proofs.Extends.{Extends, further, by_type, by_node, by_binder, by_typed, by_termed, grade_kept, typed_there, termed_there}

-- a table that is grown entry by entry
module _ {X Y : Type 0} (step : List Y → X → Y) where
  pub grow-append : (ys : List Y) (xs zs : List X) → grow step ys (xs ++ zs) ≡ grow step (grow step ys xs) zs
  grow-append ys [] zs = refl
  grow-append ys (x ∷ xs) zs = grow-append (ys ++ (step ys x ∷ [])) xs zs

  -- what stands at the front stays
  pub grow-front : (ys : List Y) (zs : List X) (i : ℕ) (d : Y) → i < length ys → get_or (grow step ys zs) i d ≡ get_or ys i d
  grow-front ys [] i d h = refl
  grow-front ys (z ∷ zs) i d h =
      let more = length_push ys (step ys z) in
      grow-front (ys ++ (step ys z ∷ [])) zs i d (omega arith) ∙ get_or_append_left ys (step ys z ∷ []) d i h

  pub length-grow : (ys : List Y) (xs : List X) → length (grow step ys xs) ≡ length ys + length xs
  length-grow ys [] = sym (add-zero (length ys))
  length-grow ys (x ∷ xs) = let more = length_push ys (step ys x) in let e = length-grow (ys ++ (step ys x ∷ [])) xs in omega arith

  -- the entry behind xs
  pub grow-entry : (xs : List X) (x : X) (zs : List X) (d : Y) → get_or (grow step [] ((xs ++ (x ∷ [])) ++ zs)) (length xs) d ≡ step (grow step [] xs) x
  grow-entry xs x zs d =
      let ys = grow step [] xs in
      let long : length ys ≡ length xs = let e = length-grow [] xs in omega arith in
      ap (λ l. get_or (grow step [] l) (length xs) d) (append_assoc xs (x ∷ []) zs)
      ∙ ap (λ l. get_or l (length xs) d) (grow-append [] xs (x ∷ zs))
      ∙ grow-front (ys ++ (step ys x ∷ [])) zs (length xs) d (omega (arith, length_push ys (step ys x)))
      ∙ get_or_at ys (step ys x) [] d (length xs) long

  -- an older entry, from a table that was longer
  pub grow_older : (xs zs : List X) (i : ℕ) (d : Y) → i < length xs → get_or (grow step [] (xs ++ zs)) i d ≡ get_or (grow step [] xs) i d
  grow_older xs zs i d h =
      let long = length-grow [] xs in
      ap (λ l. get_or l i d) (grow-append [] xs zs) ∙ grow-front (grow step [] xs) zs i d (omega arith)

-- the name stands in the text where the label says
abbrev pub SpelledAt : List ℕ → Label → Type 0
SpelledAt text n = label_of text (entry n 0) ≡ n

-- so do all the names of a term, and of a rule
abbrev pub Spelled : {G : Type 0} → List ℕ → Tm G → Type 0
Spelled text (name p k) = Unit {0}
Spelled text (literal p z) = Unit {0}
Spelled text (fn p n g a b) = SpelledAt text n × Spelled text b
Spelled text (binary p form a b) = Spelled text a × Spelled text b
Spelled text (half p a) = Spelled text a
Spelled text (less p a b c d) = Spelled text a × Spelled text b × Spelled text c × Spelled text d

abbrev pub AllSpelled : {G : Type 0} → List ℕ → Rule G → Type 0
AllSpelled text (input n g r) = SpelledAt text n × AllSpelled text r
AllSpelled text (run u) = Spelled text u

module _ {G : Type 0} (beyond : G) (text : List ℕ) (t : State G) (full : t.program.grades ≤ length t.list) where
  -- the types and terms in the final tables
  abbrev types : List (Ty G)
  types = types_in beyond text t.list t.program.types

  abbrev step : List (Tm G) → Node → Tm G
  step us n = form beyond text t.list t.program.binders types us n.place n.term

  abbrev terms : List (Tm G)
  terms = terms_in beyond text t.list t.program.binders t.program.types t.program.nodes

  -- the entry that was stored last, and an older one, as the final tables have them
  type_entry_is : (x : SimpleType) (s : State G) → Extends (keep_type x s).1 t → get_or types (length s.program.types) num ≡ type_entry beyond text t.list (grow (type_entry beyond text t.list) [] s.program.types) x
  type_entry_is x s e = ap (λ l. get_or (grow (type_entry beyond text t.list) [] l) (length s.program.types) num) e.types ∙ grow-entry (type_entry beyond text t.list) s.program.types x e.more_types num

  older_type : (s : State G) (i : ℕ) → Extends s t → i < length s.program.types → get_or (grow (type_entry beyond text t.list) [] s.program.types) i num ≡ get_or types i num
  older_type s i e h = sym (ap (λ l. get_or (grow (type_entry beyond text t.list) [] l) i num) e.types ∙ grow_older (type_entry beyond text t.list) s.program.types e.more_types i num h)

  within_types : (s r : State G) (i : ℕ) → Extends s r → i < length s.program.types → i < length r.program.types
  within_types s r i e h = omega (arith, ap length e.types, length-append s.program.types e.more_types)

  within_nodes : (s r : State G) (i : ℕ) → Extends s r → i < length s.program.nodes → i < length r.program.nodes
  within_nodes s r i e h = omega (arith, ap length e.nodes, length-append s.program.nodes e.more_nodes)

  pub type_held : (a : Ty G) (s : State G) → Extends (typed a s).1 t → get_or types (typed a s).0 num ≡ a
  type_held num s e = type_entry_is Num (changed with_word s) e
  type_held (to g a b) s e =
      let i = keep_grade g (changed with_word s) in
      let x = typed a i.1 in
      let y = typed b x.1 in
      let after = further (by_type (To i.0 x.0 y.0) y.1) e in
      let after-b = after in
      let after-a = further (by_typed b x.1) after in
      let first = type_held a i.1 after-a in
      let second = type_held b x.1 after-b in
      let grade = grade_kept g beyond (changed with_word s) t (further (by_typed a i.1) after-a) full in
      let left = older_type y.1 x.0 after (within_types x.1 y.1 x.0 (by_typed b x.1) (typed_there a i.1)) ∙ first in
      let right = older_type y.1 y.0 after (typed_there b x.1) ∙ second in
      type_entry_is (To i.0 x.0 y.0) y.1 e ∙ (λ k. to (grade k) (left k) (right k))

  node_is : (p : ℕ) (x : Term × State G) → Extends (keep_node p x).1 t → get_or terms (length x.1.program.nodes) no_term ≡ form beyond text t.list t.program.binders types (grow step [] x.1.program.nodes) p x.0
  node_is p x e = ap (λ l. get_or (grow step [] l) (length x.1.program.nodes) no_term) e.nodes ∙ grow-entry step x.1.program.nodes (record { term = x.0; place = p }) e.more_nodes no_term

  older_node : (s : State G) (i : ℕ) → Extends s t → i < length s.program.nodes → get_or (grow step [] s.program.nodes) i no_term ≡ get_or terms i no_term
  older_node s i e h = sym (ap (λ l. get_or (grow step [] l) i no_term) e.nodes ∙ grow_older step s.program.nodes e.more_nodes i no_term h)

  binary-form : (p : ℕ) (f : Binary) (us : List (Tm G)) (a b : ℕ) → form beyond text t.list t.program.binders types us p (forms.binary f a b) ≡ binary p f (get_or us a no_term) (get_or us b no_term)
  binary-form p binaries.Call us a b = refl
  binary-form p binaries.Add us a b = refl
  binary-form p binaries.Sub us a b = refl

  -- a stored term, once its node is known to say it
  term_from : (u : Tm G) (s : State G) → Extends (termed u s).1 t → form beyond text t.list t.program.binders types (grow step [] (parted u (changed with_word s)).1.program.nodes) (place_of u) (parted u (changed with_word s)).0 ≡ u → get_or terms (termed u s).0 no_term ≡ u
  term_from u s e h = node_is (place_of u) (parted u (changed with_word s)) e ∙ h

  before : (u : Tm G) (s : State G) → Extends (termed u s).1 t → Extends (parted u (changed with_word s)).1 t
  before u s e = further (by_node (place_of u) (parted u (changed with_word s))) e

  binder_there : (b : Binder) (s : State G) → Extends (changed (λ p. with_binder p b) s) t → get_or t.program.binders (length s.program.binders) no_binder ≡ b
  binder_there b s e =
      ap (λ l. get_or l (length s.program.binders) no_binder) (e.binders ∙ append_assoc s.program.binders (b ∷ []) e.more_binders)
      ∙ get_or_at s.program.binders b e.more_binders no_binder (length s.program.binders) refl

  -- a term whose parts are stored is what its node says
  pub parts_held : (u : Tm G) (s : State G) → Spelled text u → Extends (parted u s).1 t → form beyond text t.list t.program.binders types (grow step [] (parted u s).1.program.nodes) (place_of u) (parted u s).0 ≡ u
  parts_held (name p k) s sp e = refl
  parts_held (literal p z) s sp e = refl
  parts_held (fn p n g a b) s sp e =
      let i = keep_grade g s in
      let r = changed (λ q. with_binder q (entry n i.0)) i.1 in
      let x = typed a r in
      let y = termed b x.1 in
      let us = grow step [] y.1.program.nodes in
      let after-x = further (by_termed b x.1) e in
      let after-r = further (by_typed a r) after-x in
      let binder = binder_there (entry n i.0) i.1 after-r in
      let grade = grade_kept g beyond s t (further (by_binder (entry n i.0) i.1) after-r) full in
      let type = type_held a r after-x in
      let body = older_node y.1 y.0 e (termed_there b x.1) ∙ term_from b x.1 e (parts_held b (changed with_word x.1) sp.1 (before b x.1 e)) in
      ap (λ m. fn p (label_of text m) (get_or t.list m.grade beyond) (get_or types x.0 num) (get_or us y.0 no_term)) binder
      ∙ (λ k. fn p (sp.0 k) (grade k) (type k) (body k))
  parts_held (binary p f a b) s sp e =
      let x = termed a s in
      let y = termed b x.1 in
      let after-a = further (by_termed b x.1) e in
      let left = older_node y.1 x.0 e (within_nodes x.1 y.1 x.0 (by_termed b x.1) (termed_there a s)) ∙ term_from a s after-a (parts_held a (changed with_word s) sp.0 (before a s after-a)) in
      let right = older_node y.1 y.0 e (termed_there b x.1) ∙ term_from b x.1 e (parts_held b (changed with_word x.1) sp.1 (before b x.1 e)) in
      binary-form p f (grow step [] y.1.program.nodes) x.0 y.0 ∙ (λ k. binary p f (left k) (right k))
  parts_held (half p a) s sp e =
      let x = termed a s in
      ap (half p) (older_node x.1 x.0 e (termed_there a s) ∙ term_from a s e (parts_held a (changed with_word s) sp (before a s e)))
  parts_held (less p a b c d) s sp e =
      let x = termed a s in
      let y = termed b x.1 in
      let z = termed c y.1 in
      let w = termed d z.1 in
      let after-c = further (by_termed d z.1) e in
      let after-b = further (by_termed c y.1) after-c in
      let after-a = further (by_termed b x.1) after-b in
      let first = older_node w.1 x.0 e (within_nodes x.1 w.1 x.0 (further (by_termed b x.1) (further (by_termed c y.1) (by_termed d z.1))) (termed_there a s)) ∙ term_from a s after-a (parts_held a (changed with_word s) sp.0 (before a s after-a)) in
      let second = older_node w.1 y.0 e (within_nodes y.1 w.1 y.0 (further (by_termed c y.1) (by_termed d z.1)) (termed_there b x.1)) ∙ term_from b x.1 after-b (parts_held b (changed with_word x.1) sp.1 (before b x.1 after-b)) in
      let third = older_node w.1 z.0 e (within_nodes z.1 w.1 z.0 (by_termed d z.1) (termed_there c y.1)) ∙ term_from c y.1 after-c (parts_held c (changed with_word y.1) sp.2 (before c y.1 after-c)) in
      let fourth = older_node w.1 w.0 e (termed_there d z.1) ∙ term_from d z.1 e (parts_held d (changed with_word z.1) sp.3 (before d z.1 e)) in
      λ k. less p (first k) (second k) (third k) (fourth k)
