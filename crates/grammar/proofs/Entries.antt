-- Each type and term in the tables is what its entry says of the whole table, since its parts are older. Assumes nothing.
use Rattle.std.proofs.Common.{◌≡◌, ℕ, ◌+◌, ◌<◌, true, ◌&&◌, ltb, List, [], ◌∷◌, ◌++◌, length, get_or, take, drop, sym, refl, ap, ◌∙◌, arith}
use Rattle.std.proofs.lemmas.List.{length-take-le, take-append-drop, take_more}
use Rattle.std.proofs.lemmas.Bool.{and_parts, ltb-true}
use Rattle.language.specs.declared.program.Binder.{Binder}
use Rattle.language.specs.declared.program.SimpleType.{SimpleType}
use Rattle.language.specs.declared.program.SimpleType.TheVariants.{Num, To}
use Rattle.language.specs.declared.program.Term.{Term}
use Rattle.language.specs.declared.program.Term.TheVariants.{Name, Number, Fn, Call, Add, Sub, Half, Less}
use Rattle.language.specs.declared.program.Node.{Node}
use Rattle.language.specs.declared.heads.Binary.TheVariants as binaries
use Rattle.language.specs.Tables.{no_binder, no_node, type_sound, term_sound, TypesSound, NodesSound}
use Rattle.grammar.specs.Syntax.{Ty, num, to, Tm, fn, binary, half, less}
use Rattle.grammar.specs.Recovering.{grow, label_of, no_term, type_entry, types_in, form, terms_in}
use Rattle.grammar.proofs.Recovery.{grow-entry, grow_older}

-- two tables have the same entries below a place
abbrev pub SameBelow : {Y : Type 0} → Y → ℕ → List Y → List Y → Type 0
SameBelow d i ys zs = (j : ℕ) → j < i → get_or ys j d ≡ get_or zs j d

module _ {X Y : Type 0} (step : List Y → X → Y) where
  -- an entry, of the part of the table that is older
  grow_at : (xs : List X) (i : ℕ) (x : X) (d : Y) → i < length xs → get_or (grow step [] xs) i d ≡ step (grow step [] (take i xs)) (get_or xs i x)
  grow_at xs i x d h =
      let y = get_or xs i x in
      let rest = drop (i + 1) xs in
      let split : xs ≡ (take i xs ++ (y ∷ [])) ++ rest = sym (ap (λ l. l ++ rest) (sym (take_more xs i x h)) ∙ take-append-drop (i + 1) xs) in
      let at : length (take i xs) ≡ i = length-take-le i xs (omega arith) in
      ap (λ l. get_or (grow step [] l) i d) split
      ∙ ap (λ k. get_or (grow step [] ((take i xs ++ (y ∷ [])) ++ rest)) k d) (sym at)
      ∙ grow-entry step (take i xs) y rest d

  older_part : (xs : List X) (i : ℕ) (d : Y) → i < length xs → SameBelow d i (grow step [] (take i xs)) (grow step [] xs)
  older_part xs i d h j k =
      let at : length (take i xs) ≡ i = length-take-le i xs (omega arith) in
      sym (ap (λ l. get_or (grow step [] l) j d) (sym (take-append-drop i xs)) ∙ grow_older step (take i xs) (drop i xs) j d (omega arith))

  -- an entry that reads only older ones, of the whole table
  pub grow_whole : (xs : List X) (i : ℕ) (x : X) (d : Y) → ((ys zs : List Y) → SameBelow d i ys zs → step ys (get_or xs i x) ≡ step zs (get_or xs i x)) → i < length xs → get_or (grow step [] xs) i d ≡ step (grow step [] xs) (get_or xs i x)
  grow_whole xs i x d same h = grow_at xs i x d h ∙ same (grow step [] (take i xs)) (grow step [] xs) (older_part xs i d h)

-- both parts of a term or a type are older
two_older : (a b i : ℕ) → (ltb a i && ltb b i) ≡ true → (a < i) × (b < i)
two_older a b i s = let p = and_parts (ltb a i) (ltb b i) s in (ltb-true a i p.0, ltb-true b i p.1)

module _ {G : Type 0} (beyond : G) (text : List ℕ) (list : List G) where
  type_same : (g i : ℕ) (t : SimpleType) (ts us : List (Ty G)) → type_sound g i t ≡ true → SameBelow num i ts us → type_entry beyond text list ts t ≡ type_entry beyond text list us t
  type_same g i Num ts us s e = refl
  type_same g i (To h a b) ts us s e = let o = two_older a b i (and_parts (ltb h g) (ltb a i && ltb b i) s).1 in λ k. to (get_or list h beyond) (e a o.0 k) (e b o.1 k)

  pub type_entry_at : (g : ℕ) (types : List SimpleType) (i : ℕ) → TypesSound g types → i < length types → get_or (types_in beyond text list types) i num ≡ type_entry beyond text list (types_in beyond text list types) (get_or types i Num)
  type_entry_at g types i s h = grow_whole (type_entry beyond text list) types i Num num (λ ts us. type_same g i (get_or types i Num) ts us (s i h)) h

  pub types_older : (types more : List SimpleType) (i : ℕ) → i < length types → get_or (types_in beyond text list (types ++ more)) i num ≡ get_or (types_in beyond text list types) i num
  types_older types more i h = grow_older (type_entry beyond text list) types more i num h

  module _ (binders : List Binder) where
    form_same : (b t i p : ℕ) (u : Term) (ts : List (Ty G)) (us vs : List (Tm G)) → term_sound b t i u ≡ true → SameBelow no_term i us vs → form beyond text list binders ts us p u ≡ form beyond text list binders ts vs p u
    form_same b t i p (Name k) ts us vs s e = refl
    form_same b t i p (Number z) ts us vs s e = refl
    form_same b t i p (Fn n a c) ts us vs s e =
        let o = and_parts (ltb a t) (ltb c i) (and_parts (ltb n b) (ltb a t && ltb c i) s).1 in
        let m = get_or binders n no_binder in
        ap (fn p (label_of text m) (get_or list m.grade beyond) (get_or ts a num)) (e c (ltb-true c i o.1))
    form_same b t i p (Call a c) ts us vs s e = let o = two_older a c i s in λ k. binary p binaries.Call (e a o.0 k) (e c o.1 k)
    form_same b t i p (Add a c) ts us vs s e = let o = two_older a c i s in λ k. binary p binaries.Add (e a o.0 k) (e c o.1 k)
    form_same b t i p (Sub a c) ts us vs s e = let o = two_older a c i s in λ k. binary p binaries.Sub (e a o.0 k) (e c o.1 k)
    form_same b t i p (Half a) ts us vs s e = ap (half p) (e a (ltb-true a i s))
    form_same b t i p (Less a c d f) ts us vs s e =
        let q = and_parts (ltb a i && ltb c i) (ltb d i && ltb f i) s in
        let o = two_older a c i q.0 in
        let r = two_older d f i q.1 in
        λ k. less p (e a o.0 k) (e c o.1 k) (e d r.0 k) (e f r.1 k)

    pub term-entry : (types : List SimpleType) (b t : ℕ) (nodes : List Node) (i : ℕ) → NodesSound b t nodes → i < length nodes → let terms = terms_in beyond text list binders types nodes in get_or terms i no_term ≡ form beyond text list binders (types_in beyond text list types) terms (get_or nodes i no_node).place (get_or nodes i no_node).term
    term-entry types b t nodes i s h =
        let ts = types_in beyond text list types in
        let n = get_or nodes i no_node in
        grow_whole (λ us m. form beyond text list binders ts us m.place m.term) nodes i no_node no_term (λ us vs. form_same b t i n.place n.term ts us vs (s i h)) h
