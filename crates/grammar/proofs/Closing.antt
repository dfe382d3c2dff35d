-- The terms of a rule that was read are closed, and their functions are few. Assumes nothing.
use Rattle.std.proofs.Common.{◌≡◌, ℕ, suc, ◌+◌, ◌-◌, ◌<◌, ◌≤◌, max, Bool, true, false, cond, ltb, List, [], ◌∷◌, ◌++◌, map, length, get_or, take, drop, IfOk, Some, None, Ok, Err, Option, Result, sym, refl, ap, ◌∙◌, subst, zero-add, arith}
use lib.ListN.{get_or-map}
use Rattle.std.proofs.lemmas.List.{length_push, length-take-le, map_push}
use Rattle.std.proofs.lemmas.Bool.{cond_both, ltb-false}
use Rattle.std.specs.Option.{option_map}
use Rattle.tokens.specs.declared.refusal.Fault.{Fault}
use Rattle.tokens.specs.declared.refusal.Refusal.TheVariants.{ShortList}
use Rattle.tokens.specs.Tokens.{Lexeme, Lexed, fault}
use Rattle.language.specs.declared.program.Binder.{Binder}
use Rattle.language.specs.declared.program.SimpleType.{SimpleType}
use Rattle.language.specs.declared.program.Term.{Term}
use Rattle.language.specs.declared.program.Term.TheVariants.{Name, Number, Fn, Call, Add, Sub, Half, Less}
use Rattle.language.specs.declared.program.Node.{Node}
use Rattle.language.specs.declared.heads.TermHead.{TermHead}
use Rattle.language.specs.declared.heads.TermHead.TheVariants as heads
use Rattle.language.specs.Scopes.{find}
use Rattle.language.specs.Tables.{no_node, NodesSound}
use Rattle.language.specs.Reading.{Tables, State, state, no_tables, Read, changed, with_word, with_input, tables_of, text_read, left_by, program_read}
use Rattle.grammar.specs.declared.closed.ClosedProgram.{ClosedProgram}
use Rattle.grammar.specs.Syntax.{Ty, Tm, name, literal, fn, binary, half, less, Rule, input, run, rule_inputs, run_of, term_words, term_depth}
use Rattle.grammar.specs.Grammar.{Begins, by_name, by_number, by_fn, by_call, by_add, by_sub, by_half, by_less, TermIn, begun, PartsIn, name_parts, literal_parts, fn_parts, binary_parts, half_parts, less_parts, RuleIn, input-rule, run_rule}
use Rattle.grammar.specs.Storing.{keep_grade, entry, place_of, parted, ruled}
use Rattle.grammar.specs.Recovering.{grow, no_term, types_in, form, terms_in, last_of, inputs_in, rule_in}
use Rattle.grammar.specs.Closing.{needed, nesting, functions, size_of, no_size, inside, both, size_entry, sizes_in, run_size}
use Rattle.grammar.proofs.Recovery.{length-grow}
use Rattle.grammar.proofs.Recovered.{parted_inputs}
use Rattle.grammar.proofs.Entries.{term-entry}
use Rattle.grammar.proofs.Theorem.{exact}

-- the same function of every entry of a table is a table, if the steps agree
grow-map : {X Y Z : Type 0} (f : Y → Z) (step : List Y → X → Y) (step' : List Z → X → Z) → ((ys : List Y) (x : X) → f (step ys x) ≡ step' (map f ys) x) → (ys : List Y) (xs : List X) → map f (grow step ys xs) ≡ grow step' (map f ys) xs
grow-map f step step' agree ys [] = refl
grow-map f step step' agree ys (x ∷ xs) =
    grow-map f step step' agree (ys ++ (step ys x ∷ [])) xs
    ∙ ap (λ l. grow step' l xs) (map_push f ys (step ys x) ∙ ap (λ z. map f ys ++ (z ∷ [])) (agree ys x))

last_at : {G : Type 0} (beyond : G) (text : List ℕ) (list : List G) (us : List (Tm G)) → last_of beyond text list us ≡ get_or us (length us - 1) no_term
last_at beyond text list [] = refl
last_at beyond text list (u ∷ []) = refl
last_at beyond text list (u ∷ v ∷ us) =
    let e : suc (suc (length us) - 1) ≡ suc (suc (length us)) - 1 = omega arith in
    last_at beyond text list (v ∷ us) ∙ ap (λ n. get_or (u ∷ v ∷ us) n no_term) e

module _ {G : Type 0} (beyond : G) (text : List ℕ) (list : List G) where
  module _ (binders : List Binder) where
    size-form : (ts : List (Ty G)) (us : List (Tm G)) (p : ℕ) (t : Term) → size_of (form beyond text list binders ts us p t) ≡ size_entry (map size_of us) t
    size-form ts us p (Name k) = refl
    size-form ts us p (Number z) = refl
    size-form ts us p (Fn b a t) = ap inside (sym (get_or-map size_of us t no_term))
    size-form ts us p (Call a b) = let at = λ (i : ℕ). sym (get_or-map size_of us i no_term) in λ k. both (at a k) (at b k)
    size-form ts us p (Add a b) = let at = λ (i : ℕ). sym (get_or-map size_of us i no_term) in λ k. both (at a k) (at b k)
    size-form ts us p (Sub a b) = let at = λ (i : ℕ). sym (get_or-map size_of us i no_term) in λ k. both (at a k) (at b k)
    size-form ts us p (Half a) = sym (get_or-map size_of us a no_term)
    size-form ts us p (Less a b c d) = let at = λ (i : ℕ). sym (get_or-map size_of us i no_term) in λ k. both (both (at a k) (at b k)) (both (at c k) (at d k))

    module _ (types : List SimpleType) (nodes : List Node) where
      sizes_held : map size_of (terms_in beyond text list binders types nodes) ≡ sizes_in nodes
      sizes_held =
          let ts = types_in beyond text list types in
          grow-map size_of (λ us n. form beyond text list binders ts us n.place n.term) (λ ss n. size_entry ss n.term) (λ us n. size-form ts us n.place n.term) [] nodes

      -- the size of each term stands in the table of sizes
      pub size_held : (i : ℕ) → size_of (get_or (terms_in beyond text list binders types nodes) i no_term) ≡ get_or (sizes_in nodes) i no_size
      size_held i = sym (get_or-map size_of (terms_in beyond text list binders types nodes) i no_term) ∙ ap (λ l. get_or l i no_size) sizes_held

  run_in : (bs : List Binder) (r : Rule G) → run_of (inputs_in beyond text list bs r) ≡ run_of r
  run_in [] r = refl
  run_in (b ∷ bs) r = run_in bs r

  module _ (t : Tables) where
    abbrev terms : List (Tm G)
    terms = terms_in beyond text list t.binders t.types t.nodes

    -- the run term is the last
    pub last_held : run_of (rule_in beyond text list t) ≡ get_or (terms_in beyond text list t.binders t.types t.nodes) (length t.nodes - 1) no_term
    last_held =
        let long : length terms ≡ length t.nodes = length-grow (λ us n. form beyond text list t.binders (types_in beyond text list t.types) us n.place n.term) [] t.nodes ∙ zero-add (length t.nodes) in
        run_in (take t.inputs t.binders) (run (last_of beyond text list terms)) ∙ last_at beyond text list terms ∙ ap (λ n. get_or terms (n - 1) no_term) long

    pub run_size_held : size_of (run_of (rule_in beyond text list t)) ≡ run_size t.nodes
    run_size_held = ap size_of last_held ∙ size_held t.binders t.types t.nodes (length t.nodes - 1)

-- a size by the sizes of its parts, from the whole table
pub size_entry_at : (b t : ℕ) (nodes : List Node) (i : ℕ) → NodesSound b t nodes → i < length nodes → get_or (sizes_in nodes) i no_size ≡ size_entry (sizes_in nodes) (get_or nodes i no_node).term
size_entry_at b t nodes i s h =
    let n = get_or nodes i no_node in
    let us = terms_in {G = ℕ} 0 [] [] [] [] nodes in
    sym (size_held {G = ℕ} 0 [] [] [] [] nodes i)
    ∙ ap size_of (term-entry {G = ℕ} 0 [] [] [] [] b t nodes i s h)
    ∙ size-form {G = ℕ} 0 [] [] [] [] us n.place n.term
    ∙ ap (λ ss. size_entry ss n.term) (sizes_held {G = ℕ} 0 [] [] [] [] nodes)

-- a name that was found is one of the scope
found_below : (b : Bool) (o : Option ℕ) (k n : ℕ) → ((j : ℕ) → o ≡ Some j → j < n) → cond b (Some 0) (option_map suc o) ≡ Some k → k < suc n
found_below true o k n h e = let z : 0 ≡ k = cc in omega arith
found_below false None k n h e = let z : ◌≡◌ {A = ℕ} 0 1 = cc in omega arith
found_below false (Some j) k n h e = let z : suc j ≡ k = cc in omega (arith, h j refl)

find_below : (w : List ℕ) (scope : List (List ℕ)) (k : ℕ) → find w scope ≡ Some k → k < length scope
find_below w [] k e = let z : ◌≡◌ {A = ℕ} 0 1 = cc in omega arith
find_below w (n ∷ ns) k e = found_below _ (find w ns) k (length ns) (find_below w ns) e

abbrev HeadBelow : ℕ → TermHead → Type 0
HeadBelow n (heads.Name k) = k < n
HeadBelow n (heads.Number z) = Unit {0}
HeadBelow n heads.Fn = Unit {0}
HeadBelow n (heads.Binary form) = Unit {0}
HeadBelow n heads.Half = Unit {0}
HeadBelow n heads.Less = Unit {0}

begins_below : {G : Type 0} {scope : List (List ℕ)} {x : Lexeme G} {h : TermHead} → Begins scope x h → HeadBelow (length scope) h
begins_below {scope = scope} (by_name {w = w} {k = k} key e) = find_below w scope k e
begins_below by_number = tt
begins_below (by_fn key) = tt
begins_below (by_call key) = tt
begins_below (by_add key) = tt
begins_below (by_sub key) = tt
begins_below (by_half key) = tt
begins_below (by_less key) = tt

two_below : (a b n : ℕ) → a ≤ n → b ≤ n → max a b ≤ n
two_below a b n h k = omega arith

one_less : (a n : ℕ) → a ≤ suc n → a - 1 ≤ n
one_less a n h = omega arith

module _ {G : Type 0} where
  mutual
    term_needs : {one : G} {scope : List (List ℕ)} {ts us : List (Lexed G)} {u : Tm G} → TermIn one scope ts u us → needed u ≤ length scope
    term_needs (begun b p) = parts_need p (begins_below b)

    parts_need : {one : G} {scope : List (List ℕ)} {p : ℕ} {h : TermHead} {ts us : List (Lexed G)} {u : Tm G} → PartsIn one scope p h ts u us → HeadBelow (length scope) h → needed u ≤ length scope
    parts_need name_parts b = b
    parts_need literal_parts b = omega arith
    parts_need (fn_parts x y z) b = one_less _ _ (term_needs z)
    parts_need (binary_parts x y) b = two_below _ _ _ (term_needs x) (term_needs y)
    parts_need (half_parts x) b = term_needs x
    parts_need (less_parts x y z w) b = two_below _ _ _ (two_below _ _ _ (term_needs x) (term_needs y)) (two_below _ _ _ (term_needs z) (term_needs w))

  rule_needs : {one : G} {scope : List (List ℕ)} {ts : List (Lexed G)} {r : Rule G} → RuleIn one scope ts r → needed (run_of r) ≤ length scope + rule_inputs r
  rule_needs {scope = scope} (input-rule {r = r} is key x y) = let h = rule_needs y in omega (arith, h)
  rule_needs {scope = scope} (run_rule {u = u} is key x) = let h = term_needs x in omega (arith, h)

  nesting_few : (u : Tm G) → nesting u ≤ term_depth u
  nesting_few (name p k) = omega arith
  nesting_few (literal p z) = omega arith
  nesting_few (fn p n g a b) = omega (arith, nesting_few b)
  nesting_few (binary p f a b) = omega (arith, nesting_few a, nesting_few b)
  nesting_few (half p a) = omega (arith, nesting_few a)
  nesting_few (less p a b c d) = omega (arith, nesting_few a, nesting_few b, nesting_few c, nesting_few d)

  functions_few : (u : Tm G) → functions u ≤ term_words u
  functions_few (name p k) = omega arith
  functions_few (literal p z) = omega arith
  functions_few (fn p n g a b) = omega (arith, functions_few b)
  functions_few (binary p f a b) = omega (arith, functions_few a, functions_few b)
  functions_few (half p a) = omega (arith, functions_few a)
  functions_few (less p a b c d) = omega (arith, functions_few a, functions_few b, functions_few c, functions_few d)

  ruled_inputs : (r : Rule G) (s : State G) → (ruled r s).program.inputs ≡ s.program.inputs + rule_inputs r
  ruled_inputs (input n g r) s =
      let i = keep_grade g s in
      let e = ruled_inputs r (changed (λ q. with_input q (entry n i.0)) i.1) in
      omega arith
  ruled_inputs (run u) s = let e = parted_inputs u (changed with_word s) in omega arith

  ruled_nodes : (r : Rule G) (s : State G) → 0 < length (ruled r s).program.nodes
  ruled_nodes (input n g r) s = let i = keep_grade g s in ruled_nodes r (changed (λ q. with_input q (entry n i.0)) i.1)
  ruled_nodes (run u) s =
      let x = parted u (changed with_word s) in
      omega (arith, length_push x.1.program.nodes (record { term = x.0; place = place_of u }))

-- the run term has no name that is not open, and its functions are few
pub record Closed (t : Tables) : Type 0 where
  pub closed : (run_size t.nodes).binders ≤ t.inputs
  pub levels : (run_size t.nodes).levels ≤ 24
  pub functions : (run_size t.nodes).functions ≤ 512

pub closed_of : (c : ClosedProgram) → Closed (tables_of c.program)
closed_of c = record { closed = c.closed; levels = c.levels; functions = c.functions }

module _ {G : Type 0} (reading : List ℕ → Option (G × ℕ)) (one : G) where
  pub read_closed : (text : List ℕ) (list : List G) (s : State G) → text_read reading one text list ≡ Ok (tt, s) → 256 ≤ length list → Closed s.program × (0 < length s.program.nodes)
  read_closed text list s e long =
      let ex = exact reading one in
      let a = (ex.accepts text list s).0 e in
      let r = a.rule in
      let same : size_of (run_of r) ≡ run_size s.program.nodes = ap (λ q. size_of (run_of q)) (sym (ex.recovers one text list s long a)) ∙ run_size_held one text s.list s.program in
      let inputs : s.program.inputs ≡ 0 + rule_inputs r = ap (λ z. z.program.inputs) a.stored ∙ ruled_inputs r (state no_tables list) in
      let need : needed (run_of r) ≤ 0 + rule_inputs r = rule_needs a.sentence.parses in (
        record {
          closed = subst (λ z. z.binders ≤ s.program.inputs) same (omega (arith, need, inputs));
          levels = subst (λ z. z.levels ≤ 24) same (omega (arith, nesting_few (run_of r), a.within.few_levels));
          functions = subst (λ z. z.functions ≤ 512) same (omega (arith, functions_few (run_of r), a.within.few_words));
        },
        subst (λ z. 0 < length z.program.nodes) (sym a.stored) (ruled_nodes r (state no_tables list)),
      )

  -- a reading leaves closed tables, and where it accepts, a term
  abbrev LeftClosed : Result (Unit {0}) Fault × Tables × List G → Type 0
  LeftClosed x = Closed x.1 × IfOk x.0 (λ _. 0 < length x.1.nodes)

  module _ (nil : G) where
    left_closed : (text : List ℕ) (list beyond : List G) → 256 ≤ length list → (o : Read G (Unit {0})) → text_read reading one text list ≡ o → LeftClosed (left_by nil beyond o)
    left_closed text list beyond long (Ok (tt, s)) e = read_closed text list s e long
    left_closed text list beyond long (Err f) e = (record { closed = omega arith; levels = omega arith; functions = omega arith }, tt)

    pub program_closed : (text : List ℕ) (t : Tables) (l : List G) (x : Result (Unit {0}) Fault × Tables × List G) → x ≡ program_read reading one nil text t l → Closed t → LeftClosed x
    program_closed text t l x e c =
        subst LeftClosed (sym e) (cond_both (ltb (length l) 256) (Err (fault ShortList 0), t, l) (left_by nil (drop 256 l) (text_read reading one text (take 256 l))) LeftClosed
        (λ short. (c, tt))
        (λ enough. left_closed text (take 256 l) (drop 256 l) (omega (arith, length-take-le 256 l (ltb-false (length l) 256 enough))) (text_read reading one text (take 256 l)) refl))
