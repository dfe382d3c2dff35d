-- The rule that was stored is the rule that stands in the tables. Assumes nothing.
use Rattle.std.proofs.Common.{◌≡◌, ℕ, ◌≤◌, List, [], ◌∷◌, ◌++◌, length, get_or, take, sym, refl, ap, ◌∙◌, arith}
use Rattle.std.proofs.lemmas.List.{length_push, take_at}
use Rattle.language.specs.declared.program.Binder.{Binder}
use Rattle.language.specs.declared.program.Node.{Node}
use Rattle.language.specs.Reading.{State, changed, with_word, with_binder, with_input}
use Rattle.grammar.specs.Syntax.{Ty, num, to, Tm, name, literal, fn, binary, half, less, Rule, input, run}
use Rattle.grammar.specs.Storing.{keep_grade, entry, place_of, typed, parted, termed, ruled}
use Rattle.grammar.specs.Recovering.{grow, label_of, types_in, form, terms_in, last_of, inputs_in, rule_in}
use Rattle.grammar.proofs.Extends.{Extends, further, by_grade, by_node, by_input, by_termed, grade_kept}
use Rattle.grammar.proofs.Recovery.{grow-append, Spelled, AllSpelled, parts_held}

module _ {G : Type 0} where
  by_ruled : (r : Rule G) (s : State G) → Extends s (ruled r s)
  by_ruled (input n g r) s = let i = keep_grade g s in further (by_grade g s) (further (by_input (entry n i.0) i.1) (by_ruled r _))
  by_ruled (run u) s = by_termed u s

  -- only inputs add to the inputs
  typed_inputs : (a : Ty G) (s : State G) → (typed a s).1.program.inputs ≡ s.program.inputs
  typed_inputs num s = refl
  typed_inputs (to g a b) s = typed_inputs b (typed a (keep_grade g (changed with_word s)).1).1 ∙ typed_inputs a (keep_grade g (changed with_word s)).1

  pub parted_inputs : (u : Tm G) (s : State G) → (parted u s).1.program.inputs ≡ s.program.inputs
  parted_inputs (name p k) s = refl
  parted_inputs (literal p z) s = refl
  parted_inputs (fn p n g a b) s =
      let i = keep_grade g s in
      let r = changed (λ q. with_binder q (entry n i.0)) i.1 in
      parted_inputs b (changed with_word (typed a r).1) ∙ typed_inputs a r
  parted_inputs (binary p f a b) s = parted_inputs b (changed with_word (termed a s).1) ∙ parted_inputs a (changed with_word s)
  parted_inputs (half p a) s = parted_inputs a (changed with_word s)
  parted_inputs (less p a b c d) s =
      let x = termed a s in
      let y = termed b x.1 in
      let z = termed c y.1 in
      parted_inputs d (changed with_word z.1) ∙ parted_inputs c (changed with_word y.1) ∙ parted_inputs b (changed with_word x.1) ∙ parted_inputs a (changed with_word s)

  module _ (beyond : G) (text : List ℕ) where
    last_push : (list : List G) (us : List (Tm G)) (u : Tm G) → last_of beyond text list (us ++ (u ∷ [])) ≡ u
    last_push list [] u = refl
    last_push list (v ∷ []) u = refl
    last_push list (v ∷ w ∷ us) u = last_push list (w ∷ us) u

    inputs_push : (list : List G) (bs : List Binder) (b : Binder) (r : Rule G) → inputs_in beyond text list (bs ++ (b ∷ [])) r ≡ inputs_in beyond text list bs (input (label_of text b) (get_or list b.grade beyond) r)
    inputs_push list [] b r = refl
    inputs_push list (c ∷ bs) b r = ap (input (label_of text c) (get_or list c.grade beyond)) (inputs_push list bs b r)

    -- the run term is the last of the terms
    run_held : (u : Tm G) (s : State G) → let t = (termed u s).1 in t.program.grades ≤ length t.list → Spelled text u → last_of beyond text t.list (terms_in beyond text t.list t.program.binders t.program.types t.program.nodes) ≡ u
    run_held u s full sp =
        let t = (termed u s).1 in
        let x = parted u (changed with_word s) in
        let n : Node = record { term = x.0; place = place_of u } in
        let step : List (Tm G) → Node → Tm G = λ us m. form beyond text t.list t.program.binders (types_in beyond text t.list t.program.types) us m.place m.term in
        ap (last_of beyond text t.list) (grow-append step [] x.1.program.nodes (n ∷ []))
        ∙ last_push t.list (grow step [] x.1.program.nodes) (step (grow step [] x.1.program.nodes) n)
        ∙ parts_held beyond text t full u (changed with_word s) sp (by_node (place_of u) x)

    rule_held : (r : Rule G) (s : State G) → let t = ruled r s in t.program.grades ≤ length t.list → AllSpelled text r → s.program.inputs ≡ length s.program.binders → rule_in beyond text t.list t.program ≡ inputs_in beyond text t.list s.program.binders r
    rule_held (input n g r) s full sp level =
        let i = keep_grade g s in
        let b = entry n i.0 in
        let s' = changed (λ p. with_input p b) i.1 in
        let t = ruled r s' in
        let grade = grade_kept g beyond s t (further (by_input b i.1) (by_ruled r s')) full in
        let longer = length_push s.program.binders b in
        rule_held r s' full sp.1 (omega (arith, longer))
        ∙ inputs_push t.list s.program.binders b r
        ∙ ap (inputs_in beyond text t.list s.program.binders) (λ k. input (sp.0 k) (grade k) r)
    rule_held (run u) s full sp level =
        let t = (termed u s).1 in
        let e = by_termed u s in
        let same : t.program.inputs ≡ length s.program.binders = parted_inputs u (changed with_word s) ∙ level in
        let front : take t.program.inputs t.program.binders ≡ s.program.binders = ap (take t.program.inputs) e.binders ∙ take_at s.program.binders e.more_binders t.program.inputs (sym same) in
        ap (λ l. inputs_in beyond text t.list l (run (last_of beyond text t.list (terms_in beyond text t.list t.program.binders t.program.types t.program.nodes)))) front
        ∙ ap (λ v. inputs_in beyond text t.list s.program.binders (run v)) (run_held u s full sp)

    pub stored_held : (r : Rule G) (s : State G) → s.program.inputs ≡ 0 → s.program.binders ≡ [] → let t = ruled r s in t.program.grades ≤ length t.list → AllSpelled text r → rule_in beyond text t.list t.program ≡ r
    stored_held r s none empty full sp = rule_held r s full sp (none ∙ sym (ap length empty)) ∙ ap (λ l. inputs_in beyond text (ruled r s).list l r) empty

  -- the grade list keeps its length
  pub ruled_long : (r : Rule G) (s : State G) → length (ruled r s).list ≡ length s.list
  ruled_long r s = (by_ruled r s).long
