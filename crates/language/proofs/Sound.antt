-- The table of terms stays sound when a term is added to it. Assumes nothing.
use Rattle.std.proofs.Common.{◌≡◌, ℕ, ◌<◌, true, ◌&&◌, ltb, List, [], ◌∷◌, ◌++◌, length, get_or, sym, refl, subst, ⊎_elim, arith}
use Rattle.std.proofs.lemmas.List.{length_push, get_or_push, get_or_append_left}
use Rattle.std.proofs.lemmas.Bool.{cases_lt, and_from, lt-ltb}
use Rattle.language.specs.declared.program.Term.{Term}
use Rattle.language.specs.declared.program.Term.TheVariants.{Name, Number, Fn, Call, Add, Sub, Half, Less}
use Rattle.language.specs.declared.program.Node.{Node}
use Rattle.language.specs.Tables.{no_node, term_sound, NodesSound}
use Rattle.language.specs.Reading.{Tables}
use Rattle.language.specs.Growth.{TermFits}

-- what holds at each index of a list holds at each of the list with one more
each_push : {X : Type 0} (P : ℕ → X → Type 0) (xs : List X) (x d : X) → ((i : ℕ) → i < length xs → P i (get_or xs i d)) → P (length xs) x → (i : ℕ) → i < length (xs ++ (x ∷ [])) → P i (get_or (xs ++ (x ∷ [])) i d)
each_push P xs x d all last i h =
    ⊎_elim
    (λ below. subst (P i) (sym (get_or_append_left xs (x ∷ []) d i below)) (all i below))
    (λ past.
    let here : length xs ≡ i = omega (arith, length_push xs x) in
    subst (P i) (sym (get_or_push xs x d i here)) (subst (λ k. P k x) here last))
    (cases_lt i (length xs))

two : (a b n m : ℕ) → a < n → b < m → (ltb a n && ltb b m) ≡ true
two a b n m h k = and_from _ _ (lt-ltb a n h) (lt-ltb b m k)

pub term_fits : (t : Tables) (u : Term) → TermFits t u → term_sound (length t.binders) (length t.types) (length t.nodes) u ≡ true
term_fits t (Name k) h = refl
term_fits t (Number z) h = refl
term_fits t (Fn binder domain body) h = and_from _ _ (lt-ltb _ _ h.0) (two _ _ _ _ h.1 h.2)
term_fits t (Call function argument) h = two _ _ _ _ h.0 h.1
term_fits t (Add left right) h = two _ _ _ _ h.0 h.1
term_fits t (Sub left right) h = two _ _ _ _ h.0 h.1
term_fits t (Half part) h = lt-ltb _ _ h
term_fits t (Less left right below otherwise) h = and_from _ _ (two _ _ _ _ h.0 h.1) (two _ _ _ _ h.2 h.3)

pub nodes_push : (b t : ℕ) (xs : List Node) (x : Node) → NodesSound b t xs → term_sound b t (length xs) x.term ≡ true → NodesSound b t (xs ++ (x ∷ []))
nodes_push b t xs x all last = each_push (λ i n. term_sound b t i n.term ≡ true) xs x no_node all last

pub nodes_added : (s : Tables) (x : Node) {ys : List Node} → NodesSound (length s.binders) (length s.types) s.nodes → TermFits s x.term → ys ≡ s.nodes ++ (x ∷ []) → NodesSound (length s.binders) (length s.types) ys
nodes_added s x all fits e = subst (NodesSound (length s.binders) (length s.types)) (sym e) (nodes_push _ _ _ _ all (term_fits s x.term fits))
