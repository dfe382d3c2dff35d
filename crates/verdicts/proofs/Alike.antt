-- The names of a rule do not matter: rules that differ in them alone are acceptable alike. Assumes nothing.
use Rattle.std.proofs.Common.{◌≡◌, ℕ, zero, suc, List, [], ◌∷◌, ◌++◌, reverse, get_or, take, replicate, ℤ, refl, ap, ◌∙◌, subst}
use Rattle.language.specs.declared.heads.Binary.{Binary}
use Rattle.language.specs.declared.program.Binder.{Binder}
use Rattle.language.specs.declared.program.SimpleType.{SimpleType}
use Rattle.language.specs.declared.program.SimpleType.TheVariants.{Num, To}
use Rattle.language.specs.declared.program.Term.{Term}
use Rattle.language.specs.declared.program.Term.TheVariants.{Name, Number, Fn, Call, Add, Sub, Half, Less}
use Rattle.language.specs.declared.program.Node.{Node}
use Rattle.language.specs.Reading.{Tables}
use Rattle.grades.specs.declared.algebra.Algebra.{Ghosts}
use Rattle.grammar.specs.Syntax.{Label, Ty, num, Tm, name, literal, fn, binary, half, less, Rule, input, run, rule_inputs, run_of}
use Rattle.grammar.specs.Recovering.{grow, no_term, type_entry, types_in, form, terms_in, last_of, inputs_in, rule_in}
use Rattle.typing.specs.Derivations.{input_types, declared, Has, name_has, number_has, fn_has, call_has, add_has, sub_has, half_has, less_has, wider, Acceptable}

-- terms that differ in the names of their binders alone
pub data Alike {G : Type 0} : Tm G → Tm G → Type 0 where
  by_name : {p k : ℕ} → Alike (name p k) (name p k)
  by_literal : {p : ℕ} {z : ℤ} → Alike (literal p z) (literal p z)
  by_fn : {p : ℕ} {n m : Label} {g : G} {A : Ty G} {t u : Tm G} → Alike t u → Alike (fn p n g A t) (fn p m g A u)
  by_binary : {p : ℕ} {f : Binary} {s t u v : Tm G} → Alike s u → Alike t v → Alike (binary p f s t) (binary p f u v)
  by_half : {p : ℕ} {t u : Tm G} → Alike t u → Alike (half p t) (half p u)
  by_less : {p : ℕ} {s t u v s' t' u' v' : Tm G} → Alike s s' → Alike t t' → Alike u u' → Alike v v' → Alike (less p s t u v) (less p s' t' u' v')

data Alikes {G : Type 0} : List (Tm G) → List (Tm G) → Type 0 where
  none : Alikes [] []
  more : {t u : Tm G} {ts us : List (Tm G)} → Alike t u → Alikes ts us → Alikes (t ∷ ts) (u ∷ us)

pub data AlikeRules {G : Type 0} : Rule G → Rule G → Type 0 where
  by_input : {n m : Label} {g : G} {r q : Rule G} → AlikeRules r q → AlikeRules (input n g r) (input m g q)
  by_run : {t u : Tm G} → Alike t u → AlikeRules (run t) (run u)

module _ {G : Type 0} where
  pushed : {ts us : List (Tm G)} {t u : Tm G} → Alikes ts us → Alike t u → Alikes (ts ++ (t ∷ [])) (us ++ (u ∷ []))
  pushed none s = more s none
  pushed (more r rs) s = more r (pushed rs s)

  part : {ts us : List (Tm G)} → Alikes ts us → (i : ℕ) → Alike (get_or ts i no_term) (get_or us i no_term)
  part none i = by_literal
  part (more s ss) zero = s
  part (more s ss) (suc i) = part ss i

  count_alike : {r q : Rule G} → AlikeRules r q → rule_inputs r ≡ rule_inputs q
  count_alike (by_input s) = ap suc (count_alike s)
  count_alike (by_run s) = refl

  declared_alike : {r q : Rule G} → AlikeRules r q → declared r ≡ declared q
  declared_alike (by_input {g = g} s) = ap (λ gs. g ∷ gs) (declared_alike s)
  declared_alike (by_run s) = refl

  run_alike : {r q : Rule G} → AlikeRules r q → Alike (run_of r) (run_of q)
  run_alike (by_input s) = run_alike s
  run_alike (by_run s) = s

  module _ (a : Ghosts G) where
    has_alike : {context : List (Ty G)} {t u : Tm G} {A : Ty G} {v : List G} → Has a context t A v → Alike t u → Has a context u A v
    has_alike (name_has e) by_name = name_has e
    has_alike number_has by_literal = number_has
    has_alike (fn_has h) (by_fn s) = fn_has (has_alike h s)
    has_alike (call_has h i) (by_binary s t) = call_has (has_alike h s) (has_alike i t)
    has_alike (add_has h i) (by_binary s t) = add_has (has_alike h s) (has_alike i t)
    has_alike (sub_has h i) (by_binary s t) = sub_has (has_alike h s) (has_alike i t)
    has_alike (half_has h) (by_half s) = half_has (has_alike h s)
    has_alike (less_has h i j k) (by_less s t u v) = less_has (has_alike h s) (has_alike i t) (has_alike j u) (has_alike k v)
    has_alike (wider h c) s = wider (has_alike h s) c

    pub acceptable_alike : {r q : Rule G} → AlikeRules r q → Acceptable a r → Acceptable a q
    acceptable_alike {r} {q} s h =
        let counted = subst (λ n. Has a (replicate n num) (run_of r) num (reverse (declared r))) (count_alike s) h in
        has_alike (subst (λ gs. Has a (input_types q) (run_of r) num (reverse gs)) (declared_alike s) counted) (run_alike s)

grow_same : {X Y : Type 0} (step step' : List Y → X → Y) → ((ys : List Y) (x : X) → step ys x ≡ step' ys x) → (ys : List Y) (xs : List X) → grow step ys xs ≡ grow step' ys xs
grow_same step step' same ys [] = refl
grow_same step step' same ys (x ∷ xs) = grow_same step step' same (ys ++ (step ys x ∷ [])) xs ∙ ap (λ y. grow step' (ys ++ (y ∷ [])) xs) (same ys x)

-- the same tables, with the names of two texts
module _ {G : Type 0} (nil : G) (x y : List ℕ) (list : List G) where
  entry_same : (ts : List (Ty G)) (t : SimpleType) → type_entry nil x list ts t ≡ type_entry nil y list ts t
  entry_same ts Num = refl
  entry_same ts (To g A B) = refl

  last_alike : {ts us : List (Tm G)} → Alikes ts us → Alike (last_of nil x list ts) (last_of nil y list us)
  last_alike none = by_literal
  last_alike (more s none) = s
  last_alike (more s (more r rs)) = last_alike (more r rs)

  module _ (binders : List Binder) (types : List (Ty G)) where
    form_alike : {us vs : List (Tm G)} → Alikes us vs → (p : ℕ) (t : Term) → Alike (form nil x list binders types us p t) (form nil y list binders types vs p t)
    form_alike s p (Name k) = by_name
    form_alike s p (Number z) = by_literal
    form_alike s p (Fn b A t) = by_fn (part s t)
    form_alike s p (Call t u) = by_binary (part s t) (part s u)
    form_alike s p (Add t u) = by_binary (part s t) (part s u)
    form_alike s p (Sub t u) = by_binary (part s t) (part s u)
    form_alike s p (Half t) = by_half (part s t)
    form_alike s p (Less t u v w) = by_less (part s t) (part s u) (part s v) (part s w)

    grown_alike : (nodes : List Node) {us vs : List (Tm G)} → Alikes us vs → Alikes (grow (λ ws n. form nil x list binders types ws n.place n.term) us nodes) (grow (λ ws n. form nil y list binders types ws n.place n.term) vs nodes)
    grown_alike [] s = s
    grown_alike (n ∷ ns) s = grown_alike ns (pushed s (form_alike s n.place n.term))

  terms_alike : (binders : List Binder) (types : List SimpleType) (nodes : List Node) → Alikes (terms_in nil x list binders types nodes) (terms_in nil y list binders types nodes)
  terms_alike binders types nodes =
      subst (λ ts. Alikes (terms_in nil x list binders types nodes) (grow (λ ws n. form nil y list binders ts ws n.place n.term) [] nodes))
      (grow_same (type_entry nil x list) (type_entry nil y list) entry_same [] types)
      (grown_alike binders (types_in nil x list types) nodes none)

  inputs_alike : (bs : List Binder) {r q : Rule G} → AlikeRules r q → AlikeRules (inputs_in nil x list bs r) (inputs_in nil y list bs q)
  inputs_alike [] s = s
  inputs_alike (b ∷ bs) s = by_input (inputs_alike bs s)

  pub rule_alike : (t : Tables) → AlikeRules (rule_in nil x list t) (rule_in nil y list t)
  rule_alike t = inputs_alike (take t.inputs t.binders) (by_run (last_alike (terms_alike t.binders t.types t.nodes)))
