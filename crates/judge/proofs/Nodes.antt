-- What a node of the program says of its term and its parts. Assumes nothing.
use Rattle.std.proofs.Common.{◌≡◌, ℕ, ◌<◌, ◌≤◌, true, ◌&&◌, ◌⊎◌, ltb, List, [], length, get_or, IfOk, Ok, Err, Result, sym, refl, ap, ◌∙◌, subst, ⊎_elim, arith}
use Rattle.std.proofs.lemmas.List.{get_or_read}
use Rattle.std.proofs.lemmas.Bool.{and_parts, ltb-true}
use Rattle.tokens.specs.declared.refusal.Fault.{Fault}
use Rattle.language.specs.declared.program.SimpleType.{SimpleType}
use Rattle.language.specs.declared.program.Term.{Term}
use Rattle.language.specs.declared.program.Term.TheVariants.{Name, Number, Fn, Call, Add, Sub, Half, Less}
use Rattle.language.specs.declared.program.Node.{Node}
use Rattle.language.specs.Tables.{no_node, type_sound, term_sound, NodesSound}
use Rattle.language.specs.Growth.{TermFits}
use Rattle.language.specs.Reading.{Tables, tables_of}
use Rattle.grades.specs.declared.algebra.Algebra.{Ghosts}
use Rattle.grammar.specs.Syntax.{Ty, Tm}
use Rattle.grammar.specs.Storing.{place_of}
use Rattle.grammar.specs.Closing.{needed, nesting, functions}
use Rattle.grammar.proofs.Entries.{term-entry}
use Rattle.typing.specs.Judging.{judged}
use Rattle.judge.specs.declared.graded.GradedRule.{GradedRule}
use Rattle.judge.specs.declared.table.TypeTable.{TypeTable}
use Rattle.judge.specs.declared.usage.Usage.{Usage}
use Rattle.judge.specs.Meaning.{term_in, term_at, part, node_at}
use Rattle.judge.specs.Progress.{Ready, Grown, Judges, context_types}
use Rattle.judge.proofs.Parts.{grown_within}

-- what a term refers to is in its table, and its parts are older
abbrev pub Older : ℕ → ℕ → ℕ → Term → Type 0
Older b t i (Name k) = Unit {0}
Older b t i (Number z) = Unit {0}
Older b t i (Fn binder domain body) = (binder < b) × (domain < t) × (body < i)
Older b t i (Call function argument) = (function < i) × (argument < i)
Older b t i (Add left right) = (left < i) × (right < i)
Older b t i (Sub left right) = (left < i) × (right < i)
Older b t i (Half part) = part < i
Older b t i (Less left right below otherwise) = (left < i) × (right < i) × (below < i) × (otherwise < i)

two_older : (a b i : ℕ) → (ltb a i && ltb b i) ≡ true → (a < i) × (b < i)
two_older a b i s = let p = and_parts (ltb a i) (ltb b i) s in (ltb-true a i p.0, ltb-true b i p.1)

pub older : (b t i : ℕ) (u : Term) → term_sound b t i u ≡ true → Older b t i u
older b t i (Name k) s = tt
older b t i (Number z) s = tt
older b t i (Fn binder domain body) s =
    let p = and_parts (ltb binder b) (ltb domain t && ltb body i) s in
    let q = and_parts (ltb domain t) (ltb body i) p.1 in
    (ltb-true binder b p.0, ltb-true domain t q.0, ltb-true body i q.1)
older b t i (Call function argument) s = two_older function argument i s
older b t i (Add left right) s = two_older left right i s
older b t i (Sub left right) s = two_older left right i s
older b t i (Half part) s = ltb-true part i s
older b t i (Less left right below otherwise) s =
    let p = and_parts (ltb left i && ltb right i) (ltb below i && ltb otherwise i) s in
    let q = two_older left right i p.0 in
    let r = two_older below otherwise i p.1 in
    (q.0, q.1, r.0, r.1)

-- a node n that was read from the table
module _ (t : Tables) (b y : ℕ) (sound : NodesSound b y t.nodes) (i : ℕ) (below : i < length t.nodes) (n : Node) (read : n ≡ get_or t.nodes i n) where
  here : n ≡ get_or t.nodes i no_node
  here = get_or_read t.nodes i n below read no_node

  -- its parts are older
  pub node_older : (u : Term) → n.term ≡ u → Older b y i u
  node_older u is = older b y i u (subst (λ x. term_sound b y i x ≡ true) (ap (λ m. m.term) (sym here) ∙ is) (sound i below))

  -- the term at its place is the one that it says
  pub node_term : {G : Type 0} (nil : G) (list : List G) (u : Term) → n.term ≡ u → term_at nil list t i ≡ term_in nil list t n.place u
  node_term nil list u is =
      term-entry nil [] list t.binders t.types b y t.nodes i sound below
      ∙ ap (λ m. term_in nil list t m.place m.term) (sym here)
      ∙ ap (term_in nil list t n.place) is

  place_form : {G : Type 0} (nil : G) (list : List G) (p : ℕ) (u : Term) → place_of (term_in nil list t p u) ≡ p
  place_form nil list p (Name k) = refl
  place_form nil list p (Number z) = refl
  place_form nil list p (Fn binder domain body) = refl
  place_form nil list p (Call function argument) = refl
  place_form nil list p (Add left right) = refl
  place_form nil list p (Sub left right) = refl
  place_form nil list p (Half part) = refl
  place_form nil list p (Less left right below' otherwise) = refl

  -- and stands at its place in the text
  pub node_place : {G : Type 0} (nil : G) (list : List G) → place_of (term_at nil list t i) ≡ n.place
  node_place nil list = ap place_of (node_term nil list n.term refl) ∙ place_form nil list n.place n.term

-- a term of the same size is ready too
pub ready_as : {G : Type 0} {p : GradedRule G} {types : TypeTable} {c : List SimpleType} {u : Tm G} (v : Tm G) → Ready p c types u → needed v ≤ needed u → nesting v ≤ nesting u → functions v ≤ functions u → Ready p c types v
ready_as v r names levels room = record {
  added = r.added;
  begins = r.begins;
  sound = r.sound;
  names = omega (arith, r.names);
  levels = omega (arith, r.levels);
  room = omega (arith, r.room);
}

-- a term is of one size at every place
same_size : {G : Type 0} (nil : G) (p : GradedRule G) (place : ℕ) (u : Term) → (needed (part nil p u) ≡ needed (term_in nil p.grades.now (tables_of p.rule.now.program) place u)) × (nesting (part nil p u) ≡ nesting (term_in nil p.grades.now (tables_of p.rule.now.program) place u)) × (functions (part nil p u) ≡ functions (term_in nil p.grades.now (tables_of p.rule.now.program) place u))
same_size nil p place (Name k) = (refl, refl, refl)
same_size nil p place (Number z) = (refl, refl, refl)
same_size nil p place (Fn binder domain body) = (refl, refl, refl)
same_size nil p place (Call function argument) = (refl, refl, refl)
same_size nil p place (Add left right) = (refl, refl, refl)
same_size nil p place (Sub left right) = (refl, refl, refl)
same_size nil p place (Half half) = (refl, refl, refl)
same_size nil p place (Less left right below otherwise) = (refl, refl, refl)

-- what is older than an entry of the table is there
there : (t : Tables) (i : ℕ) (u : Term) → i < length t.nodes → Older (length t.binders) (length t.types) i u → TermFits t u
there t i (Name k) below o = tt
there t i (Number z) below o = tt
there t i (Fn binder domain body) below o = (o.0, o.1, omega (arith, o.2))
there t i (Call function argument) below o = (omega (arith, o.0), omega (arith, o.1))
there t i (Add left right) below o = (omega (arith, o.0), omega (arith, o.1))
there t i (Sub left right) below o = (omega (arith, o.0), omega (arith, o.1))
there t i (Half half) below o = omega arith
there t i (Less left right below' otherwise) below o = (omega (arith, o.0), omega (arith, o.1), omega (arith, o.2), omega (arith, o.3))

-- what a node that was read says of the term of its number
pub record Opened {G : Type 0} (nil : G) (p : GradedRule G) (c : List SimpleType) (types : TypeTable) (i place : ℕ) (u : Term) : Type 0 where
  pub is : node_at nil p i ≡ term_in nil p.grades.now (tables_of p.rule.now.program) place u
  pub older : Older (length p.rule.now.program.binders.items) (length p.rule.now.program.types.items) i u
  pub fits : TermFits (tables_of p.rule.now.program) u
  pub ready : Ready p c types (part nil p u)

pub opened : {G : Type 0} (nil : G) (p : GradedRule G) {c : List SimpleType} {types : TypeTable} (i : ℕ) (n : Node) (u : Term) → i < length p.rule.now.program.nodes.items → n ≡ get_or p.rule.now.program.nodes.items i n → n.term ≡ u → Ready p c types (node_at nil p i) → Opened nil p c types i n.place u
opened nil p {c} {types} i n u below read term ready =
    let t = tables_of p.rule.now.program in
    let is = node_term t _ _ p.rule.now.program.nodes_sound i below n read nil p.grades.now u term in
    let parts = node_older t _ _ p.rule.now.program.nodes_sound i below n read u term in
    let size = same_size nil p n.place u in
    record {
      is = is;
      older = parts;
      fits = there t i u below parts;
      ready = ready_as (part nil p u) (subst (Ready p c types) is ready) (omega (arith, size.0)) (omega (arith, size.1)) (omega (arith, size.2));
    }

-- what a node that was read as a sum or a difference says of the term of its number, which is judged as the sum is
pub record Sums {G : Type 0} (a : Ghosts G) (p : GradedRule G) (c : List SimpleType) (types : TypeTable) (i left right : ℕ) : Type 0 where
  pub older : (left < i) × (right < i)
  pub fits : TermFits (tables_of p.rule.now.program) (Add left right)
  pub ready : Ready p c types (part a.nil p (Add left right))
  pub same : (context : List (Ty G)) → judged a context (node_at a.nil p i) ≡ judged a context (part a.nil p (Add left right))
  pub size : functions (node_at a.nil p i) ≡ functions (part a.nil p (Add left right))

pub sum_opened : {G : Type 0} (a : Ghosts G) (p : GradedRule G) {c : List SimpleType} {types : TypeTable} (i : ℕ) (n : Node) (left right : ℕ) → i < length p.rule.now.program.nodes.items → n ≡ get_or p.rule.now.program.nodes.items i n → (n.term ≡ Add left right) ⊎ (n.term ≡ Sub left right) → Ready p c types (node_at a.nil p i) → Sums a p c types i left right
sum_opened a p {c} {types} i n left right below read either ready =
    ⊎_elim
    (λ e.
    let o = opened a.nil p i n (Add left right) below read e ready in
    record { older = o.older; fits = o.fits; ready = o.ready; same = λ context. ap (judged a context) o.is; size = ap functions o.is })
    (λ e.
    let o = opened a.nil p i n (Sub left right) below read e ready in
    record {
      older = o.older;
      fits = o.fits;
      ready = ready_as (part a.nil p (Add left right)) o.ready (omega arith) (omega arith) (omega arith);
      same = λ context. ap (judged a context) o.is;
      size = ap functions o.is;
    })
    either

-- what judges a term judges every other that is judged so
pub judges_as : {G : Type 0} {a : Ghosts G} {p : GradedRule G} {c : List SimpleType} {u : Tm G} (v : Tm G) {before after : TypeTable} (r : Result (SimpleType × Usage G) Fault) → Judges a p c u before after r → judged a (context_types a.nil p.grades.now before.types.items c) v ≡ judged a (context_types a.nil p.grades.now before.types.items c) u → functions u ≤ functions v → Judges a p c v before after r
judges_as {G} {u = u} v {before} {after} r j same few = record { answer = j.answer ∙ sym same; grows = within r j.grows }
  where
    within : (q : Result (SimpleType × Usage G) Fault) → IfOk q (λ s. Grown (functions u) before after × (type_sound 256 (length after.types.items) s.0 ≡ true)) → IfOk q (λ s. Grown (functions v) before after × (type_sound 256 (length after.types.items) s.0 ≡ true))
    within (Ok s) g = (grown_within few g.0, g.1)
    within (Err f) g = tt
