-- Storing only adds to the tables and to the grades in use. Assumes nothing.
use Rattle.std.proofs.Common.{◌≡◌, ℕ, ◌<◌, ◌≤◌, ◌≢◌, List, [], ◌∷◌, ◌++◌, length, get_or, sym, refl, ap, ◌∙◌, append_assoc, append-nil, arith}
use Rattle.std.proofs.lemmas.List.{length_push, length-set, get_or-set_same, get_or-set_other}
use Rattle.language.specs.declared.program.Binder.{Binder}
use Rattle.language.specs.declared.program.SimpleType.{SimpleType}
use Rattle.language.specs.declared.program.Term.{Term}
use Rattle.language.specs.declared.program.Node.{Node}
use Rattle.language.specs.Reading.{State, changed, with_word, with_binder, with_input}
use Rattle.grammar.specs.Syntax.{Ty, num, to, Tm, name, literal, fn, binary, half, less}
use Rattle.grammar.specs.Storing.{keep_grade, keep_type, keep_node, entry, place_of, typed, parted, termed}

pushed_there : {X : Type 0} (xs : List X) (x : X) → length xs < length (xs ++ (x ∷ []))
pushed_there xs x = omega (arith, length_push xs x)

pub record Extends {G : Type 0} (s t : State G) : Type 0 where
  pub more_binders : List Binder
  pub more_types : List SimpleType
  pub more_nodes : List Node
  pub binders : t.program.binders ≡ s.program.binders ++ more_binders
  pub types : t.program.types ≡ s.program.types ++ more_types
  pub nodes : t.program.nodes ≡ s.program.nodes ++ more_nodes
  pub grades : s.program.grades ≤ t.program.grades
  pub kept : (i : ℕ) (d : G) → i < s.program.grades → get_or t.list i d ≡ get_or s.list i d
  pub long : length t.list ≡ length s.list

module _ {G : Type 0} where
  -- the same tables with more words, or as they are
  pub as_is : (s : State G) → Extends s (changed with_word s)
  as_is s = record { more_binders = []; more_types = []; more_nodes = []; binders = sym (append-nil _); types = sym (append-nil _); nodes = sym (append-nil _); grades = omega arith; kept = λ i d h. refl; long = refl }

  pub itself : (s : State G) → Extends s s
  itself s = record { more_binders = []; more_types = []; more_nodes = []; binders = sym (append-nil _); types = sym (append-nil _); nodes = sym (append-nil _); grades = omega arith; kept = λ i d h. refl; long = refl }

  pub further : {s t u : State G} → Extends s t → Extends t u → Extends s u
  further {s} {t} {u} a b = record {
    more_binders = a.more_binders ++ b.more_binders;
    more_types = a.more_types ++ b.more_types;
    more_nodes = a.more_nodes ++ b.more_nodes;
    binders = b.binders ∙ ap (λ l. l ++ b.more_binders) a.binders ∙ append_assoc s.program.binders a.more_binders b.more_binders;
    types = b.types ∙ ap (λ l. l ++ b.more_types) a.types ∙ append_assoc s.program.types a.more_types b.more_types;
    nodes = b.nodes ∙ ap (λ l. l ++ b.more_nodes) a.nodes ∙ append_assoc s.program.nodes a.more_nodes b.more_nodes;
    grades = omega (arith, a.grades, b.grades);
    kept = λ i d h. b.kept i d (omega (arith, a.grades)) ∙ a.kept i d h;
    long = b.long ∙ a.long;
  }

  pub by_grade : (g : G) (s : State G) → Extends s (keep_grade g s).1
  by_grade g s = record {
    more_binders = [];
    more_types = [];
    more_nodes = [];
    binders = sym (append-nil _);
    types = sym (append-nil _);
    nodes = sym (append-nil _);
    grades = omega arith;
    kept = λ i d h. let ne : i ≢ s.program.grades = omega arith in get_or-set_other s.list s.program.grades i g d ne;
    long = length-set s.list s.program.grades g;
  }

  pub by_type : (x : SimpleType) (s : State G) → Extends s (keep_type x s).1
  by_type x s = record { more_binders = []; more_types = x ∷ []; more_nodes = []; binders = sym (append-nil _); types = refl; nodes = sym (append-nil _); grades = omega arith; kept = λ i d h. refl; long = refl }

  pub by_node : (place : ℕ) (x : Term × State G) → Extends x.1 (keep_node place x).1
  by_node place x = record { more_binders = []; more_types = []; more_nodes = record { term = x.0; place = place } ∷ []; binders = sym (append-nil _); types = sym (append-nil _); nodes = refl; grades = omega arith; kept = λ i d h. refl; long = refl }

  pub by_binder : (b : Binder) (s : State G) → Extends s (changed (λ p. with_binder p b) s)
  by_binder b s = record { more_binders = b ∷ []; more_types = []; more_nodes = []; binders = refl; types = sym (append-nil _); nodes = sym (append-nil _); grades = omega arith; kept = λ i d h. refl; long = refl }

  pub by_input : (b : Binder) (s : State G) → Extends s (changed (λ p. with_input p b) s)
  by_input b s = record { more_binders = b ∷ []; more_types = []; more_nodes = []; binders = refl; types = sym (append-nil _); nodes = sym (append-nil _); grades = omega arith; kept = λ i d h. refl; long = refl }

  pub by_typed : (a : Ty G) (s : State G) → Extends s (typed a s).1
  by_typed num s = further (as_is s) (by_type _ _)
  by_typed (to g a b) s =
      let i = keep_grade g (changed with_word s) in
      let x = typed a i.1 in
      further (as_is s) (further (by_grade g _) (further (by_typed a i.1) (further (by_typed b x.1) (by_type _ _))))

  pub by_parted : (u : Tm G) (s : State G) → Extends s (parted u s).1
  by_parted (name p k) s = itself s
  by_parted (literal p z) s = itself s
  by_parted (fn p n g a b) s =
      let i = keep_grade g s in
      let r = changed (λ q. with_binder q (entry n i.0)) i.1 in
      let x = typed a r in
      further (by_grade g s) (further (by_binder _ i.1) (further (by_typed a r) (further (as_is x.1) (further (by_parted b (changed with_word x.1)) (by_node (place_of b) _)))))
  by_parted (binary p form a b) s =
      let x = keep_node (place_of a) (parted a (changed with_word s)) in
      further (as_is s) (further (by_parted a (changed with_word s)) (further (by_node (place_of a) _) (further (as_is x.1) (further (by_parted b (changed with_word x.1)) (by_node (place_of b) _)))))
  by_parted (half p a) s = further (as_is s) (further (by_parted a (changed with_word s)) (by_node (place_of a) _))
  by_parted (less p a b c d) s =
      let x = keep_node (place_of a) (parted a (changed with_word s)) in
      let y = keep_node (place_of b) (parted b (changed with_word x.1)) in
      let z = keep_node (place_of c) (parted c (changed with_word y.1)) in
      further (as_is s) (further (by_parted a (changed with_word s)) (further (by_node (place_of a) _) (further (as_is x.1) (further (by_parted b (changed with_word x.1)) (further (by_node (place_of b) _)
      (further (as_is y.1) (further (by_parted c (changed with_word y.1)) (further (by_node (place_of c) _) (further (as_is z.1) (further (by_parted d (changed with_word z.1)) (by_node (place_of d) _)))))))))))

  pub by_termed : (u : Tm G) (s : State G) → Extends s (termed u s).1
  by_termed u s = further (as_is s) (further (by_parted u (changed with_word s)) (by_node (place_of u) _))

  -- a grade that was stored is still there
  pub grade_kept : (g d : G) (s t : State G) → Extends (keep_grade g s).1 t → t.program.grades ≤ length t.list → get_or t.list s.program.grades d ≡ g
  grade_kept g d s t e full =
      let same = length-set s.list s.program.grades g in
      e.kept s.program.grades d (omega arith) ∙ get_or-set_same s.list s.program.grades g d (omega (arith, e.grades, e.long))

  -- where a type and a term are stored
  pub typed_there : (a : Ty G) (s : State G) → (typed a s).0 < length (typed a s).1.program.types
  typed_there num s = pushed_there _ _
  typed_there (to g a b) s = pushed_there _ _

  pub termed_there : (u : Tm G) (s : State G) → (termed u s).0 < length (termed u s).1.program.nodes
  termed_there u s = pushed_there _ _
