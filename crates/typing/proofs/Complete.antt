-- What has a derivation is judged so, with a usage that the derivation's covers. Assumes nothing.
use Rattle.std.proofs.Common.{◌≡◌, ℕ, List, ◌∷◌, Ok, refl, ap}
use Rattle.grades.specs.declared.algebra.Algebra.{Ghosts}
use Rattle.grades.specs.Laws.{Laws}
use Rattle.grammar.specs.Syntax.{Label, Ty, to, Tm, fn}
use Rattle.typing.specs.Usages.{unused, once, sum, product, join}
use Rattle.typing.specs.Derivations.{Has, name_has, number_has, fn_has, call_has, add_has, sub_has, half_has, less_has, wider}
use Rattle.typing.specs.Judging.{named, judged}
use Rattle.typing.proofs.Usages.{more, Covering, covering, covering_refl, covering_trans, sum_covering, product_covering, join_least}
use Rattle.typing.proofs.Steps.{same_type_refl}

module _ {G : Type 0} (a : Ghosts G) where
  -- the term is judged to have the type A, with a usage that v covers
  pub record Judged (context : List (Ty G)) (t : Tm G) (A : Ty G) (v : List G) : Type 0 where
    pub usage : List G
    pub answer : judged a context t ≡ Ok (A, usage)
    pub covered : Covering a v usage

  bound-judged : {context : List (Ty G)} {t : Tm G} {A B : Ty G} {g : G} {u v : List G} (place : ℕ) (n : Label) →
      judged a (A ∷ context) t ≡ Ok (B, u) → Covering a (g ∷ v) u → Judged context (fn place n g A t) (to g A B) v
  bound-judged place n e (more {ys = u} h c) = record { usage = u; answer = rw (e, h); covered = c }

  module _ (laws : Laws a.nil a.unit a.plus a.times a.lub a.permits a.taking) where
    pub complete : {context : List (Ty G)} {t : Tm G} {A : Ty G} {v : List G} → Has a context t A v → Judged context t A v
    complete (name_has {context} {place} {k} e) =
        record { usage = once a context k; answer = ap (λ o. named place o (once a context k)) e; covered = covering_refl a laws _ }
    complete (number_has {context}) = record { usage = unused a context; answer = refl; covered = covering_refl a laws _ }
    complete (fn_has {place = place} {n = n} d) = let p = complete d in bound-judged place n p.answer p.covered
    complete (call_has {g = g} {A = A} d e) =
        let p = complete d in
        let q = complete e in
        record {
          usage = sum a p.usage (product a g q.usage);
          answer = rw (p.answer, q.answer, same_type_refl a laws A);
          covered = sum_covering a laws p.covered (product_covering a laws g q.covered);
        }
    complete (add_has d e) =
        let p = complete d in
        let q = complete e in
        record { usage = sum a p.usage q.usage; answer = rw (p.answer, q.answer); covered = sum_covering a laws p.covered q.covered }
    complete (sub_has d e) =
        let p = complete d in
        let q = complete e in
        record { usage = sum a p.usage q.usage; answer = rw (p.answer, q.answer); covered = sum_covering a laws p.covered q.covered }
    complete (half_has d) = let p = complete d in record { usage = p.usage; answer = rw p.answer; covered = p.covered }
    complete (less_has {C = C} d e f g) =
        let p = complete d in
        let q = complete e in
        let r = complete f in
        let s = complete g in
        record {
          usage = sum a (sum a p.usage q.usage) (join a r.usage s.usage);
          answer = rw (p.answer, q.answer, r.answer, s.answer, same_type_refl a laws C);
          covered = sum_covering a laws (sum_covering a laws p.covered q.covered) (join_least a laws r.covered s.covered);
        }
    complete (wider {u = u} {v = v} d c) =
        let p = complete d in
        record { usage = p.usage; answer = p.answer; covered = covering_trans a laws (covering a v u c) p.covered }
