-- What judging answers has a derivation. Assumes nothing.
use Rattle.std.proofs.Common.{◌≡◌, ℕ, List, ◌∷◌, Some, None, Ok, Option, Result, refl, subst}
use Rattle.tokens.specs.declared.refusal.Fault.{Fault}
use Rattle.language.specs.declared.heads.Binary.TheVariants.{Call, Add, Sub}
use Rattle.grades.specs.declared.algebra.Algebra.{Ghosts}
use Rattle.grades.specs.Laws.{Laws}
use Rattle.grammar.specs.Syntax.{Label, Ty, Tm, name, literal, fn, binary, half, less}
use Rattle.grammar.proofs.Beginnings.{absurd_ok, then_ok, ok_same}
use Rattle.typing.specs.Usages.{once}
use Rattle.typing.specs.Derivations.{type_of, Has, name_has, number_has, fn_has, call_has, add_has, sub_has, half_has, less_has, wider}
use Rattle.typing.specs.Judging.{Judgement, named, bound, judged}
use Rattle.typing.proofs.Usages.{more, Fits, covers, covering_refl, join_left, join_right}
use Rattle.typing.proofs.Steps.{type_same, unless_from, number_from, function_from, both_from}
use Rattle.typing.proofs.Fitting.{fits_both, has_fits}

module _ {G : Type 0} (a : Ghosts G) where
  -- the derivation of an answer
  abbrev Answered : List (Ty G) → Tm G → Judgement G → Type 0
  Answered context t j = Has a context t j.0 j.1

  answered : {context : List (Ty G)} {t : Tm G} {x y : Judgement G} → ◌≡◌ {A = Result (Judgement G) Fault} (Ok x) (Ok y) → Answered context t x → Answered context t y
  answered {context} {t} e d = subst (Answered context t) (ok_same _ _ e) d

  named_sound : (context : List (Ty G)) (place k : ℕ) (o : Option (Ty G)) →
      type_of context k ≡ o → (j : Judgement G) → named place o (once a context k) ≡ Ok j → Answered context (name place k) j
  named_sound context place k None f j e = absurd_ok e
  named_sound context place k (Some A) f j e = answered e (name_has f)

  module _ (laws : Laws a.nil a.unit a.plus a.times a.lub a.permits a.taking) where
    bound_sound : {context : List (Ty G)} {t : Tm G} {A B : Ty G} {u : List G} (place : ℕ) (n : Label) (g : G) →
        Fits (A ∷ context) u → Has a (A ∷ context) t B u → (j : Judgement G) → bound a n g A B u ≡ Ok j → Answered context (fn place n g A t) j
    bound_sound place n g (more {ys = u} h m) d j e =
        let p = unless_from _ _ _ _ e in
        answered p.1 (fn_has (wider d (p.0, covers a (covering_refl a laws u))))

    pub sound : (context : List (Ty G)) (t : Tm G) (j : Judgement G) → judged a context t ≡ Ok j → Has a context t j.0 j.1
    sound context (name place k) j e = named_sound context place k (type_of context k) refl j e
    sound context (literal place z) j e = answered e number_has
    sound context (fn place n g A t) j e =
        let p = then_ok _ _ _ e in
        let d = sound (A ∷ context) t p.0 p.1 in
        bound_sound place n g (has_fits a d) d j p.2
    sound context (binary place Call s t) j e =
        let p = then_ok _ _ _ e in
        let q = function_from _ _ _ _ p.2 in
        let r = then_ok _ _ _ q.2 in
        let w = unless_from _ _ _ _ r.2 in
        let d = subst (λ F. Has a context s F p.0.1) q.1 (sound context s p.0 p.1) in
        let f = subst (λ C. Has a context t C r.0.1) (type_same a laws _ _ w.0) (sound context t r.0 r.1) in
        answered w.1 (call_has d f)
    sound context (binary place Add s t) j e =
        let p = both_from a _ _ _ _ _ _ e in
        answered p.4 (add_has (sound context s _ p.2) (sound context t _ p.3))
    sound context (binary place Sub s t) j e =
        let p = both_from a _ _ _ _ _ _ e in
        answered p.4 (sub_has (sound context s _ p.2) (sound context t _ p.3))
    sound context (half place t) j e =
        let p = number_from _ _ _ _ e in
        answered p.2 (half_has (sound context t _ p.1))
    sound context (less place s t x y) j e =
        let p = both_from a _ _ _ _ _ _ e in
        let r = then_ok _ _ _ p.4 in
        let w = then_ok _ _ _ r.2 in
        let o = unless_from _ _ _ _ w.2 in
        let d = sound context x r.0 r.1 in
        let f = subst (λ C. Has a context y C w.0.1) (type_same a laws _ _ o.0) (sound context y w.0 w.1) in
        let m = fits_both (has_fits a d) (has_fits a f) in
        let l = wider d (covers a (join_left a laws m)) in
        let g = wider f (covers a (join_right a laws m)) in
        answered o.1 (less_has (sound context s _ p.2) (sound context t _ p.3) l g)
