-- What judging a term gives, once its parts are judged. Assumes nothing.
use Rattle.std.proofs.Common.{◌≡◌, ℕ, true, false, List, ◌∷◌, IsErrAnd, Ok, Err, Result, ap, ◌∙◌}
use Rattle.std.proofs.lemmas.Result.{err_from_is_err_and}
use Rattle.tokens.specs.declared.refusal.Fault.{Fault}
use Rattle.tokens.specs.declared.refusal.Refusal.TheVariants.{TypesDiffer, NotCovered}
use Rattle.tokens.specs.Tokens.{fault}
use Rattle.language.specs.declared.program.SimpleType.{SimpleType}
use Rattle.language.specs.declared.heads.Binary.TheVariants.{Call}
use Rattle.language.specs.Reading.{◌then◌}
use Rattle.language.proofs.Chains.{goes_on, ends}
use Rattle.grades.specs.declared.algebra.Algebra.{Ghosts}
use Rattle.grammar.specs.Syntax.{Label, Ty, to, Tm, fn, binary, less}
use Rattle.grammar.specs.Storing.{place_of}
use Rattle.typing.specs.Usages.{sum, product, join}
use Rattle.typing.specs.Judging.{number, unless, same_type, both, judged}
use Rattle.judge.specs.declared.usage.Usage.{Usage}
use Rattle.judge.specs.Progress.{judged_into, used_into}

-- the exit of a `?`
pub broke : {X : Type 0} (r : Result X Fault) {f : Fault} → IsErrAnd r (λ y. y ≡ f) → r ≡ Err f
broke r e = let p = err_from_is_err_and r e in p.1 ∙ ap Err p.2

-- and that of a call that was lent a usage
pub broke_judged : {G : Type 0} (r : Result SimpleType Fault) (v : Usage G) {f : Fault} → IsErrAnd r (λ y. y ≡ f) → judged_into r v ≡ Err f
broke_judged r v e = ap (λ x. judged_into x v) (broke r e)

pub broke_used : {G : Type 0} (r : Result (Unit {0}) Fault) (v : Usage G) {f : Fault} → IsErrAnd r (λ y. y ≡ f) → used_into r v ≡ Err f
broke_used r v e = ap (λ x. used_into x v) (broke r e)

module _ {G : Type 0} (a : Ghosts G) where
  -- two numbers
  pub second_fails : (x y : Result (List G) Fault) {u : List G} {f : Fault} → Ok u ≡ x → Err f ≡ y → both a x y ≡ Err f
  second_fails x y e h = goes_on _ _ _ e ∙ ends _ _ _ h

  pub both-judged : (x y : Result (List G) Fault) {u v : List G} → Ok u ≡ x → Ok v ≡ y → both a x y ≡ Ok (sum a u v)
  both-judged x y e h = goes_on _ _ _ e ∙ goes_on _ _ _ h

  module _ (context : List (Ty G)) (place : ℕ) where
    -- a call
    module _ (s t : Tm G) where
      module _ {g : G} {A B : Ty G} {u : List G} (e : Ok (to g A B, u) ≡ judged a context s) where
        pub argument_fails : {f : Fault} → Err f ≡ judged a context t → judged a context (binary place Call s t) ≡ Err f
        argument_fails h = goes_on _ _ _ e ∙ ends _ _ _ h

        module _ {C : Ty G} {v : List G} (h : Ok (C, v) ≡ judged a context t) where
          called : judged a context (binary place Call s t) ≡ (unless (same_type a C A) (fault TypesDiffer (place_of t)) then λ _. Ok (B, sum a u (product a g v)))
          called = goes_on _ _ _ e ∙ goes_on _ _ _ h

          pub argument_differs : same_type a C A ≡ false → judged a context (binary place Call s t) ≡ Err (fault TypesDiffer (place_of t))
          argument_differs no' = called ∙ ap (λ b. unless b (fault TypesDiffer (place_of t)) then λ _. Ok (B, sum a u (product a g v))) no'

          pub call_judged : same_type a C A ≡ true → judged a context (binary place Call s t) ≡ Ok (B, sum a u (product a g v))
          call_judged yes' = called ∙ ap (λ b. unless b (fault TypesDiffer (place_of t)) then λ _. Ok (B, sum a u (product a g v))) yes'

    -- a function
    module _ (n : Label) (g : G) (A : Ty G) (t : Tm G) where
      pub body_fails : {f : Fault} → Err f ≡ judged a (A ∷ context) t → judged a context (fn place n g A t) ≡ Err f
      body_fails e = ends _ _ _ e

      module _ {B : Ty G} {p : G} {u : List G} (e : Ok (B, p ∷ u) ≡ judged a (A ∷ context) t) where
        pub binder_fails : a.permits g p ≡ false → judged a context (fn place n g A t) ≡ Err (fault NotCovered n.place)
        binder_fails no' = goes_on _ _ _ e ∙ ap (λ b. unless b (fault NotCovered n.place) then λ _. Ok (to g A B, u)) no'

        pub fn_judged : a.permits g p ≡ true → judged a context (fn place n g A t) ≡ Ok (to g A B, u)
        fn_judged yes' = goes_on _ _ _ e ∙ ap (λ b. unless b (fault NotCovered n.place) then λ _. Ok (to g A B, u)) yes'

    -- a comparison
    module _ (s t x y : Tm G) {u : List G} (e : Ok u ≡ both a (judged a context s then number (place_of s)) (judged a context t then number (place_of t))) where
      pub branch_fails : {f : Fault} → Err f ≡ judged a context x → judged a context (less place s t x y) ≡ Err f
      branch_fails h = goes_on _ _ _ e ∙ ends _ _ _ h

      module _ {C : Ty G} {v : List G} (h : Ok (C, v) ≡ judged a context x) where
        pub other_fails : {f : Fault} → Err f ≡ judged a context y → judged a context (less place s t x y) ≡ Err f
        other_fails k = goes_on _ _ _ e ∙ goes_on _ _ _ h ∙ ends _ _ _ k

        module _ {D : Ty G} {w : List G} (k : Ok (D, w) ≡ judged a context y) where
          compared : judged a context (less place s t x y) ≡ (unless (same_type a D C) (fault TypesDiffer (place_of y)) then λ _. Ok (C, sum a u (join a v w)))
          compared = goes_on _ _ _ e ∙ goes_on _ _ _ h ∙ goes_on _ _ _ k

          pub branches_differ : same_type a D C ≡ false → judged a context (less place s t x y) ≡ Err (fault TypesDiffer (place_of y))
          branches_differ no' = compared ∙ ap (λ b. unless b (fault TypesDiffer (place_of y)) then λ _. Ok (C, sum a u (join a v w))) no'

          pub less_judged : same_type a D C ≡ true → judged a context (less place s t x y) ≡ Ok (C, sum a u (join a v w))
          less_judged yes' = compared ∙ ap (λ b. unless b (fault TypesDiffer (place_of y)) then λ _. Ok (C, sum a u (join a v w))) yes'
