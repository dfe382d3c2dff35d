-- Steps of judging: what each says once it succeeded, and that types are tested the same exactly when they are equal. Assumes nothing.
use Rattle.std.proofs.Common.{◌≡◌, ℕ, Bool, true, false, List, Ok, Err, Result, refl, ap, ◌∙◌}
use Rattle.std.proofs.lemmas.Bool.{and_parts, and_from}
use Rattle.tokens.specs.declared.refusal.Fault.{Fault}
use Rattle.language.specs.Reading.{◌then◌}
use Rattle.grades.specs.declared.algebra.Algebra.{Ghosts}
use Rattle.grades.specs.Laws.{Laws}
use Rattle.grammar.specs.Syntax.{Ty, num, to}
use Rattle.grammar.proofs.Beginnings.{absurd_ok, then_ok, ok_same}
use Rattle.typing.specs.Usages.{sum}
use Rattle.typing.specs.Judging.{Judgement, number, function, unless, same_grade, same_type, both, answer}

pub unless_from : {Y : Type 0} (b : Bool) (f : Fault) (r : Result Y Fault) (y : Y) → (unless b f then λ _. r) ≡ Ok y → (b ≡ true) × (r ≡ Ok y)
unless_from true f r y e = (refl, e)
unless_from false f r y e = absurd_ok e

module _ {G Y : Type 0} where
  pub number_from : (place : ℕ) (r : Result (Judgement G) Fault) (k : List G → Result Y Fault) (y : Y) →
      (r then number place then k) ≡ Ok y → (u : List G) × (r ≡ Ok (num, u)) × (k u ≡ Ok y)
  number_from place (Ok (num, u)) k y e = (u, refl, e)
  number_from place (Ok (to g A B, u)) k y e = absurd_ok e
  number_from place (Err f) k y e = absurd_ok e

  pub function_from : (place : ℕ) (F : Ty G) (k : G × Ty G × Ty G → Result Y Fault) (y : Y) →
      (function place F then k) ≡ Ok y → (x : G × Ty G × Ty G) × (F ≡ to x.0 x.1 x.2) × (k x ≡ Ok y)
  function_from place num k y e = absurd_ok e
  function_from place (to g A B) k y e = ((g, A, B), refl, e)

module _ {G : Type 0} (a : Ghosts G) where
  -- two numbers, with their usages
  pub both_from : {Y : Type 0} (p q : ℕ) (r s : Result (Judgement G) Fault) (k : List G → Result Y Fault) (y : Y) →
      (both a (r then number p) (s then number q) then k) ≡ Ok y → (u v : List G) × (r ≡ Ok (num, u)) × (s ≡ Ok (num, v)) × (k (sum a u v) ≡ Ok y)
  both_from p q r s k y e =
      let b = then_ok _ _ _ e in
      let x = number_from p r _ _ b.1 in
      let z = number_from q s _ _ x.2 in
      (x.0, z.0, x.1, z.1, ap k (ok_same _ _ z.2) ∙ b.2)

  pub answer_from : {Y : Type 0} (place : ℕ) (A : Ty G) (r : Result Y Fault) (y : Y) → (answer a place A then λ _. r) ≡ Ok y → (A ≡ num) × (r ≡ Ok y)
  answer_from place num r y e = (refl, e)
  answer_from place (to g A B) r y e = absurd_ok e

  module _ (laws : Laws a.nil a.unit a.plus a.times a.lub a.permits a.taking) where
    grade_same : (p q : G) → same_grade a p q ≡ true → p ≡ q
    grade_same p q e = let h = and_parts _ _ e in laws.covers_antisym p q h.0 h.1

    pub type_same : (A B : Ty G) → same_type a A B ≡ true → A ≡ B
    type_same num num e = refl
    type_same num (to h C D) e = cc
    type_same (to g A B) num e = cc
    type_same (to g A B) (to h C D) e =
        let x = and_parts _ _ e in
        let y = and_parts _ _ x.1 in
        let p = grade_same g h x.0 in
        let q = type_same A C y.0 in
        let r = type_same B D y.1 in
        cc

    pub same_type_refl : (A : Ty G) → same_type a A A ≡ true
    same_type_refl num = refl
    same_type_refl (to g A B) =
        let p = laws.covers_refl g in
        and_from _ _ (and_from _ _ p p) (and_from _ _ (same_type_refl A) (same_type_refl B))
