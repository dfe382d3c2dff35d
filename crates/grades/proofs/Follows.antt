-- What follows from the laws of an algebra.
use Rattle.std.proofs.Common.{◌≡◌, Bool, None, Option, sym, ap, ◌∙◌}
use Rattle.std.proofs.lemmas.Bool.{true≢false}
use Rattle.grades.specs.Laws.{Laws, left_covers}

module _ {G : Type 0} {zero one : G} {sum product join : G → G → G} {covers : G → G → Bool} {taking : G → Option G} (laws : Laws zero one sum product join covers taking) where
  -- one covers one + zero, so something is left of one
  pub one_taken : taking one ≡ None → ⊥
  one_taken e =
      true≢false (sym (laws.covers_refl one) ∙ ap (covers one) (sym (laws.sum_comm one zero ∙ laws.sum_zero one)) ∙ laws.taking_covers one zero ∙ ap (λ o. left_covers covers o zero) e)

  pub zero_not_one : zero ≡ one → ⊥
  zero_not_one e = one_taken (ap taking (sym e) ∙ laws.taking_zero)
