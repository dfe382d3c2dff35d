-- What a reading answers, and texts without `}`.
use Rattle.std.specs.Prelude.{◌≡◌, ℕ, Bool, true, not, ◌&&◌, List, [], ◌∷◌, Some, Option, ◌==◌, ◌≢◌, refl}
use Rattle.std.proofs.Common.{ap}
use Rattle.std.specs.List.{AllByRecursion}
use Rattle.std.proofs.lemmas.Bool.Decides.{Decides-eqb, Decides-not}
use Rattle.std.proofs.ByRecursion.{Decides-by_and}
use Rattle.grades.specs.Texts.{brace}

-- two answers that are equal have the same grade and length
pub same_answer : {G : Type 0} (p q : G) (m n : ℕ) → ◌≡◌ {A = Option (G × ℕ)} (Some (p, m)) (Some (q, n)) → (p ≡ q) × (m ≡ n)
same_answer {G} p q m n e =
    let pair : ◌≡◌ {A = G × ℕ} (p, m) (q, n) = cc in (ap (λ x. x.0) pair, ap (λ x. x.1) pair)

-- no byte is `}`, as a test that computes
abbrev pub unbraced : List ℕ → Bool
unbraced [] = true
unbraced (b ∷ bs) = not (b == brace) && unbraced bs

pub no_brace_from : (bs : List ℕ) → unbraced bs ≡ true → AllByRecursion (λ b. b ≢ brace) bs
no_brace_from bs =
    (Decides-by_and (λ b. not (b == brace)) (λ b. b ≢ brace) unbraced (λ b. Decides-not (b == brace) (Decides-eqb b brace)) refl (λ _ _. refl) bs).0
