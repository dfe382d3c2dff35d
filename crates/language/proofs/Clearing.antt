-- Lists of grades that are filled with zeros. Assumes nothing.
use Rattle.std.proofs.Common.{◌≡◌, List, [], ◌∷◌, ◌++◌, length, replicate, sym, refl, ap, ◌∙◌}
use Rattle.std.specs.List.{FoldsTo}
use Rattle.std.proofs.lemmas.Fn.{chained_keeps}
use Rattle.std.proofs.lemmas.List.{length_push, replicate_more}

-- a list that is filled by a closure which always gives the same value
pub filled : {F X : Type 0} (R : F → X → F → Type 0) (x : X) → ((p : F) (y : X) (q : F) → R p y q → y ≡ x) → (xs : List X) (p q : F) → FoldsTo R p xs q → xs ≡ replicate (length xs) x
filled R x same xs p q folds =
    chained_keeps R (λ ys _. ys ≡ replicate (length ys) x)
    (λ ys s y t h r. ap (λ l. l ++ (y ∷ [])) h ∙ ap (λ z. replicate (length ys) x ++ (z ∷ [])) (same s y t r) ∙ replicate_more (length ys) x ∙ ap (λ n. replicate n x) (sym (length_push ys y)))
    xs p q refl folds
