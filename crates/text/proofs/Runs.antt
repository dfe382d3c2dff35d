-- Where a run of bytes of a class ends.
use Rattle.std.proofs.Common.{◌≡◌, ℕ, Bool, true, false, List, [], ◌∷◌, ◌++◌, length, refl, ◌∙◌, arith}
use Rattle.std.proofs.lemmas.Bool.{cond-true, cond-false, and_parts}
use Rattle.std.specs.Char.{is_ascii_digit}
use Rattle.std.specs.List.{AllByRecursion, prefix_len}
use Rattle.std.specs.Str.{all_ascii_digits}
use Rattle.text.specs.declared.scan.Class.TheVariants.{Digit}
use Rattle.text.specs.Scan.{in_class}

-- no byte that passes stands first
abbrev pub Halts : (ℕ → Bool) → List ℕ → Type 0
Halts p [] = Unit {0}
Halts p (b ∷ bs) = p b ≡ false

-- a run that the rest of a text does not go on with
pub front_exact : (p : ℕ → Bool) (ds rest : List ℕ) → AllByRecursion (λ b. p b ≡ true) ds → Halts p rest → prefix_len p (ds ++ rest) ≡ length ds
front_exact p [] [] a h = refl
front_exact p [] (b ∷ bs) a h = cond-false _ _ _ h
front_exact p (d ∷ ds) rest a h = let e = front_exact p ds rest a.1 h in cond-true _ _ _ a.0 ∙ omega arith

pub digits_pass : (ds : List ℕ) → all_ascii_digits ds ≡ true → AllByRecursion (λ b. in_class Digit b ≡ true) ds
digits_pass [] t = tt
digits_pass (d ∷ ds) t = let b = and_parts (is_ascii_digit d) (all_ascii_digits ds) t in (b.0, digits_pass ds b.1)
