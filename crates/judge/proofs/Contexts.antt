-- What a context's types, and the usages over it, are for names, numbers and inner terms. Assumes nothing.
use Rattle.std.proofs.Common.{◌≡◌, ℕ, zero, suc, ◌+◌, ◌<◌, ◌≤◌, true, ◌≢◌, List, [], ◌∷◌, ◌++◌, map, length, get_or, set, replicate, Some, refl, ap, ◌∙◌, arith}
use Rattle.std.proofs.lemmas.List.{get_or-set_same, get_or-set_other, get_or-replicate, length-replicate}
use Rattle.language.specs.declared.program.SimpleType.{SimpleType}
use Rattle.language.specs.declared.program.SimpleType.TheVariants.{Num}
use Rattle.language.specs.Tables.{type_sound}
use Rattle.grades.specs.declared.algebra.Algebra.{Ghosts}
use Rattle.grammar.specs.Syntax.{Ty}
use Rattle.typing.specs.Usages.{unused, once}
use Rattle.typing.specs.Derivations.{type_of}
use Rattle.judge.specs.Newest.{newest}
use Rattle.judge.specs.Meaning.{type_in}
use Rattle.judge.proofs.Newest.{newest-set}
use Rattle.judge.proofs.TypeMeaning.{type_kept}

module _ {G X : Type 0} (f : X → Ty G) (d : X) where
  -- the type of a name, k binders outwards
  pub name_typed : (context : List X) (k : ℕ) → k < length context → type_of (map f context) k ≡ Some (f (get_or context k d))
  name_typed [] k h = absurd (omega arith)
  name_typed (x ∷ context) zero h = refl
  name_typed (x ∷ context) (suc k) h = name_typed context k (omega arith)

module _ {G X : Type 0} (a : Ghosts G) (f : X → Ty G) where
  -- no binder is used
  pub none_used : (context : List X) → length context ≤ 32 → newest a.nil (replicate 32 a.nil) (length context) ≡ unused a (map f context)
  none_used [] h = refl
  none_used (x ∷ context) h =
      let head = get_or-replicate 32 (length context) a.nil a.nil (omega arith) in
      let tail = none_used context (omega arith) in
      λ k. head k ∷ tail k

  -- one is used, k binders outwards
  pub one_used : (context : List X) (k i : ℕ) → i + suc k ≡ length context → length context ≤ 32 → newest a.nil (set (replicate 32 a.nil) i a.unit) (length context) ≡ once a (map f context) k
  one_used [] k i e h = absurd (omega arith)
  one_used (x ∷ context) zero i e h =
      let n = length context in
      let here : i ≡ n = omega arith in
      let long = length-replicate 32 a.nil in
      let head = ap (λ j. get_or (set (replicate 32 a.nil) j a.unit) n a.nil) here ∙ get_or-set_same (replicate 32 a.nil) n a.unit a.nil (omega arith) in
      let tail = newest-set a.nil (replicate 32 a.nil) i a.unit n (omega arith) ∙ none_used context (omega arith) in
      λ k. head k ∷ tail k
  one_used (x ∷ context) (suc k) i e h =
      let n = length context in
      let apart : n ≢ i = omega arith in
      let head = get_or-set_other (replicate 32 a.nil) i n a.unit a.nil apart ∙ get_or-replicate 32 n a.nil a.nil (omega arith) in
      let tail = one_used context k i (omega arith) (omega arith) in
      λ j. head j ∷ tail j

-- a context stands for the same in a longer table of types
module _ {G : Type 0} (nil : G) (list : List G) (types more : List SimpleType) where
  pub context_longer : (context : List SimpleType) → ((i : ℕ) → i < length context → type_sound 256 (length types) (get_or context i Num) ≡ true) → map (type_in nil list (types ++ more)) context ≡ map (type_in nil list types) context
  context_longer [] s = refl
  context_longer (x ∷ context) s =
      let head = type_kept nil list types more x (s 0 (omega arith)) in
      let tail = context_longer context (λ i below. s (suc i) (omega arith)) in
      λ k. head k ∷ tail k
