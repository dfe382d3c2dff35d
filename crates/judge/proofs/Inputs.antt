-- The inputs of a rule, tested one after the other, and their usages. Assumes nothing.
use Rattle.std.proofs.Common.{◌≡◌, ℕ, zero, suc, ◌+◌, ◌<◌, ◌≤◌, Bool, true, false, List, [], ◌∷◌, ◌++◌, reverse, length, get_or, take, drop, Err, Result, sym, refl, ap, ◌∙◌, arith}
use Rattle.std.proofs.lemmas.List.{drop_more, length-take-le, get_or-take, take_more, reverse-append}
use Rattle.tokens.specs.declared.refusal.Fault.{Fault}
use Rattle.tokens.specs.declared.refusal.Refusal.TheVariants.{NotCovered}
use Rattle.tokens.specs.Tokens.{fault}
use Rattle.language.specs.declared.program.Binder.{Binder}
use Rattle.language.specs.Tables.{no_binder}
use Rattle.language.specs.Reading.{Tables, ◌then◌}
use Rattle.grades.specs.declared.algebra.Algebra.{Ghosts}
use Rattle.grammar.specs.Syntax.{Rule, run}
use Rattle.grammar.specs.Recovering.{terms_in, last_of, inputs_in}
use Rattle.typing.specs.Judging.{unless, inputs_covered}
use Rattle.judge.specs.Newest.{newest}

-- the first entries in their order
pub newest_reversed : {X : Type 0} (d : X) (xs : List X) (n : ℕ) → n ≤ length xs → reverse (newest d xs n) ≡ take n xs
newest_reversed d xs zero h = refl
newest_reversed d xs (suc n) h =
    let one_more : n + 1 ≡ suc n = omega arith in
    reverse-append (get_or xs n d ∷ []) (newest d xs n) ∙ ap (λ l. l ++ (get_or xs n d ∷ [])) (newest_reversed d xs n (omega arith)) ∙ sym (take_more xs n d (omega arith)) ∙ ap (λ k. take k xs) one_more

module _ {G : Type 0} (a : Ghosts G) (t : Tables) (list : List G) where
  -- the rule with its inputs from a number on
  abbrev pub inputs_from : ℕ → Rule G
  inputs_from i = inputs_in a.nil [] list (drop i (take t.inputs t.binders)) (run (last_of a.nil [] list (terms_in a.nil [] list t.binders t.types t.nodes)))

  module _ (us : List G) (declared : t.inputs ≤ length t.binders) (long : length us ≡ t.inputs) (i : ℕ) where
    abbrev rest : ℕ → Result (Unit {0}) Fault
    rest k = inputs_covered a (inputs_from k) (drop k us)

    -- the input number i, and those behind it
    pub next_input : (b : Binder) (p : G) → i < t.inputs → b ≡ get_or t.binders i no_binder → p ≡ get_or us i p → rest i ≡ (unless (a.permits (get_or list b.grade a.nil) p) (fault NotCovered b.place) then λ _. rest (i + 1))
    next_input b p below is read =
        let front = take t.inputs t.binders in
        let many : length front ≡ t.inputs = length-take-le t.inputs t.binders declared in
        let here : get_or front i no_binder ≡ b = get_or-take t.inputs t.binders i no_binder below ∙ sym is in
        let final = run (last_of a.nil [] list (terms_in a.nil [] list t.binders t.types t.nodes)) in
        ap (λ l. inputs_covered a (inputs_in a.nil [] list l final) (drop i us)) (drop_more front i no_binder (omega arith) ∙ ap (λ x. x ∷ drop (i + 1) front) here)
        ∙ ap (inputs_covered a (inputs_in a.nil [] list (b ∷ drop (i + 1) front) final)) (drop_more us i p (omega arith) ∙ ap (λ x. x ∷ drop (i + 1) us) (sym read))

    -- the input is covered or not, where b, g and p are its binder, its grade and its usage as they are read
    module _ (b : Binder) (g p : G) {r : Bool} (below : i < length us) (is : b ≡ get_or t.binders i no_binder) (is-grade : g ≡ get_or list b.grade a.nil) (read : p ≡ get_or us i p) (tested : r ≡ a.permits g p) where
      decided : rest i ≡ (unless r (fault NotCovered b.place) then λ _. rest (i + 1))
      decided =
          next_input b p (omega arith) is read
          ∙ ap (λ x. unless x (fault NotCovered b.place) then λ _. rest (i + 1)) (sym (tested ∙ ap (λ h. a.permits h p) is-grade))

      pub covered : r ≡ true → rest i ≡ rest (i + 1)
      covered yes' = decided ∙ ap (λ x. unless x (fault NotCovered b.place) then λ _. rest (i + 1)) yes'

      pub not_covered : r ≡ false → rest i ≡ Err (fault NotCovered b.place)
      not_covered no' = decided ∙ ap (λ x. unless x (fault NotCovered b.place) then λ _. rest (i + 1)) no'
