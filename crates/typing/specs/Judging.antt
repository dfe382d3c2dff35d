-- Judging a rule: the least usages of its inputs, or the first fault. Parts go from left to right, then the term; each
-- condition is tested as soon as its types or usages are known. Assumes nothing.
use Rattle.std.specs.Prelude.{ℕ, Bool, true, false, ◌&&◌, List, [], ◌∷◌, reverse, Some, None, Ok, Err, Option, Result}
use Rattle.tokens.specs.declared.refusal.Fault.{Fault}
use Rattle.tokens.specs.declared.refusal.Refusal.TheVariants.{NotOpen, WrongType, TypesDiffer, NotCovered, AnswerNotNum}
use Rattle.tokens.specs.Tokens.{fault}
use Rattle.language.specs.declared.heads.Binary.TheVariants.{Call, Add, Sub}
use Rattle.language.specs.Reading.{◌then◌}
use Rattle.grades.specs.declared.algebra.Algebra.{Ghosts}
use Rattle.grammar.specs.Syntax.{Label, Ty, num, to, Tm, name, literal, fn, binary, half, less, Rule, input, run, run_of}
use Rattle.grammar.specs.Storing.{place_of}
use Rattle.typing.specs.Usages.{unused, once, sum, join, product}
use Rattle.typing.specs.Derivations.{type_of, input_types}

-- a type with a usage
abbrev pub Judgement : Type 0 → Type 0
Judgement G = Ty G × List G

-- the usage of a number; the term at the place has to be one
abbrev pub number : {G : Type 0} → ℕ → Judgement G → Result (List G) Fault
number place (num, u) = Ok u
number place (to g A B, u) = Err (fault WrongType place)

-- the grade, the domain and the result of a function; the term at the place has to be one
abbrev pub function : {G : Type 0} → ℕ → Ty G → Result (G × Ty G × Ty G) Fault
function place num = Err (fault WrongType place)
function place (to g A B) = Ok (g, A, B)

-- a name that is not open is refused when the rule is read
abbrev pub named : {G : Type 0} → ℕ → Option (Ty G) → List G → Result (Judgement G) Fault
named place None u = Err (fault NotOpen place)
named place (Some A) u = Ok (A, u)

-- a condition that holds, or the fault
abbrev pub unless : Bool → Fault → Result (Unit {0}) Fault
unless true f = Ok tt
unless false f = Err f

module _ {G : Type 0} (a : Ghosts G) where
  -- two grades are the same where each covers the other
  abbrev pub same_grade : G → G → Bool
  same_grade p q = a.permits p q && a.permits q p

  abbrev pub same_type : Ty G → Ty G → Bool
  same_type num num = true
  same_type num (to h C D) = false
  same_type (to g A B) num = false
  same_type (to g A B) (to h C D) = same_grade g h && (same_type A C && same_type B D)

  -- the usages of two parts, the left one first
  abbrev pub both : Result (List G) Fault → Result (List G) Fault → Result (List G) Fault
  both left right = left then λ u. right then λ v. Ok (sum a u v)

  -- a function, whose body has the type B, once its binder is tested
  abbrev pub bound : Label → G → Ty G → Ty G → List G → Result (Judgement G) Fault
  bound n g A B [] = Ok (to g A B, [])
  bound n g A B (p ∷ u) = unless (a.permits g p) (fault NotCovered n.place) then λ _. Ok (to g A B, u)

  abbrev pub judged : List (Ty G) → Tm G → Result (Judgement G) Fault
  judged context (name place k) = named place (type_of context k) (once a context k)
  judged context (literal place z) = Ok (num, unused a context)
  judged context (fn place n g A t) = judged (A ∷ context) t then λ (B, u). bound n g A B u
  judged context (binary place Call s t) =
      judged context s then λ (F, u).
      function (place_of s) F then λ (g, A, B).
      judged context t then λ (C, v).
      unless (same_type C A) (fault TypesDiffer (place_of t)) then λ _.
      Ok (B, sum a u (product a g v))
  judged context (binary place Add s t) = both (judged context s then number (place_of s)) (judged context t then number (place_of t)) then λ u. Ok (num, u)
  judged context (binary place Sub s t) = both (judged context s then number (place_of s)) (judged context t then number (place_of t)) then λ u. Ok (num, u)
  judged context (half place t) = judged context t then number (place_of t) then λ u. Ok (num, u)
  judged context (less place s t x y) =
      both (judged context s then number (place_of s)) (judged context t then number (place_of t)) then λ u.
      judged context x then λ (C, v).
      judged context y then λ (D, w).
      unless (same_type D C) (fault TypesDiffer (place_of y)) then λ _.
      Ok (C, sum a u (join a v w))

  -- each input's declared grade covers its usage, in the order of the inputs
  abbrev pub inputs_covered : Rule G → List G → Result (Unit {0}) Fault
  inputs_covered (run t) us = Ok tt
  inputs_covered (input n g r) [] = Ok tt
  inputs_covered (input n g r) (p ∷ us) = unless (a.permits g p) (fault NotCovered n.place) then λ _. inputs_covered r us

  -- the answer has to be a number
  abbrev pub answer : ℕ → Ty G → Result (Unit {0}) Fault
  answer place num = Ok tt
  answer place (to g A B) = Err (fault AnswerNotNum place)

  -- the usages of the inputs in their order
  abbrev pub rule_judged : Rule G → Result (List G) Fault
  rule_judged r =
      judged (input_types r) (run_of r) then λ (A, u).
      answer (place_of (run_of r)) A then λ _.
      inputs_covered r (reverse u) then λ _.
      Ok (reverse u)
