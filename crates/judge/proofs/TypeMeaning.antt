-- What types stand for in a table, and when two of them are the same. Assumes nothing.
use Rattle.std.proofs.Common.{◌≡◌, ℕ, ◌<◌, Bool, true, false, ◌&&◌, ltb, List, [], ◌++◌, length, get_or, Decides, sym, refl, ap, ◌∙◌}
use Rattle.std.proofs.lemmas.Bool.{and_parts, ltb-true}
use Rattle.language.specs.declared.program.SimpleType.{SimpleType}
use Rattle.language.specs.declared.program.SimpleType.TheVariants.{Num, To}
use Rattle.language.specs.Tables.{type_sound, TypesSound}
use Rattle.grades.specs.declared.algebra.Algebra.{Ghosts}
use Rattle.grades.specs.Laws.{Laws}
use Rattle.grammar.specs.Syntax.{Ty, num, to}
use Rattle.grammar.specs.Recovering.{types_in}
use Rattle.grammar.proofs.Entries.{type_entry_at, types_older}
use Rattle.typing.specs.Judging.{same_grade, same_type}
use Rattle.judge.specs.Meaning.{type_in}

-- what a function type refers to is in its table
pub record ArrowSound (n : ℕ) (grade from result : ℕ) : Type 0 where
  pub grade_there : grade < 256
  pub from_there : from < n
  pub to_there : result < n

pub arrow_sound : (n grade from result : ℕ) → type_sound 256 n (To grade from result) ≡ true → ArrowSound n grade from result
arrow_sound n grade from result s =
    let p = and_parts (ltb grade 256) (ltb from n && ltb result n) s in
    let q = and_parts (ltb from n) (ltb result n) p.1 in
    record { grade_there = ltb-true grade 256 p.0; from_there = ltb-true from n q.0; to_there = ltb-true result n q.1 }

module _ {G : Type 0} (nil : G) (list : List G) where
  -- what stands at a place of the table
  pub type_there : (types : List SimpleType) (i : ℕ) → TypesSound 256 types → i < length types → get_or (types_in nil [] list types) i num ≡ type_in nil list types (get_or types i Num)
  type_there types i s h = type_entry_at nil [] list 256 types i s h

  -- a type stands for the same in a longer table
  pub type_kept : (types more : List SimpleType) (t : SimpleType) → type_sound 256 (length types) t ≡ true → type_in nil list (types ++ more) t ≡ type_in nil list types t
  type_kept types more Num s = refl
  type_kept types more (To grade from to') s =
      let o = arrow_sound (length types) grade from to' s in
      let a = types_older nil [] list types more from o.from_there in
      let b = types_older nil [] list types more to' o.to_there in
      λ k. to (get_or list grade nil) (a k) (b k)

module _ {G : Type 0} (a : Ghosts G) (laws : Laws a.nil a.unit a.plus a.times a.lub a.permits a.taking) where
  both_cover : (p q : G) → p ≡ q → same_grade a p q ≡ true
  both_cover p q e = ap (λ r. same_grade a p r) (sym e) ∙ (λ k. laws.covers_refl p k && laws.covers_refl p k)

  -- a test that decides whether two grades are the same
  pub grade_decided : (r : Bool) (p q : G) → Decides r (p ≡ q) → r ≡ same_grade a p q
  grade_decided true p q d = sym (both_cover p q (d.0 refl))
  grade_decided false p q d = not_both (same_grade a p q) refl
    where
      not_both : (b : Bool) → same_grade a p q ≡ b → false ≡ same_grade a p q
      not_both true e = let o = and_parts (a.permits p q) (a.permits q p) e in d.1 (laws.covers_antisym p q o.0 o.1) ∙ sym e
      not_both false e = sym e

  -- two function types are the same where their grades, domains and results are
  module _ (list : List G) (types : List SimpleType) (sound : TypesSound 256 types) where
    abbrev meant : SimpleType → Ty G
    meant = type_in a.nil list types

    abbrev meant_at : ℕ → Ty G
    meant_at i = meant (get_or types i Num)

    pub same_arrows : (l r : SimpleType) {g h A B C D : ℕ} → l ≡ To g A B → r ≡ To h C D → type_sound 256 (length types) l ≡ true → type_sound 256 (length types) r ≡ true → same_type a (meant l) (meant r) ≡ (same_grade a (get_or list g a.nil) (get_or list h a.nil) && (same_type a (meant_at A) (meant_at C) && same_type a (meant_at B) (meant_at D)))
    same_arrows l r {g} {h} {A} {B} {C} {D} is is' s s' =
        let o = arrow_sound (length types) g A B (ap (type_sound 256 (length types)) (sym is) ∙ s) in
        let o' = arrow_sound (length types) h C D (ap (type_sound 256 (length types)) (sym is') ∙ s') in
        let there = λ (i : ℕ) (below : i < length types). type_there a.nil list types i sound below in
        (λ k. same_type a (meant (is k)) (meant (is' k)))
        ∙ (λ k. same_grade a (get_or list g a.nil) (get_or list h a.nil) && (same_type a (there A o.from_there k) (there C o'.from_there k) && same_type a (there B o.to_there k) (there D o'.to_there k)))

    -- two function types, by the test b of their grades
    pub arrows_tested : (l r : SimpleType) {g h A B C D : ℕ} → l ≡ To g A B → r ≡ To h C D → type_sound 256 (length types) l ≡ true → type_sound 256 (length types) r ≡ true → (p q : G) (b : Bool) → p ≡ get_or list g a.nil → q ≡ get_or list h a.nil → Decides b (p ≡ q) → (b && (same_type a (meant_at A) (meant_at C) && same_type a (meant_at B) (meant_at D))) ≡ same_type a (meant l) (meant r)
    arrows_tested l r {g} {h} {A} {B} {C} {D} is is' s s' p q b left right decides =
        let tested = grade_decided b p q decides ∙ (λ k. same_grade a (left k) (right k)) in
        ap (λ x. x && (same_type a (meant_at A) (meant_at C) && same_type a (meant_at B) (meant_at D))) tested ∙ sym (same_arrows l r is is' s s')

    -- two types of the table, by the test of what was read of it
    pub parts_tested : (A C : ℕ) {b : Bool} {x y : SimpleType} → x ≡ get_or types A Num → y ≡ get_or types C Num → b ≡ same_type a (meant x) (meant y) → b ≡ same_type a (meant_at A) (meant_at C)
    parts_tested A C left right tested = tested ∙ (λ k. same_type a (meant (left k)) (meant (right k)))

-- the tests of three parts: the last one decides, or one of the others
pub last_decides : (b d r x y : Bool) → b ≡ true → d ≡ true → d ≡ x → r ≡ y → r ≡ (b && (x && y))
last_decides b d r x y first second is last = last ∙ sym (λ k. first k && ((sym is ∙ second) k && y))

pub second_decides : (b d x y : Bool) → b ≡ true → d ≡ false → d ≡ x → d ≡ (b && (x && y))
second_decides b d x y first second is = second ∙ sym (λ k. first k && ((sym is ∙ second) k && y))

pub first_decides : (b r : Bool) → b ≡ false → b ≡ (b && r)
first_decides b r first = first ∙ sym (ap (λ x. x && r) first)
