-- What the parts of a term are ready for, and how the table of types grows over them. Assumes nothing.
use Rattle.std.proofs.Common.{◌≡◌, ℕ, zero, suc, ◌+◌, ◌<◌, ◌≤◌, true, ◌&&◌, ltb, List, [], ◌∷◌, ◌++◌, map, length, get_or, sym, refl, ap, ◌∙◌, append_assoc, append-nil, arith}
use Rattle.std.proofs.lemmas.List.{length-append, length_push, get_or_append_left}
use Rattle.std.proofs.lemmas.Bool.{and_parts, and_from, lt-ltb, ltb-true}
use Rattle.language.specs.declared.program.SimpleType.{SimpleType}
use Rattle.language.specs.declared.program.SimpleType.TheVariants.{Num, To}
use Rattle.language.specs.Tables.{type_sound}
use Rattle.grammar.specs.Syntax.{Label, Ty, num, Tm, fn}
use Rattle.grammar.specs.Closing.{needed, nesting, functions}
use Rattle.grammar.specs.Recovering.{types_in}
use Rattle.grammar.proofs.Entries.{types_older}
use Rattle.judge.specs.declared.graded.GradedRule.{GradedRule}
use Rattle.judge.specs.declared.table.TypeTable.{TypeTable}
use Rattle.judge.specs.Meaning.{type_in}
use Rattle.judge.specs.Progress.{Ready, Grown, context_types}
use Rattle.judge.proofs.TypeMeaning.{type_there}
use Rattle.judge.proofs.Contexts.{context_longer}

-- what is sound is so in a longer table, and with more grades
pub sound_wider : (g h n m : ℕ) (t : SimpleType) → g ≤ h → n ≤ m → type_sound g n t ≡ true → type_sound h m t ≡ true
sound_wider g h n m Num grades types s = refl
sound_wider g h n m (To grade from result) grades types s =
    let p = and_parts (ltb grade g) (ltb from n && ltb result n) s in
    let q = and_parts (ltb from n) (ltb result n) p.1 in
    and_from _ _ (lt-ltb grade h (omega (arith, ltb-true grade g p.0))) (and_from _ _ (lt-ltb from m (omega (arith, ltb-true from n q.0))) (lt-ltb result m (omega (arith, ltb-true result n q.1))))

-- growing by nothing, and further
pub grown_none : (types : TypeTable) → Grown 0 types types
grown_none types = record { added = []; is = sym (append-nil types.types.items); few = omega arith }

pub grown_on : {m n : ℕ} {types more most : TypeTable} → Grown m types more → Grown n more most → Grown (m + n) types most
grown_on {m} {n} {types} {more} {most} g h = record {
  added = g.added ++ h.added;
  is = h.is ∙ ap (λ l. l ++ h.added) g.is ∙ append_assoc types.types.items g.added h.added;
  few = omega (arith, g.few, h.few);
}

pub grown_within : {m n : ℕ} {types more : TypeTable} → m ≤ n → Grown m types more → Grown n types more
grown_within le g = record { added = g.added; is = g.is; few = omega (arith, g.few) }

pub grown_push : (types : TypeTable) {more : TypeTable} (t : SimpleType) → more.types.items ≡ types.types.items ++ (t ∷ []) → Grown 1 types more
grown_push types t e = record { added = t ∷ []; is = e; few = omega (arith, ap length e, length_push types.types.items t) }

pub grown_longer : {m : ℕ} {types more : TypeTable} → Grown m types more → length types.types.items ≤ length more.types.items
grown_longer {types = types} g = omega (arith, ap length g.is, length-append types.types.items g.added)

module _ {G : Type 0} {p : GradedRule G} {c : List SimpleType} {u : Tm G} where
  -- a part of the term, once the parts before it are judged
  pub ready_next : {m : ℕ} {types more : TypeTable} → Ready p c types u → Grown m types more → (v : Tm G) → needed v ≤ needed u → nesting v ≤ nesting u → m + functions v ≤ functions u → Ready p c more v
  ready_next {m} {types} {more} r g v names levels room = record {
    added = r.added ++ g.added;
    begins = g.is ∙ ap (λ l. l ++ g.added) r.begins ∙ append_assoc p.rule.now.program.types.items r.added g.added;
    sound = r.sound;
    names = omega (arith, r.names);
    levels = omega (arith, r.levels);
    room = omega (arith, r.room, g.few);
  }

  -- the program's types are the first of the table
  pub declared_first : {types : TypeTable} → Ready p c types u → length p.rule.now.program.types.items ≤ length types.types.items
  declared_first r = omega (arith, ap length r.begins, length-append p.rule.now.program.types.items r.added)

  -- the context stands for the same after some parts
  pub context_kept : (nil : G) {m : ℕ} {types more : TypeTable} → Ready p c types u → Grown m types more → context_types nil p.grades.now more.types.items c ≡ context_types nil p.grades.now types.types.items c
  context_kept nil {types = types} r g =
      ap (λ l. map (type_in nil p.grades.now l) c) g.is
      ∙ context_longer nil p.grades.now types.types.items g.added c (λ i below. sound_wider 256 256 (length p.rule.now.program.types.items) (length types.types.items) (get_or c i Num) (omega arith) (declared_first r) (r.sound i below))

-- the body of a function, in the context with its parameter
module _ {G : Type 0} {p : GradedRule G} {types : TypeTable} {c : List SimpleType} {place : ℕ} {n : Label} {g : G} {A : Ty G} {b : Tm G} (domain : ℕ) (below : domain < length p.rule.now.program.types.items) (s : SimpleType) (is : s ≡ get_or p.rule.now.program.types.items domain Num) (ready : Ready p c types (fn place n g A b)) where
  pub ready_inside : Ready p (s ∷ c) types b
  ready_inside = record {
    added = ready.added;
    begins = ready.begins;
    sound = at;
    names = omega (arith, ready.names);
    levels = omega (arith, ready.levels);
    room = omega (arith, ready.room);
  }
    where
      at : (j : ℕ) → j < length (s ∷ c) → type_sound 256 (length p.rule.now.program.types.items) (get_or (s ∷ c) j Num) ≡ true
      at zero h = ap (type_sound 256 (length p.rule.now.program.types.items)) is ∙ sound_wider p.rule.now.program.grades 256 domain (length p.rule.now.program.types.items) (get_or p.rule.now.program.types.items domain Num) p.rule.now.program.few_grades (omega arith) (p.rule.now.program.types_sound domain below)
      at (suc j) h = ready.sound j (omega arith)

  -- its types are the parameter's and those of the context
  pub context_inside : (nil : G) → context_types nil p.grades.now types.types.items (s ∷ c) ≡ get_or (types_in nil [] p.grades.now p.rule.now.program.types.items) domain num ∷ context_types nil p.grades.now types.types.items c
  context_inside nil =
      let list = p.grades.now in
      let declared = p.rule.now.program.types.items in
      let first = declared_first ready in
      let there : get_or types.types.items domain Num ≡ s = ap (λ l. get_or l domain Num) ready.begins ∙ get_or_append_left declared ready.added Num domain below ∙ sym is in
      let head = ap (type_in nil list types.types.items) (sym there) ∙ sym (type_there nil list types.types.items domain types.sound (omega arith)) ∙ ap (λ l. get_or (types_in nil [] list l) domain num) ready.begins ∙ types_older nil [] list declared ready.added domain below in
      ap (λ x. x ∷ context_types nil list types.types.items c) head
