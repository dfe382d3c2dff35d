-- The exits of judging: a refusal, or the judgement of a term whose parts are judged. Assumes nothing.
use Rattle.std.proofs.Common.{◌≡◌, ℕ, suc, ◌+◌, ◌-◌, ◌<◌, ◌≤◌, Bool, true, false, List, [], ◌∷◌, ◌++◌, length, get_or, set, replicate, ℤ, Ok, Err, Result, sym, refl, ap, ◌∙◌, subst, append_assoc, arith}
use Rattle.std.proofs.lemmas.List.{length_push, get_or_push}
use Rattle.std.proofs.lemmas.Bool.{and_from, lt-ltb}
use Rattle.tokens.specs.declared.refusal.Fault.{Fault}
use Rattle.tokens.specs.declared.refusal.Refusal.TheVariants.{TypesDiffer, NotCovered}
use Rattle.tokens.specs.Tokens.{fault}
use Rattle.language.specs.declared.program.Binder.{Binder}
use Rattle.language.specs.declared.program.SimpleType.{SimpleType}
use Rattle.language.specs.declared.program.SimpleType.TheVariants.{Num, To}
use Rattle.language.specs.declared.heads.Binary.TheVariants.{Call}
use Rattle.language.specs.Tables.{type_sound}
use Rattle.language.specs.Reading.{◌then◌}
use Rattle.grades.specs.declared.algebra.Algebra.{Ghosts}
use Rattle.grammar.specs.Syntax.{Label, Ty, num, to, Tm, name, literal, fn, binary, less}
use Rattle.grammar.specs.Storing.{place_of}
use Rattle.grammar.specs.Closing.{functions}
use Rattle.grammar.specs.Recovering.{types_in}
use Rattle.grammar.proofs.Entries.{types_older}
use Rattle.typing.specs.Usages.{once, sum, product, join}
use Rattle.typing.specs.Judging.{judged, number, same_type, both, named}
use Rattle.judge.specs.declared.graded.GradedRule.{GradedRule}
use Rattle.judge.specs.declared.table.TypeTable.{TypeTable}
use Rattle.judge.specs.declared.usage.Usage.{Usage}
use Rattle.judge.specs.Newest.{newest}
use Rattle.judge.specs.Meaning.{type_in}
use Rattle.judge.specs.Progress.{Ready, Grown, Judges, Uses, number_judged, context_types, judgement_of, usage_of}
use Rattle.judge.proofs.TypeMeaning.{arrow_sound, type_there, type_kept}
use Rattle.judge.proofs.Contexts.{name_typed, one_used, none_used}
use Rattle.judge.proofs.Parts.{sound_wider, grown_none, grown_on, grown_within, grown_push, grown_longer, declared_first, context_kept}
use Rattle.judge.proofs.Chains.{both-judged, argument_fails, argument_differs, call_judged, body_fails, binder_fails, fn_judged, branch_fails, other_fails, branches_differ, less_judged}

module _ {G : Type 0} (a : Ghosts G) (p : GradedRule G) where
  abbrev list : List G
  list = p.grades.now

  abbrev meant : TypeTable → SimpleType → Ty G
  meant types s = type_in a.nil list types.types.items s

  -- what stands at a place of the table
  abbrev stored : TypeTable → ℕ → Ty G
  stored types i = get_or (types_in a.nil [] list types.types.items) i num

  -- the type of a function's parameter, which stands among the program's
  abbrev pub parameter : ℕ → Ty G
  parameter domain = get_or (types_in a.nil [] list p.rule.now.program.types.items) domain num

  -- what a type of the table stands for once the table has grown
  pub part_there : {m : ℕ} {types more : TypeTable} (i : ℕ) → Grown m types more → i < length types.types.items → meant more (get_or more.types.items i Num) ≡ stored types i
  part_there {types = types} {more = more} i grown below =
      sym (type_there a.nil list more.types.items i more.sound (omega (arith, grown_longer grown))) ∙ ap (λ l. get_or (types_in a.nil [] list l) i num) grown.is ∙ types_older a.nil [] list types.types.items grown.added i below

  pub type_later : {m : ℕ} {types more : TypeTable} (s : SimpleType) → Grown m types more → type_sound 256 (length types.types.items) s ≡ true → meant more s ≡ meant types s
  type_later {types = types} s grown sound = ap (λ l. type_in a.nil list l s) grown.is ∙ type_kept a.nil list types.types.items grown.added s sound

-- the test of a binder n, which was read as b, by the usage at its level
pub binder_tested : {G : Type 0} (a : Ghosts G) (list usage : List G) {b n : Binder} {level depth : ℕ} {grade used : G} {allowed : Bool} → b ≡ n → level ≡ depth → grade ≡ get_or list b.grade a.nil → used ≡ get_or usage level a.nil → allowed ≡ a.permits grade used → allowed ≡ a.permits (get_or list n.grade a.nil) (get_or usage depth a.nil)
binder_tested a list usage read here declared found tested =
    let by_grade = declared ∙ ap (λ binder. get_or list binder.grade a.nil) read in
    let by_usage = found ∙ ap (λ i. get_or usage i a.nil) here in
    tested ∙ (λ k. a.permits (by_grade k) (by_usage k))

module _ {G : Type 0} (a : Ghosts G) (p : GradedRule G) (c : List SimpleType) where
  -- what the context stands for, and the usages of its binders
  abbrev around : TypeTable → List (Ty G)
  around types = context_types a.nil p.grades.now types.types.items c

  abbrev used : Usage G → List G
  used v = newest a.nil v.grades (length c)

  -- the usages of so many binders, where these are those of the context
  abbrev pub used_to : ℕ → Usage G → List G
  used_to n v = newest a.nil v.grades n

  all_summed : {n : ℕ} (x y z : Usage G) → n ≡ length c → used_to n z ≡ sum a (used_to n x) (used_to n y) → used z ≡ sum a (used x) (used y)
  all_summed x y z many is = subst (λ m. used_to m z ≡ sum a (used_to m x) (used_to m y)) many is

  all_joined : {n : ℕ} (x y z : Usage G) → n ≡ length c → used_to n z ≡ join a (used_to n x) (used_to n y) → used z ≡ join a (used x) (used y)
  all_joined x y z many is = subst (λ m. used_to m z ≡ join a (used_to m x) (used_to m y)) many is

  all_scaled : {n : ℕ} (g : G) (x z : Usage G) → n ≡ length c → used_to n z ≡ product a g (used_to n x) → used z ≡ product a g (used x)
  all_scaled g x z many is = subst (λ m. used_to m z ≡ product a g (used_to m x)) many is

  -- a refusal
  pub refused_judges : (u : Tm G) (before after : TypeTable) (r : Result (SimpleType × Usage G) Fault) {f : Fault} → r ≡ Err f → judged a (around before) u ≡ Err f → Judges a p c u before after r
  refused_judges u before after r e h = record { answer = ap (judgement_of a.nil p.grades.now after.types.items (length c)) e ∙ sym h; grows = rw e tt }

  pub refused_uses : (due : Result (List G) Fault) (most : ℕ) (before after : TypeTable) (r : Result (Usage G) Fault) {f : Fault} → r ≡ Err f → due ≡ Err f → Uses a p c due most before after r
  refused_uses due most before after r e h = record { answer = ap (usage_of a.nil (length c)) e ∙ sym h; grows = rw e tt }

  -- a part that is judged after others, in the context as it was
  module _ {u : Tm G} {m : ℕ} {types more : TypeTable} (ready : Ready p c types u) (grown : Grown m types more) where
    pub judged_later : (v : Tm G) → judged a (around more) v ≡ judged a (around types) v
    judged_later v = ap (λ x. judged a x v) (context_kept a.nil ready grown)

    pub number_later : (v : Tm G) → number_judged a p c more v ≡ number_judged a p c types v
    number_later v = ap (λ x. x then number (place_of v)) (judged_later v)

  -- a name, and a number
  module _ (types : TypeTable) (few : length c ≤ 32) where
    pub name_exit : (place k : ℕ) {s : SimpleType} {v : Usage G} → k < length c → s ≡ get_or c k Num → v.grades ≡ set (replicate 32 a.nil) (length c - 1 - k) a.unit → type_sound 256 (length types.types.items) s ≡ true → Judges a p c (name place k) types types (Ok (s, v))
    name_exit place k {s} {v} below is wrote sound =
        let i = length c - 1 - k in
        let there : i + suc k ≡ length c = omega arith in
        let typed = name_typed (meant a p types) Num c k below in
        let spent = one_used a (meant a p types) c k i there few in
        record {
          answer = (λ j. Ok (meant a p types (is j), newest a.nil (wrote j) (length c))) ∙ ap (λ w. Ok (meant a p types (get_or c k Num), w)) spent ∙ sym (ap (λ o. named place o (once a (around types) k)) typed);
          grows = (grown_none types, sound);
        }

    pub literal_exit : (place : ℕ) (z : ℤ) {v : Usage G} → v.grades ≡ replicate 32 a.nil → Judges a p c (literal place z) types types (Ok (Num, v))
    literal_exit place z wrote = record {
      answer = ap (λ l. Ok (num, newest a.nil l (length c))) wrote ∙ ap (λ w. Ok (num, w)) (none_used a (meant a p types) c few);
      grows = (grown_none types, refl);
    }

  -- a number with the usage of its parts
  pub number_exit : (u : Tm G) {due : Result (List G) Fault} {most : ℕ} {before after : TypeTable} {v : Usage G} → Uses a p c due most before after (Ok v) → judged a (around before) u ≡ (due then λ w. Ok (num, w)) → most ≤ functions u → Judges a p c u before after (Ok (Num, v))
  number_exit u {due} uses is few = record {
    answer = ap (λ r. r then λ w. Ok (num, w)) uses.answer ∙ sym is;
    grows = (grown_within few uses.grows, refl);
  }

  -- the sum of two usages
  pub numbers_exit : {u : Tm G} (s v : Tm G) {types more most : TypeTable} {n : ℕ} {x y z : Usage G} → Ready p c types u → Uses a p c (number_judged a p c types s) (functions s) types more (Ok x) → Uses a p c (number_judged a p c more v) (functions v) more most (Ok y) → n ≡ length c → used_to n z ≡ sum a (used_to n x) (used_to n y) → Uses a p c (both a (number_judged a p c types s) (number_judged a p c types v)) (functions s + functions v) types most (Ok z)
  numbers_exit s v {types} ready first second many is = record {
    answer = ap Ok (all_summed _ _ _ many is) ∙ sym (both-judged a (number_judged a p c types s) (number_judged a p c types v) first.answer (second.answer ∙ number_later ready first.grows v));
    grows = grown_on first.grows second.grows;
  }

  -- a call, whose function part has the type s
  module _ (place : ℕ) (f x : Tm G) {types more : TypeTable} {s : SimpleType} {v : Usage G} (ready : Ready p c types (binary place Call f x)) (first : Judges a p c f types more (Ok (s, v))) where
    module _ (grade from result : ℕ) (is : s ≡ To grade from result) where
      arrow : Ok (to (get_or p.grades.now grade a.nil) (stored a p more from) (stored a p more result), used v) ≡ judged a (around types) f
      arrow = ap (λ y. Ok (meant a p more y, used v)) (sym is) ∙ first.answer

      pub arrow_there : (from < length more.types.items) × (result < length more.types.items) × (grade < 256)
      arrow_there = let o = arrow_sound (length more.types.items) grade from result (ap (type_sound 256 (length more.types.items)) (sym is) ∙ first.grows.1) in (o.from_there, o.to_there, o.grade_there)

      pub argument_fails_here : {r : Result (SimpleType × Usage G) Fault} {after : TypeTable} {e : Fault} → r ≡ Err e → Err e ≡ judged a (around more) x → Judges a p c (binary place Call f x) types after r
      argument_fails_here {r} {after} exit h = refused_judges (binary place Call f x) types after r exit (argument_fails a (around types) place f x arrow (h ∙ judged_later ready first.grows.0 x))

      module _ {most : TypeTable} {w : SimpleType} {y : Usage G} (second : Judges a p c x more most (Ok (w, y))) {due : SimpleType} (is-due : due ≡ get_or most.types.items from Num) {b : Bool} (tested : b ≡ same_type a (meant a p most w) (meant a p most due)) where
        later : Ok (meant a p most w, used y) ≡ judged a (around types) x
        later = second.answer ∙ judged_later ready first.grows.0 x

        domain_tested : b ≡ same_type a (meant a p most w) (stored a p more from)
        domain_tested = tested ∙ ap (λ d. same_type a (meant a p most w) d) (ap (meant a p most) is-due ∙ part_there a p from second.grows.0 arrow_there.0)

        pub argument_differs_here : {r : Result (SimpleType × Usage G) Fault} {after : TypeTable} → r ≡ Err (fault TypesDiffer (place_of x)) → b ≡ false → Judges a p c (binary place Call f x) types after r
        argument_differs_here {r} {after} exit no' = refused_judges (binary place Call f x) types after r exit (argument_differs a (around types) place f x arrow later (sym domain_tested ∙ no'))

        pub call_exit : {n : ℕ} {g : G} (z : Usage G) {q : Usage G} {k : SimpleType} → b ≡ true → k ≡ get_or most.types.items result Num → g ≡ get_or p.grades.now grade a.nil → n ≡ length c → used_to n z ≡ product a g (used_to n y) → used_to n q ≡ sum a (used_to n v) (used_to n z) → Judges a p c (binary place Call f x) types most (Ok (k, q))
        call_exit {g = g} z {q} {k} yes' is-result is-grade many often summed =
            let u = used v in
            let given = used y in
            let typed = ap (meant a p most) is-result ∙ part_there a p result second.grows.0 arrow_there.1 in
            let both = all_summed _ _ _ many summed ∙ ap (sum a u) (all_scaled _ _ _ many often ∙ ap (λ h. product a h given) is-grade) in
            let fits = grown_longer second.grows.0 in
            record {
              answer = (λ j. Ok (typed j, both j)) ∙ sym (call_judged a (around types) place f x arrow later (sym domain_tested ∙ yes'));
              grows = (grown_on first.grows.0 second.grows.0, ap (type_sound 256 (length most.types.items)) is-result ∙ sound_wider 256 256 result (length most.types.items) (get_or most.types.items result Num) (omega arith) (omega (arith, arrow_there.1)) (most.sound result (omega (arith, arrow_there.1))));
            }

  -- a function, whose body is judged in the context with the parameter's type
  module _ (place : ℕ) (n : Label) (g : G) (domain : ℕ) (b : Tm G) {types : TypeTable} (simple : SimpleType) (ready : Ready p c types (fn place n g (parameter a p domain) b)) (inside : context_types a.nil p.grades.now types.types.items (simple ∷ c) ≡ parameter a p domain ∷ around types) where
    pub body_fails_here : {r : Result (SimpleType × Usage G) Fault} {after : TypeTable} {e : Fault} → r ≡ Err e → Err e ≡ judged a (context_types a.nil p.grades.now types.types.items (simple ∷ c)) b → Judges a p c (fn place n g (parameter a p domain) b) types after r
    body_fails_here {r} {after} exit h = refused_judges (fn place n g (parameter a p domain) b) types after r exit (body_fails a (around types) place n g (parameter a p domain) b (h ∙ ap (λ x. judged a x b) inside))

    module _ {more : TypeTable} {s : SimpleType} {v : Usage G} (body : Judges a p (simple ∷ c) b types more (Ok (s, v))) {allowed : Bool} (tested : allowed ≡ a.permits g (get_or v.grades (length c) a.nil)) where
      opened : Ok (meant a p more s, get_or v.grades (length c) a.nil ∷ used v) ≡ judged a (parameter a p domain ∷ around types) b
      opened = body.answer ∙ ap (λ x. judged a x b) inside

      pub binder_fails_here : {r : Result (SimpleType × Usage G) Fault} {after : TypeTable} → r ≡ Err (fault NotCovered n.place) → allowed ≡ false → Judges a p c (fn place n g (parameter a p domain) b) types after r
      binder_fails_here {r} {after} exit no' = refused_judges (fn place n g (parameter a p domain) b) types after r exit (binder_fails a (around types) place n g (parameter a p domain) b opened (sym tested ∙ no'))

      pub fn_exit : (grade result : ℕ) (last : TypeTable) → allowed ≡ true → grade < 256 → g ≡ get_or p.grades.now grade a.nil → domain < length p.rule.now.program.types.items → result ≡ length more.types.items → last.types.items ≡ more.types.items ++ (s ∷ []) → Judges a p c (fn place n g (parameter a p domain) b) types last (Ok (To grade domain result, v))
      fn_exit grade result last yes' few is-grade below is-result is_last =
          let grown = body.grows.0 in
          let pushed = grown_push more s is_last in
          let all = grown_on grown pushed in
          let first = declared_first ready in
          let longer = grown_longer grown in
          let declared = p.rule.now.program.types.items in
          let list = p.grades.now in
          let size : length last.types.items ≡ length more.types.items + 1 = ap length is_last ∙ length_push more.types.items s in
          let grade-is = sym is-grade in
          let domain-is : stored a p last domain ≡ parameter a p domain =
          ap (λ l. get_or (types_in a.nil [] list l) domain num) (all.is ∙ ap (λ l. l ++ all.added) ready.begins ∙ append_assoc declared ready.added all.added) ∙ types_older a.nil [] list declared (ready.added ++ all.added) domain below in
          let here : get_or last.types.items result Num ≡ s = ap (λ l. get_or l result Num) is_last ∙ get_or_push more.types.items s Num result (sym is-result) in
          let result-is : stored a p last result ≡ meant a p more s =
          type_there a.nil list last.types.items result last.sound (omega arith) ∙ ap (meant a p last) here ∙ type_later a p s pushed body.grows.1 in
          record {
            answer = (λ j. Ok (to (grade-is j) (domain-is j) (result-is j), used v)) ∙ sym (fn_judged a (around types) place n g (parameter a p domain) b opened (sym tested ∙ yes'));
            grows = (grown_within (omega arith) all, and_from _ _ (lt-ltb grade 256 few) (and_from _ _ (lt-ltb domain (length last.types.items) (omega arith)) (lt-ltb result (length last.types.items) (omega arith))));
          }

  -- a comparison, whose two numbers are judged
  module _ (place : ℕ) (l o x y : Tm G) {types more : TypeTable} {v : Usage G} (ready : Ready p c types (less place l o x y)) (first : Uses a p c (both a (number_judged a p c types l) (number_judged a p c types o)) (functions l + functions o) types more (Ok v)) where
    pub branch_fails_here : {r : Result (SimpleType × Usage G) Fault} {after : TypeTable} {e : Fault} → r ≡ Err e → Err e ≡ judged a (around more) x → Judges a p c (less place l o x y) types after r
    branch_fails_here {r} {after} exit h = refused_judges (less place l o x y) types after r exit (branch_fails a (around types) place l o x y first.answer (h ∙ judged_later ready first.grows x))

    module _ {most : TypeTable} {s : SimpleType} {w : Usage G} (second : Judges a p c x more most (Ok (s, w))) where
      branch : Ok (meant a p most s, used w) ≡ judged a (around types) x
      branch = second.answer ∙ judged_later ready first.grows x

      grown_twice : Grown ((functions l + functions o) + functions x) types most
      grown_twice = grown_on first.grows second.grows.0

      pub other_fails_here : {r : Result (SimpleType × Usage G) Fault} {after : TypeTable} {e : Fault} → r ≡ Err e → Err e ≡ judged a (around most) y → Judges a p c (less place l o x y) types after r
      other_fails_here {r} {after} exit h = refused_judges (less place l o x y) types after r exit (other_fails a (around types) place l o x y first.answer branch (h ∙ judged_later ready grown_twice y))

      module _ {last : TypeTable} {s' : SimpleType} {w' : Usage G} (third : Judges a p c y most last (Ok (s', w'))) {b : Bool} (tested : b ≡ same_type a (meant a p last s') (meant a p last s)) where
        other : Ok (meant a p last s', used w') ≡ judged a (around types) y
        other = third.answer ∙ judged_later ready grown_twice y

        branches_tested : b ≡ same_type a (meant a p last s') (meant a p most s)
        branches_tested = tested ∙ ap (same_type a (meant a p last s')) (type_later a p s third.grows.0 second.grows.1)

        pub branches_differ_here : {r : Result (SimpleType × Usage G) Fault} {after : TypeTable} → r ≡ Err (fault TypesDiffer (place_of y)) → b ≡ false → Judges a p c (less place l o x y) types after r
        branches_differ_here {r} {after} exit no' = refused_judges (less place l o x y) types after r exit (branches_differ a (around types) place l o x y first.answer branch other (sym branches_tested ∙ no'))

        pub less_exit : {n : ℕ} (z : Usage G) {q : Usage G} → b ≡ true → n ≡ length c → used_to n z ≡ join a (used_to n w) (used_to n w') → used_to n q ≡ sum a (used_to n v) (used_to n z) → Judges a p c (less place l o x y) types last (Ok (s, q))
        less_exit z yes' many joined summed =
            let typed = type_later a p s third.grows.0 second.grows.1 in
            let both = all_summed _ _ _ many summed ∙ ap (sum a (used v)) (all_joined _ _ _ many joined) in
            record {
              answer = (λ j. Ok (typed j, both j)) ∙ sym (less_judged a (around types) place l o x y first.answer branch other (sym branches_tested ∙ yes'));
              grows = (grown_within (omega arith) (grown_on grown_twice third.grows.0), sound_wider 256 256 (length most.types.items) (length last.types.items) s (omega arith) (grown_longer third.grows.0) second.grows.1);
            }
