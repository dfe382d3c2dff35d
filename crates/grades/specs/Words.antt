-- The texts of the levels.
use Rattle.std.specs.Prelude.{◌≡◌, ℕ, true, List, ◌++◌, length, Some, Option, refl}
use Rattle.std.proofs.Common.{sym, ◌∙◌, ap, subst, ⊎_elim}
use Rattle.std.proofs.lemmas.Slice.Eq.{bytes_eq-Decides}
use Rattle.std.proofs.lemmas.List.{take_at}
use Rattle.std.proofs.lemmas.Bool.{cases_Bool, cond-true, cond-false}
use Rattle.grades.specs.declared.level.Level.{Level}
use Rattle.grades.specs.declared.level.Level.TheVariants.{Public, Crew, Secret}
use Rattle.grades.specs.Levels.{begins, level_reading, level_writing}
use Rattle.grades.specs.Texts.{Text}
use Rattle.text.proofs.Puts.{none_some}
use Rattle.grades.specs.Readings.{same_answer, unbraced, no_brace_from}

whole : (p g : Level) (w rest : List ℕ) → begins p (w ++ rest) ≡ true → ◌≡◌ {A = Option (Level × ℕ)} (Some (p, length (level_writing p))) (Some (g, length w)) → w ≡ level_writing g
whole p g w rest h e =
    let same = same_answer p g (length (level_writing p)) (length w) e in
    sym (take_at w rest (length (level_writing p)) (sym same.1)) ∙ sym ((bytes_eq-Decides (level_writing p) _).0 h) ∙ ap level_writing same.0

level_from : (w rest : List ℕ) (g : Level) → level_reading (w ++ rest) ≡ Some (g, length w) → w ≡ level_writing g
level_from w rest g e =
    ⊎_elim (λ h. whole Public g w rest h (sym (cond-true _ _ _ h) ∙ e))
    (λ f. ⊎_elim (λ h. whole Crew g w rest h (sym (cond-true _ _ _ h) ∙ sym (cond-false _ _ _ f) ∙ e))
    (λ f2. ⊎_elim (λ h. whole Secret g w rest h (sym (cond-true _ _ _ h) ∙ sym (cond-false _ _ _ f2) ∙ sym (cond-false _ _ _ f) ∙ e))
    (λ f3. absurd (none_some (g, length w) (sym (cond-false _ _ _ f3) ∙ sym (cond-false _ _ _ f2) ∙ sym (cond-false _ _ _ f) ∙ e)))
    (cases_Bool (begins Secret (w ++ rest))))
    (cases_Bool (begins Crew (w ++ rest))))
    (cases_Bool (begins Public (w ++ rest)))

level_back : (g : Level) (rest : List ℕ) → level_reading (level_writing g ++ rest) ≡ Some (g, length (level_writing g))
level_back Public rest = refl
level_back Crew rest = refl
level_back Secret rest = refl

unbraced_level : (g : Level) → unbraced (level_writing g) ≡ true
unbraced_level Public = refl
unbraced_level Crew = refl
unbraced_level Secret = refl

pub level_text : Text level_reading level_writing
level_text =
    record {
      exact = λ w rest g _. (level_from w rest g, λ e. subst (λ (v : List ℕ). level_reading (v ++ rest) ≡ Some (g, length v)) (sym e) (level_back g rest));
      no_brace = λ g. no_brace_from (level_writing g) (unbraced_level g);
    }
