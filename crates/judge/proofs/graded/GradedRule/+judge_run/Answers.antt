use Rattle.std.proofs.Common.{◌≡◌, ◌+◌, ◌-◌, [], ◌∷◌, ◌++◌, replicate, sym, ap, ◌∙◌, subst, append_assoc, arith, rules}
use Rattle.std.proofs.lemmas.List.{replicate_more}
use Rattle.language.specs.declared.program.SimpleType.TheVariants.{Num}
use Rattle.language.specs.Scopes.{scope_items}
use Rattle.judge.specs.Meaning.{run_node}
use Rattle.judge.specs.Progress.{Ready}
use Rattle.judge.proofs.graded.GradedRule.+judge_run.Goals as goal

pub judge_run-requires : goal.judge_run-requires
judge_run-requires g t c κs within =
    let p = c.args.self.now in
    let context = scope_items c.args.context.now in
    let left = c.args.inputs - 1 in
    let less : left + 1 ≡ c.args.inputs = omega arith in
    let one_more = replicate_more left Num ∙ ap (λ n. replicate n Num) less in
    let inside = ap (λ l. l ++ context) (sym one_more) ∙ append_assoc (replicate left Num) (Num ∷ []) context in
    (search rules, (search rules, (search rules, subst (λ l. Ready p l c.args.types.now (run_node g.G.Algebra.nil p)) inside c.requires)))
