use Rattle.std.proofs.Common.{arith, rules, tests, [], ◌∷◌}
use Rattle.std.proofs.lemmas.Grind.{common_steps}
use Rattle.std.proofs.lemmas.Iterator.{YieldsList-from_slice}
use Rattle.std.proofs.lemmas.Iterator.Search.{find_from_yields_List}
use Rattle.grades.specs.declared.level.Level.TheVariants.{Public, Crew, Secret}
use Rattle.grades.specs.Levels.{begins}
use Rattle.grades.proofs.level.LevelWritten.read.Goals as goal

pub returns-in_err-level : goal.returns-in_err-level
returns-in_err-level c =
    let found = find_from_yields_List (λ l. begins l c.args.bytes.now) _ _ c.find.result c.find.ensures.ran (YieldsList-from_slice (Public ∷ Crew ∷ Secret ∷ []) cc) (λ x b q k. search (rules, tests)) in
    let none = c.in_err-level.was in
    grind (arith, common_steps)
