use Rattle.std.proofs.Common.{replicate, ap, ◌∙◌, rules}
use Rattle.language.proofs.Clearing.{filled}
use Rattle.language.proofs.reader.clear_grades.Goals as goal

pub returns : goal.returns
returns g c =
    let made = c.fill_with.ensures in
    filled _ g.G.Algebra.nil (λ p y q called. search rules) _ _ _ made.ran.1 ∙ ap (λ n. replicate n g.G.Algebra.nil) made.len
