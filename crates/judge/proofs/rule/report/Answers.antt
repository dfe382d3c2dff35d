use Rattle.std.proofs.Common.{◌≡◌, ◌-◌, ◌++◌, length, replicate, ap, ◌∙◌, arith, rules}
use Rattle.language.proofs.Clearing.{filled}
use Rattle.judge.proofs.rule.report.Goals as goal

pub returns : goal.returns
returns g c =
    let nil = g.G.Algebra.nil in
    let made = c.fill_with.ensures in
    let few = 2592 - length c.args.usages.now in
    let size : length c.fill_with.new.self ≡ few = omega (arith, made.len, c.split_at_mut-front.ensures.back_len, c.requires.long, c.requires.few) in
    let zeros = filled _ nil (λ p y q called. search rules) _ _ _ made.ran.1 ∙ ap (λ n. replicate n nil) size in
    let front = c.copy_from_slice.ensures.after in
    λ k. front k ++ zeros k
