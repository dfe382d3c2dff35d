use Rattle.std.proofs.Common.{◌≡◌, length, get_or, ◌∙◌, arith, rules}
use Rattle.std.proofs.lemmas.List.{get_or_default}
use Rattle.judge.proofs.Newest.{newest-both, overwritten_more}
use Rattle.judge.proofs.usage.Usage.combine_with.Goals as goal

pub loop-i-preserved : goal.loop-i-preserved
loop-i-preserved g c = λ f gives.
    let nil = g.G.Algebra.nil in
    let i = c.loop-i.i in
    let before = c.args.self.now.grades in
    let other = c.args.other.now.grades in
    let so_far = c.loop-i.invariant f gives in
    let long : length c.loop-i.self.grades ≡ 32 = search rules in
    let wide : length other ≡ 32 = search rules in
    let left = get_or_default c.loop-i.self.grades i c.index-self-i.result nil (omega arith) ∙ so_far.left i (omega arith) in
    let right = get_or_default other i c.index-other-i.result nil (omega arith) in
    let made : c.combine.result ≡ f (get_or c.loop-i.self.grades i c.index-self-i.result) (get_or other i c.index-other-i.result) = gives _ _ _ c.combine.ensures in
    overwritten_more nil (λ k. f (get_or before k nil) (get_or other k nil)) before c.loop-i.self.grades i c.combine.result (omega arith) so_far (made ∙ (λ k. f (left k) (right k)))

pub returns : goal.returns
returns g c = λ f gives.
    newest-both g.G.Algebra.nil f c.args.self.now.grades c.args.other.now.grades c.loop-i.self.grades c.args.count (λ k below. (c.loop-i.invariant f gives).made k (omega arith))
