use Rattle.std.proofs.Common.{◌+◌, ◌*◌, drop, sym, ◌∙◌, arith, rules}
use Rattle.text.proofs.Numbers.{after_more, after_other, after_above, after_all, upto_plain}
use Rattle.text.proofs.numeral.decimal.Goals as goal

pub loop-b-init : goal.loop-b-init
loop-b-init c = (omega arith, upto_plain c.args.digits.now c.args.limit (search rules) (search rules))

pub returns-then-not-holds : goal.returns-then-not-holds
returns-then-not-holds c =
    sym (c.loop-b.invariant.1 ∙ after_other c.args.limit c.loop-b.number c.args.digits.now c.loop-b.b-index (search rules) (search rules))

pub returns-then-number-from : goal.returns-then-number-from
returns-then-number-from c =
    sym (c.loop-b.invariant.1 ∙ after_more c.args.limit c.loop-b.number (c.loop-b.number * 10 + c.from.result) c.args.digits.now c.loop-b.b-index (search rules) (search rules) (omega arith) ∙ after_above c.args.limit (c.loop-b.number * 10 + c.from.result) (drop (c.loop-b.b-index + 1) c.args.digits.now) (omega arith))

pub loop-b-preserved : goal.loop-b-preserved
loop-b-preserved c =
    (omega arith, c.loop-b.invariant.1 ∙ after_more c.args.limit c.loop-b.number _ c.args.digits.now c.loop-b.b-index (search rules) (search rules) (omega arith))

pub returns : goal.returns
returns c =
    sym (c.loop-b.invariant.1 ∙ after_all c.args.limit c.loop-b.number c.args.digits.now c.loop-b.b-index (search rules) c.loop-b.invariant.0)
