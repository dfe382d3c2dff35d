use Rattle.std.proofs.Common.{length, vec_items}
use Rattle.rulesheet.proofs.Numbers.{Going}
use Rattle.rulesheet.proofs.readings.readings_of.Given as goal

-- the numbers of the words so far, before those of the words that are left
abbrev pub invariant-loop-word : goal.invariant-loop-word
invariant-loop-word l = Going l.line (length l.yielded) (vec_items l.numbers)
