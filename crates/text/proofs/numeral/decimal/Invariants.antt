use Rattle.std.proofs.Common.{◌≡◌, ◌≤◌, drop}
use Rattle.text.specs.Decimals.{decimal_upto}
use Rattle.text.proofs.Numbers.{upto_after}
use Rattle.text.proofs.numeral.decimal.Given as goal

-- the digits that are left, after the number so far, write the number of all
abbrev pub invariant-loop-b : goal.invariant-loop-b
invariant-loop-b l = (l.number ≤ l.limit) × (decimal_upto l.digits l.limit ≡ upto_after l.limit l.number (drop l.b-index l.digits))
