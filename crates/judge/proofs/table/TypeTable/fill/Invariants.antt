use Rattle.std.proofs.Common.{◌≡◌, take}
use Rattle.judge.proofs.table.TypeTable.fill.Given as goal

abbrev pub invariant-loop-simple : goal.invariant-loop-simple
invariant-loop-simple l = l.self.types.items ≡ take l.simple-index l.program.types.items
