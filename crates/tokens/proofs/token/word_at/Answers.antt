use Rattle.std.proofs.Common.{arith}
use Rattle.text.specs.declared.scan.Class.TheVariants.{Wordy}
use Rattle.tokens.proofs.Tokens.{run_within}
use Rattle.tokens.proofs.token.word_at.Goals as goal

pub slice_bounds-result-end : goal.slice_bounds-result-end
slice_bounds-result-end g c = omega (arith, run_within Wordy c.args.text.now c.args.place (omega arith))
