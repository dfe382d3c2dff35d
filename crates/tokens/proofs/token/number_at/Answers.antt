use Rattle.tokens.specs.declared.refusal.Refusal.TheVariants.{BadToken}
use Rattle.std.proofs.Common.{Err, rules, arith, ◌≡◌, ◌≤◌, ◌+◌, sym, ap, ◌∙◌, Some, None}
use Rattle.text.specs.declared.scan.Class.TheVariants.{Digit}
use Rattle.tokens.specs.Tokens.{fault, seen}
use Rattle.tokens.proofs.Tokens.{run_within, read_signed}
use Rattle.tokens.proofs.token.number_at.Goals as goal

pub slice_bounds-number-end : goal.slice_bounds-number-end
slice_bounds-number-end g c = let short : c.from.result ≤ 1 = search rules in omega (arith, run_within Digit c.args.text.now (c.args.place + c.from.result) (omega arith))

pub returns-in_err-n : goal.returns-in_err-n
returns-in_err-n g c =
    let value : c.signed_integer.result ≡ None = search rules in
    let fault_is : c.from_residual.result ≡ Err (fault BadToken c.args.place) = search rules in
    ap seen fault_is ∙ read_signed g.G.Written.reading c.args.text.now c.args.place c.from.result c.run_end-next.result None (search rules) c.from.ensures c.run_end-next.ensures (search rules) (sym value ∙ c.signed_integer.ensures)

pub returns : goal.returns
returns g c =
    let value : c.signed_integer.result ≡ Some c.in_ok-n.n = search rules in
    rw (← (read_signed g.G.Written.reading c.args.text.now c.args.place c.from.result c.run_end-next.result (Some c.in_ok-n.n) (search rules) c.from.ensures c.run_end-next.ensures (search rules) (sym value ∙ c.signed_integer.ensures))) (search rules)
