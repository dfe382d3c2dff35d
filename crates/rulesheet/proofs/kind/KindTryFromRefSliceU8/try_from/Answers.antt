use Rattle.std.proofs.Common.{◌≡◌, codes, ap, arith, rules}
use Rattle.std.proofs.lemmas.Slice.Eq.{text_from_reads}
use Rattle.rulesheet.specs.Kinds.{kind_of}
use Rattle.rulesheet.proofs.kind.KindTryFromRefSliceU8.try_from.Goals as goal

pub returns-in-115 : goal.returns-in-115
returns-in-115 c =
    let word : c.args.line.now ≡ codes "span|level" = text_from_reads c.args.line.now (codes "span|level") (omega arith) (search rules) in
    ap kind_of word
