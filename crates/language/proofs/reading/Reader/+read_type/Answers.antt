use Rattle.language.specs.Reading.{tables_of}
use Rattle.language.specs.Readers.{state_in}
use Rattle.language.proofs.Chains.{failed, from_failed, to_failed, arrow_read}
use Rattle.language.proofs.reading.Reader.+read_type.Goals as goal

pub returns-in_err-from-in-To-clause-reads : goal.returns-in_err-from-in-To-clause-reads
returns-in_err-from-in-To-clause-reads g t c =
    let self = c.args.self.now in
    failed _ _ _ _ c.from_residual-in_err-from-in-To.ensures.1 (from_failed g.G.Written.reading self.text.now c.args.depth c.args.at (state_in self) (tables_of c.count_word.new.self) (state_in c.add_grade.new.self) c.in_ok-first.ensures c.in_ok-head.ensures c.in-To.is c.in_ok-inner.ensures.counts c.in_ok-inner.ensures.falls c.in_ok-second-in-To.ensures c.in_ok-g-in-To.ensures c.in_ok-grade-in-To.ensures.reads c.in_ok-grade-in-To.ensures.on.0 c.in_err-from-in-To.ensures.reads)

pub returns-in_err-to-in-To-clause-reads : goal.returns-in_err-to-in-To-clause-reads
returns-in_err-to-in-To-clause-reads g t c =
    let self = c.args.self.now in
    failed _ _ _ _ c.from_residual-in_err-to-in-To.ensures.1 (to_failed g.G.Written.reading self.text.now c.args.depth c.args.at (state_in self) (tables_of c.count_word.new.self) (state_in c.add_grade.new.self) c.in_ok-first.ensures c.in_ok-head.ensures c.in-To.is c.in_ok-inner.ensures.counts c.in_ok-inner.ensures.falls c.in_ok-second-in-To.ensures c.in_ok-g-in-To.ensures c.in_ok-grade-in-To.ensures.reads (state_in c.read_type.new.self) c.in_ok-grade-in-To.ensures.on.0 c.in_ok-from-in-To.ensures.on.0 c.in_ok-from-in-To.ensures.reads c.in_err-to-in-To.ensures.reads)

pub returns-in_ok-to-in-To-clause-reads : goal.returns-in_ok-to-in-To-clause-reads
returns-in_ok-to-in-To-clause-reads g t c =
    let self = c.args.self.now in
    let stored = c.add_type-value-in-To.ensures in
    arrow_read g.G.Written.reading self.text.now c.args.depth c.args.at (state_in self) (tables_of c.count_word.new.self) (state_in c.add_grade.new.self) c.in_ok-first.ensures c.in_ok-head.ensures c.in-To.is c.in_ok-inner.ensures.counts c.in_ok-inner.ensures.falls c.in_ok-second-in-To.ensures c.in_ok-g-in-To.ensures c.in_ok-grade-in-To.ensures.reads (state_in c.read_type.new.self) (state_in c.read_type-in-To.new.self) (tables_of c.add_type-value-in-To.new.self) c.in_ok-grade-in-To.ensures.on.0 c.in_ok-from-in-To.ensures.on.0 c.in_ok-from-in-To.ensures.reads c.in_ok-to-in-To.ensures.reads stored.index stored.after
