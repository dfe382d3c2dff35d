use Rattle.std.proofs.Common.{rules, ◌∙◌}
use Rattle.language.specs.Scopes.{open_names}
use Rattle.language.specs.Reading.{tables_of}
use Rattle.language.specs.Readers.{tables_in, state_in}
use Rattle.language.proofs.Chains.{failed, domain_failed, body_failed, fn_read, part_in, term_failed, term_read}
use Rattle.language.proofs.reading.Reader.+reading.Goals as goal

pub read_parts-returns-in_err-domain-in-Fn-clause-reads : goal.read_parts-returns-in_err-domain-in-Fn-clause-reads
read_parts-returns-in_err-domain-in-Fn-clause-reads g t c =
    let self = c.args.self.now in
    let read = c.in_ok-name-in-Fn.ensures in
    let bound = c.add_binder-binder.ensures in
    failed _ _ _ _ c.from_residual-in_err-domain-in-Fn.ensures.1 (domain_failed g.G.Written.reading self.text.now g.G.Algebra.unit c.args.inner (open_names c.args.scope.now) c.args.head c.args.next (state_in self) (tables_in c.read_binder.new.self) (tables_of c.add_binder-binder.new.self) c.read_binder.new.self.grades.now c.in-Fn.is read.reads bound.index bound.after read.on.0 c.in_err-domain-in-Fn.ensures.reads)

pub read_parts-returns-in_err-body-in-Fn-clause-reads : goal.read_parts-returns-in_err-body-in-Fn-clause-reads
read_parts-returns-in_err-body-in-Fn-clause-reads g t c =
    let self = c.args.self.now in
    let read = c.in_ok-name-in-Fn.ensures in
    let bound = c.add_binder-binder.ensures in
    let domain = c.in_ok-domain-in-Fn.ensures in
    failed _ _ _ _ c.from_residual-in_err-body-in-Fn.ensures.1 (body_failed g.G.Written.reading self.text.now g.G.Algebra.unit c.args.inner (open_names c.args.scope.now) c.args.head c.args.next (state_in self) (tables_in c.read_binder.new.self) (tables_of c.add_binder-binder.new.self) c.read_binder.new.self.grades.now c.in-Fn.is read.reads bound.index bound.after (state_in c.read_type.new.self) read.on.0 domain.on.0 domain.reads c.in_err-body-in-Fn.ensures.reads)

pub read_parts-returns-in_ok-body-in-Fn-clause-reads : goal.read_parts-returns-in_ok-body-in-Fn-clause-reads
read_parts-returns-in_ok-body-in-Fn-clause-reads g t c =
    let self = c.args.self.now in
    let read = c.in_ok-name-in-Fn.ensures in
    let bound = c.add_binder-binder.ensures in
    let domain = c.in_ok-domain-in-Fn.ensures in
    fn_read g.G.Written.reading self.text.now g.G.Algebra.unit c.args.inner (open_names c.args.scope.now) c.args.head c.args.next (state_in self) (tables_in c.read_binder.new.self) (tables_of c.add_binder-binder.new.self) c.read_binder.new.self.grades.now c.in-Fn.is read.reads bound.index bound.after (state_in c.read_type.new.self) (state_in c.read_term.new.self) read.on.0 domain.on.0 domain.reads c.in_ok-body-in-Fn.ensures.reads

pub read_term-returns-in_err-parts-clause-reads : goal.read_term-returns-in_err-parts-clause-reads
read_term-returns-in_err-parts-clause-reads g t c =
    let self = c.args.self.now in
    failed _ _ _ _ c.from_residual-in_err-parts.ensures.1 (term_failed g.G.Written.reading self.text.now g.G.Algebra.unit c.args.depth (open_names c.args.scope.now) c.args.at (state_in self) (tables_of c.count_word.new.self) c.in_ok-first.ensures c.in_ok-head.ensures c.in_ok-inner.ensures.counts c.in_ok-inner.ensures.falls c.in_err-parts.ensures.reads)

pub read_term-returns-clause-reads : goal.read_term-returns-clause-reads
read_term-returns-clause-reads g t c =
    let self = c.args.self.now in
    let stored = c.add_node-value.ensures in
    term_read g.G.Written.reading self.text.now g.G.Algebra.unit c.args.depth (open_names c.args.scope.now) c.args.at (state_in self) (tables_of c.count_word.new.self) c.in_ok-first.ensures c.in_ok-head.ensures c.in_ok-inner.ensures.counts c.in_ok-inner.ensures.falls (state_in c.read_parts.new.self) (tables_of c.add_node-value.new.self) c.in_ok-parts.ensures.reads stored.index stored.after

pub read_parts-returns-in_err-right-in-Binary-clause-reads : goal.read_parts-returns-in_err-right-in-Binary-clause-reads
read_parts-returns-in_err-right-in-Binary-clause-reads g t c =
    let text = c.args.self.now.text.now in
    let scope = open_names c.args.scope.now in
    let right = part_in g.G.Written.reading text g.G.Algebra.unit c.args.inner scope c.in_ok-left-in-Binary.left.next (state_in c.read_term-in-Binary.new.self) c.in_ok-left-in-Binary.ensures.on.0 c.in_err-right-in-Binary.ensures.reads in
    search rules

pub read_parts-returns-in_ok-right-in-Binary-clause-reads : goal.read_parts-returns-in_ok-right-in-Binary-clause-reads
read_parts-returns-in_ok-right-in-Binary-clause-reads g t c =
    let text = c.args.self.now.text.now in
    let scope = open_names c.args.scope.now in
    let right = part_in g.G.Written.reading text g.G.Algebra.unit c.args.inner scope c.in_ok-left-in-Binary.left.next (state_in c.read_term-in-Binary.new.self) c.in_ok-left-in-Binary.ensures.on.0 c.in_ok-right-in-Binary.ensures.reads in
    search rules

pub read_parts-returns-in_err-right-in-Less-clause-reads : goal.read_parts-returns-in_err-right-in-Less-clause-reads
read_parts-returns-in_err-right-in-Less-clause-reads g t c =
    let text = c.args.self.now.text.now in
    let scope = open_names c.args.scope.now in
    let right = part_in g.G.Written.reading text g.G.Algebra.unit c.args.inner scope c.in_ok-left-in-Less.left.next (state_in c.read_term-in-Less.new.self) c.in_ok-left-in-Less.ensures.on.0 c.in_err-right-in-Less.ensures.reads in
    search rules

pub read_parts-returns-in_err-below-in-Less-clause-reads : goal.read_parts-returns-in_err-below-in-Less-clause-reads
read_parts-returns-in_err-below-in-Less-clause-reads g t c =
    let text = c.args.self.now.text.now in
    let scope = open_names c.args.scope.now in
    let right = part_in g.G.Written.reading text g.G.Algebra.unit c.args.inner scope c.in_ok-left-in-Less.left.next (state_in c.read_term-in-Less.new.self) c.in_ok-left-in-Less.ensures.on.0 c.in_ok-right-in-Less.ensures.reads in
    let below = part_in g.G.Written.reading text g.G.Algebra.unit c.args.inner scope c.in_ok-right-in-Less.right.next (state_in c.read_term-in-Less-2.new.self) (c.in_ok-right-in-Less.ensures.on.0 ∙ c.in_ok-left-in-Less.ensures.on.0) c.in_err-below-in-Less.ensures.reads in
    search rules

pub read_parts-returns-in_err-otherwise-in-Less-clause-reads : goal.read_parts-returns-in_err-otherwise-in-Less-clause-reads
read_parts-returns-in_err-otherwise-in-Less-clause-reads g t c =
    let text = c.args.self.now.text.now in
    let scope = open_names c.args.scope.now in
    let right = part_in g.G.Written.reading text g.G.Algebra.unit c.args.inner scope c.in_ok-left-in-Less.left.next (state_in c.read_term-in-Less.new.self) c.in_ok-left-in-Less.ensures.on.0 c.in_ok-right-in-Less.ensures.reads in
    let below = part_in g.G.Written.reading text g.G.Algebra.unit c.args.inner scope c.in_ok-right-in-Less.right.next (state_in c.read_term-in-Less-2.new.self) (c.in_ok-right-in-Less.ensures.on.0 ∙ c.in_ok-left-in-Less.ensures.on.0) c.in_ok-below-in-Less.ensures.reads in
    let otherwise = part_in g.G.Written.reading text g.G.Algebra.unit c.args.inner scope c.in_ok-below-in-Less.below.next (state_in c.read_term-in-Less-3.new.self) (c.in_ok-below-in-Less.ensures.on.0 ∙ c.in_ok-right-in-Less.ensures.on.0 ∙ c.in_ok-left-in-Less.ensures.on.0) c.in_err-otherwise-in-Less.ensures.reads in
    search rules

pub read_parts-returns-in_ok-otherwise-in-Less-clause-reads : goal.read_parts-returns-in_ok-otherwise-in-Less-clause-reads
read_parts-returns-in_ok-otherwise-in-Less-clause-reads g t c =
    let text = c.args.self.now.text.now in
    let scope = open_names c.args.scope.now in
    let right = part_in g.G.Written.reading text g.G.Algebra.unit c.args.inner scope c.in_ok-left-in-Less.left.next (state_in c.read_term-in-Less.new.self) c.in_ok-left-in-Less.ensures.on.0 c.in_ok-right-in-Less.ensures.reads in
    let below = part_in g.G.Written.reading text g.G.Algebra.unit c.args.inner scope c.in_ok-right-in-Less.right.next (state_in c.read_term-in-Less-2.new.self) (c.in_ok-right-in-Less.ensures.on.0 ∙ c.in_ok-left-in-Less.ensures.on.0) c.in_ok-below-in-Less.ensures.reads in
    let otherwise = part_in g.G.Written.reading text g.G.Algebra.unit c.args.inner scope c.in_ok-below-in-Less.below.next (state_in c.read_term-in-Less-3.new.self) (c.in_ok-below-in-Less.ensures.on.0 ∙ c.in_ok-right-in-Less.ensures.on.0 ∙ c.in_ok-left-in-Less.ensures.on.0) c.in_ok-otherwise-in-Less.ensures.reads in
    search rules
