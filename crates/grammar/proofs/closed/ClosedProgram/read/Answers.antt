use Rattle.language.specs.Reading.{tables_of}
use Rattle.grammar.proofs.Closing.{closed_of, program_closed}
use Rattle.grammar.proofs.closed.ClosedProgram.read.Goals as goal

pub invariant_of-self : goal.invariant_of-self
invariant_of-self g c =
    let s = c.args.self.now in
    let k = program_closed g.G.Written.reading g.G.Algebra.unit g.G.Algebra.nil c.args.text.now (tables_of s.program) c.args.grades.now (c.read_program.result, tables_of c.read_program.new.program, c.read_program.new.grades) c.read_program.ensures (closed_of s) in
    record { closed = k.0.closed; levels = k.0.levels; functions = k.0.functions }

pub returns : goal.returns
returns g c =
    let s = c.args.self.now in
    record {
      reads = c.read_program.ensures;
      there = (program_closed g.G.Written.reading g.G.Algebra.unit g.G.Algebra.nil c.args.text.now (tables_of s.program) c.args.grades.now (c.read_program.result, tables_of c.read_program.new.program, c.read_program.new.grades) c.read_program.ensures (closed_of s)).1;
    }
