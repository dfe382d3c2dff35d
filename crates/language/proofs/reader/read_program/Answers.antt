use Rattle.std.proofs.Common.{◌≡◌, length, rules}
use Rattle.language.specs.Reading.{tables_of}
use Rattle.language.proofs.Chains.{program_dropped}
use Rattle.language.proofs.reader.read_program.Goals as goal

pub returns-in-Err : goal.returns-in-Err
returns-in-Err g c =
    let full : length c.read_text.new.grades ≡ 256 = search rules in
    program_dropped g.G.Written.reading g.G.Algebra.unit g.G.Algebra.nil c.args.text.now (tables_of c.args.program.now) c.args.grades.now c.if-grades-lt-GRADES.false c.in-Err.ensures c.clear-in-Err.ensures full c.clear_grades-in-Err.ensures
