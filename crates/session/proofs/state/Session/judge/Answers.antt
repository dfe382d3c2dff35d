use Rattle.session.proofs.Correctness.{correctly}
use Rattle.session.proofs.state.Session.judge.Goals as goal

pub returns-clause-correctly : goal.returns-clause-correctly
returns-clause-correctly g c =
    rw (← c.self.view_is) (correctly g.G.Algebra g.met.G.Algebra.kept _ c.args.grades.now c.args.work.now c.judge_program.result c.judge_program.new.verdict c.judge_program.new.work c.judge_program.ensures)
