use Rattle.std.proofs.Common.{codes, ◌∙◌, rules}
use Rattle.text.proofs.Puts.{put_thrice, room_at}
use Rattle.grades.specs.Pairs.{pair_writing}
use Rattle.grades.proofs.pairing.PairWritten.write.Goals as goal

pub returns : goal.returns
returns g c =
    let fits = room_at c.args.out.now c.args.at c.in_ok-room.room c.in_ok-room_after.field-0 (pair_writing g.A.Written.writing g.B.Written.writing c.args.self) c.in_ok-room.ensures.0 c.in_ok-room.ensures.1 c.in_ok-room_after.ensures in
    c.write-2.ensures ∙ put_thrice c.args.out.now c.write.new.out c.put_bytes.new.out c.args.at c.in_ok-at.at c.in_ok-at-2.at (g.A.Written.writing c.args.self.first) (codes "|") (g.B.Written.writing c.args.self.second) fits c.in_ok-at.ensures (search (rules, c.in_ok-at-2.ensures))
