use Rattle.std.proofs.Common.{codes, decimal, ap, ◌∙◌}
use Rattle.text.specs.Put.{put}
use Rattle.text.proofs.Puts.{put_thrice, room_at}
use Rattle.grades.specs.SpanTexts.{upper_writing, span_writing}
use Rattle.grades.proofs.span.written.SpanWritten.write.Goals as goal

pub returns : goal.returns
returns c =
    let fits = room_at c.args.out.now c.args.at c.in_ok-room.room c.in_ok-room_after.field-0 (span_writing c.args.self) c.in_ok-room.ensures.0 c.in_ok-room.ensures.1 c.in_ok-room_after.ensures in
    c.put_upper.ensures ∙ put_thrice c.args.out.now c.put_decimal.new.out c.put_bytes.new.out c.args.at c.in_ok-at.at c.in_ok-at-2.at (decimal c.args.self.lower) (codes "..") (upper_writing c.args.self.upper) fits (c.in_ok-at.ensures ∙ ap (λ n. put c.args.out.now c.args.at (decimal n)) c.from.ensures) c.in_ok-at-2.ensures
