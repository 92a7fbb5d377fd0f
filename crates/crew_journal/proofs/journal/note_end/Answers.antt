use Rattle.std.proofs.Common.{rules, ◌≡◌, true}
use Rattle.crew_journal.specs.Book.{record_at, records_of}
use Rattle.crew_journal.proofs.Noting.{noted_end}
use Rattle.crew_journal.proofs.journal.note_end.Goals as goal

pub returns : goal.returns
returns g c =
    let on : c.args.pen.now.is_on ≡ true = search rules in
    λ first before number events h.
    noted_end first before number events (g.F.AnswerFile.texts c.put_made.new.self.file) c.put_made.new.self.digest c.put_made.new.self.left c.put_made.new.self.is_on c.args.pen.now.is_on c.args.flights.now.items c.take_flight-flight.new.flights.items c.args.slot c.take_flight-flight.result c.args.reply.now h.in_flight on
    c.take_flight-flight.ensures.value c.take_flight-flight.ensures.free
    (c.put_made.ensures first before (records_of events) (record_at c.take_flight-flight.result c.args.reply.now) c.record_of-made.ensures h.pen)
