-- The records of the replies in a list of events.
use Rattle.std.specs.Prelude.{List, [], ◌∷◌, ◌++◌, Option, None, Some, fold, replicate, slice_index_or, slice_set}
use Rattle.crew_trait.specs.declared.event.CrewEvent.{CrewEvent}
use Rattle.crew_trait.specs.declared.event.CrewEvent.TheVariants.{Started, Ended}
use Rattle.crew_trait.specs.declared.reply.Reply.{Reply}
use Rattle.crew_trait.specs.declared.reply.Reply.TheVariants.{Answer, StartRefused, EndRefused}
use Rattle.answers_text.specs.Texts.{job_text}
use Rattle.answers_text.specs.declared.record.Record.{Record}
use Rattle.crew_journal.specs.declared.flight.Flight.{Flight}

-- The child of each slot, and the records of those that have ended. (own)
pub record Book : Type 0 where
  pub flights : List (Option Flight)
  pub records : List Record

-- No child is in flight. (own)
abbrev pub no_flights : List (Option Flight)
no_flights = replicate 16 None

-- The record of the reply to a child, if it is an answer. (own)
abbrev pub record_at : Option Flight → Reply → List Record
record_at None reply = []
record_at (Some flight) (Answer status text) = record { number = flight.number; job = flight.job; status = status; text = text } ∷ []
record_at (Some flight) StartRefused = []
record_at (Some flight) EndRefused = []

-- The book after an event. (own)
abbrev pub after_event : Book → CrewEvent → Book
after_event book (Started slot job number) =
    record { flights = slice_set book.flights slot (Some (record { number = number; job = job_text job })); records = book.records }
after_event book (Ended slot reply number) =
    record { flights = slice_set book.flights slot None; records = book.records ++ record_at (slice_index_or book.flights slot None) reply }

-- The book of a list of events. (own)
abbrev pub book_of : List CrewEvent → Book
book_of events = fold after_event (record { flights = no_flights; records = [] }) events

-- The records of the answers to children, in the order of their ends: each has the number of its start and the job. (own)
abbrev pub records_of : List CrewEvent → List Record
records_of events = (book_of events).records
