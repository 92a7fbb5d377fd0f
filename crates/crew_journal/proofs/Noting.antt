-- What is noted of starts and ends.
use Rattle.std.proofs.Common.{◌≡◌, ℕ, Bool, true, false, List, [], ◌∷◌, ◌++◌, fold, refl, sym, ap, ◌∙◌, subst, append-nil}
use Rattle.std.specs.Prelude.{Option, Some, None, slice_index_or, slice_set}
use Rattle.std.proofs.lemmas.Bool.{true≢false}
use Rattle.crew_jobs.specs.declared.job.Job.{Job}
use Rattle.crew_trait.specs.declared.event.CrewEvent.{CrewEvent}
use Rattle.crew_trait.specs.declared.event.CrewEvent.TheVariants.{Started, Ended}
use Rattle.crew_trait.specs.declared.reply.Reply.{Reply}
use Rattle.answers_text.specs.Texts.{job_text}
use Rattle.answers_text.specs.declared.record.Record.{Record}
use Rattle.crew_journal.specs.Book.{Book, after_event, book_of, no_flights, record_at, records_of}
use Rattle.crew_journal.specs.Journal.{IsJournal}
use Rattle.crew_journal.specs.Texts.{IsPen}
use Rattle.crew_journal.specs.declared.flight.Flight.{Flight}

fold_push : (book : Book) (es : List CrewEvent) (x : CrewEvent) → fold after_event book (es ++ x ∷ []) ≡ after_event (fold after_event book es) x
fold_push book [] x = refl
fold_push book (e ∷ es) x = fold_push (after_event book e) es x

book_push : (es : List CrewEvent) (x : CrewEvent) → book_of (es ++ x ∷ []) ≡ after_event (book_of es) x
book_push es x = fold_push (record { flights = no_flights; records = [] }) es x

-- The records of one more event.
more_of : Book → CrewEvent → List Record
more_of book (Started slot job number) = []
more_of book (Ended slot reply number) = record_at (slice_index_or book.flights slot None) reply

after_records : (book : Book) (x : CrewEvent) → (after_event book x).records ≡ book.records ++ more_of book x
unfolding more_of
after_records book (Started slot job number) = sym (append-nil book.records)
after_records book (Ended slot reply number) = refl

records_push : (es : List CrewEvent) (x : CrewEvent) → records_of (es ++ x ∷ []) ≡ records_of es ++ more_of (book_of es) x
records_push es x = ap (λ b. b.records) (book_push es x) ∙ after_records (book_of es) x

pub noted_off : (first : List ℕ) (before : ℕ) (events : List CrewEvent) (x : CrewEvent) (texts : Option (List (List ℕ))) (digest : List ℕ) (left : ℕ) (on : Bool) (flights : List (Option Flight))
    → ((more : List Record) → IsPen first before (records_of events ++ more) texts digest left on) → on ≡ false → IsJournal first before (events ++ x ∷ []) texts digest left on flights
noted_off first before events x texts digest left on flights pen off = record {
  pen = subst (λ rs. IsPen first before rs texts digest left on) (sym (records_push events x)) (pen (more_of (book_of events) x));
  in_flight = λ is. absurd (true≢false (sym is ∙ off));
}

pub noted_start : (first : List ℕ) (before : ℕ) (events : List CrewEvent) (texts : Option (List (List ℕ))) (digest : List ℕ) (left : ℕ) (on : Bool) (flights after : List (Option Flight))
    (slot number : ℕ) (job : Job) (text : List ℕ)
    → IsJournal first before events texts digest left on flights → text ≡ job_text job → after ≡ slice_set flights slot (Some (record { number = number; job = text }))
    → IsJournal first before (events ++ Started slot job number ∷ []) texts digest left on after
noted_start first before events texts digest left on flights after slot number job text h text_is after_is =
    record {
      pen = subst (λ rs. IsPen first before rs texts digest left on) (sym (ap (λ b. b.records) (book_push events (Started slot job number)))) h.pen;
      in_flight = λ is.
          ap (λ b. b.flights) (book_push events (Started slot job number)) ∙ ap (λ f. slice_set f slot (Some (record { number = number; job = job_text job }))) (h.in_flight is)
          ∙ ap (λ t. slice_set flights slot (Some (record { number = number; job = t }))) (sym text_is) ∙ sym after_is;
    }

-- A record was made of the child that ended.
pub made_is : (flights : List (Option Flight)) (slot : ℕ) (flight : Option Flight) (reply : Reply) (book : Book) → book.flights ≡ flights → flight ≡ slice_index_or flights slot None
    → record_at flight reply ≡ record_at (slice_index_or book.flights slot None) reply
made_is flights slot flight reply book same is = ap (λ f. record_at f reply) (is ∙ ap (λ fs. slice_index_or fs slot None) (sym same))

pub noted_end : (first : List ℕ) (before number : ℕ) (events : List CrewEvent) (texts : Option (List (List ℕ))) (digest : List ℕ) (left : ℕ) (on was : Bool) (flights after : List (Option Flight))
    (slot : ℕ) (flight : Option Flight) (reply : Reply)
    → (was ≡ true → (book_of events).flights ≡ flights) → was ≡ true → flight ≡ slice_index_or flights slot None → after ≡ slice_set flights slot None
    → IsPen first before (records_of events ++ record_at flight reply) texts digest left on
    → IsJournal first before (events ++ Ended slot reply number ∷ []) texts digest left on after
noted_end first before number events texts digest left on was flights after slot flight reply known was_on flight_is after_is pen =
    let same = made_is flights slot flight reply (book_of events) (known was_on) flight_is in
    record {
      pen =
          subst (λ rs. IsPen first before rs texts digest left on) (ap (λ l. records_of events ++ l) same ∙ sym (ap (λ b. b.records) (book_push events (Ended slot reply number)))) pen;
      in_flight = λ is.
          ap (λ b. b.flights) (book_push events (Ended slot reply number)) ∙ ap (λ f. slice_set f slot None) (known was_on) ∙ sym after_is;
    }

pub journal_begun : (first : List ℕ) (before : ℕ) (texts : Option (List (List ℕ))) (digest : List ℕ) (left : ℕ) (on : Bool) (flights : List (Option Flight))
    → IsPen first before [] texts digest left on → flights ≡ no_flights → IsJournal first before [] texts digest left on flights
journal_begun first before texts digest left on flights pen is = record { pen = pen; in_flight = λ e. sym is }

pub journal_off : (first : List ℕ) (before : ℕ) (texts : Option (List (List ℕ))) (digest : List ℕ) (left : ℕ) (on : Bool) (flights : List (Option Flight))
    → IsPen first before [] texts digest left on → on ≡ false → IsJournal first before [] texts digest left on flights
journal_off first before texts digest left on flights pen off = record { pen = pen; in_flight = λ e. absurd (true≢false (sym e ∙ off)) }
