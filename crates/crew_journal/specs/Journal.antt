-- What contracts see of a crew whose replies are appended to a file.
use Rattle.std.specs.Prelude.{◌≡◌, ℕ, Bool, true, List, Option}
use Rattle.crew_trait.specs.declared.event.CrewEvent.{CrewEvent}
use Rattle.crew_kept.specs.Taking.{Keeping}
use Rattle.crew_journal.specs.Book.{book_of, records_of}
use Rattle.crew_journal.specs.Texts.{IsPen}
use Rattle.crew_journal.specs.declared.flight.Flight.{Flight}

-- The crew inside, the file, the digest before the first record that is appended, how many bytes the file had, and whether records
-- are still appended. (own)
pub record Journaling (C F : Type 0) : Type 0 where
  pub kept : Keeping C
  pub file : F
  pub first : List ℕ
  pub before : ℕ
  pub is_on : Bool

-- A file, and what is kept of it. (own)
pub record Pen (F : Type 0) : Type 0 where
  pub file : F
  pub digest : List ℕ
  pub left : ℕ
  pub is_on : Bool

-- The records of these events were appended, and the children in flight are known as long as that goes on. (own)
pub record IsJournal (first : List ℕ) (before : ℕ) (events : List CrewEvent) (texts : Option (List (List ℕ))) (digest : List ℕ) (left : ℕ) (is_on : Bool) (flights : List (Option Flight)) : Type 0 where
  pub pen : IsPen first before (records_of events) texts digest left is_on
  pub in_flight : is_on ≡ true → (book_of events).flights ≡ flights
