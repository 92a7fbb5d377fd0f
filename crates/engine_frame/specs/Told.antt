-- What is told of a run: the pieces of its opening in the log, and its exit status.
use Rattle.std.specs.Prelude.{ℕ, List, map}
use Rattle.crew_trait.specs.declared.entry.Entry.{Entry}
use Rattle.crew_trait.specs.declared.entry.Entry.TheVariants.{Said}
use Rattle.deftable.specs.declared.note.Note.{Note}
use Rattle.engine_frame.specs.declared.report.Outcome.{Outcome}
use Rattle.engine_frame.specs.declared.report.Outcome.TheVariants.{Completed, Stopped, CutShort, Shown}

-- Pieces, as entries of the log. (own)
abbrev pub entries_of : List Note → List Entry
entries_of notes = map (λ note. Said note) notes

-- The exit status of a run: 0 if it is completed or a text is shown, 3 if it is cut short, and else the source's own. (own)
abbrev pub status_of : Outcome → ℕ
status_of Completed = 0
status_of (Stopped status) = status
status_of (CutShort number) = 3
status_of Shown = 0
