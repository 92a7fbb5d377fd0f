-- The line of progress, and what is written after a list of events. (own)
use Rattle.std.specs.Prelude.{ℕ, ◌+◌, ◌==◌, List, [], ◌∷◌, ◌++◌, codes, decimal, fold, if◌then◌else◌}
use Rattle.crew_trait.specs.declared.event.CrewEvent.{CrewEvent}
use Rattle.crew_trait.specs.declared.event.CrewEvent.TheVariants.{Started, Ended}
use Rattle.crew.specs.Counting.{started_in}
use Rattle.crew_progress.specs.Screen.{shown}
use Rattle.crew_progress.specs.Subject.{subject_of}

-- The line after so many starts and ends, with what it says of a job. (own)
unfoldable pub line_of : ℕ → ℕ → List ℕ → List ℕ
line_of started ended subject = shown (decimal started ++ codes " started, " ++ decimal ended ++ codes " ended:" ++ subject)

-- A carriage return and the control sequence `EL`: the line on which the cursor is, is empty. (ECMA-48, 8.3.41).
abbrev pub erasure : List ℕ
erasure = 13 ∷ 27 ∷ 91 ∷ 75 ∷ []

-- The control sequences after which a line that is wider than the terminal is cut at its edge, and after which it is
-- continued below. (DEC's private mode 7, autowrap).
abbrev pub wrapping_off : List ℕ
wrapping_off = 27 ∷ 91 ∷ 63 ∷ 55 ∷ 108 ∷ []

abbrev pub wrapping_on : List ℕ
wrapping_on = 27 ∷ 91 ∷ 63 ∷ 55 ∷ 104 ∷ []

-- What is written after so many starts and ends: the erasure and, unless all that were started have ended, the line, which isn't
-- wrapped. (own)
unfoldable pub text_of : ℕ → ℕ → List ℕ → List ℕ
text_of started ended subject =
    erasure ++ (if ended == started then [] else wrapping_off ++ line_of started ended subject ++ wrapping_on)

-- The number of ends, after an event. (own)
abbrev pub ended_after : ℕ → CrewEvent → ℕ
ended_after n (Started slot job number) = n
ended_after n (Ended slot reply number) = n + 1

-- What a line says of the job that was started last, after an event. (own)
abbrev pub subject_after : List ℕ → CrewEvent → List ℕ
subject_after subject (Started slot job number) = subject_of job
subject_after subject (Ended slot reply number) = subject

-- The number of ends. (own)
abbrev pub ended_in : List CrewEvent → ℕ
ended_in events = fold ended_after 0 events

-- What a line says of the job that was started last, or nothing. (own)
abbrev pub subject_in : List CrewEvent → List ℕ
subject_in events = fold subject_after [] events

-- What is written once these events have happened. (own)
abbrev pub text_after : List CrewEvent → List ℕ
text_after events = text_of (started_in events) (ended_in events) (subject_in events)
