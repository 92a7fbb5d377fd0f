-- The line of a child that was started. (own)
use Rattle.std.specs.Prelude.{ℕ, nat_le, List, [], ◌∷◌, ◌++◌, Option, Some, None, codes, decimal, flat_map, length, if◌then◌else◌}
use Rattle.crew_jobs.specs.declared.job.Job.{Job}
use Rattle.crew_progress.specs.Screen.{shown_byte, fitting}
use Rattle.crew_progress.specs.Subject.{subject_of_file, command_text}

-- What a child is for, after a comma, if its conftest shows that. (own)
abbrev pub purpose : Option (List ℕ) → List ℕ
purpose None = []
purpose (Some told) = 44 ∷ told

-- What is said of a child: its number, what it is for if its conftest shows that, and its command. (own)
unfoldable pub child_text : ℕ → Job → List ℕ
child_text number job = codes "acrun: child " ++ decimal number ++ purpose (subject_of_file job.file) ++ codes ":" ++ command_text job.words

-- Three dots, unless the text is shown whole in 396 columns. (own)
unfoldable pub mark : List ℕ → List ℕ
mark text = if nat_le (length (flat_map shown_byte text)) 396 then [] else codes "..."

-- A text as a line of at most 400 bytes, its newline among them: what is shown of it in 396 columns, and a mark if that isn't all. (own)
unfoldable pub row : List ℕ → List ℕ
row text = fitting 396 text ++ (mark text ++ 10 ∷ [])

-- The line of the child that has this number and does this job. (own)
unfoldable pub child_line : ℕ → Job → List ℕ
child_line number job = row (child_text number job)
