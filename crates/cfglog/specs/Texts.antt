-- The texts that a run leaves for its user: what it prints, and its log.
use Rattle.std.specs.Prelude.{ℕ, ◌==◌, ◌&&◌, not, Bool, true, false, List, [], ◌∷◌, ◌++◌, length, Option, Some, None, flat_map, codes, decimal, if◌then◌else◌}
use Rattle.bstr.specs.Text.{lines_of}
use Rattle.conftest_source.specs.Sources.{ended}
use Rattle.cachefile.specs.Word.{word_of}
use Rattle.deftable.specs.declared.note.Note.{Note}
use Rattle.deftable.specs.declared.note.Stream.{Stream}
use Rattle.deftable.specs.declared.note.Stream.TheVariants.{Out}
use Rattle.deftable.specs.declared.note.Stream.TheVariants.{Err as ToErr}
use Rattle.crew_jobs.specs.declared.job.Job.{Job}
use Rattle.crew_trait.specs.declared.entry.Entry.{Entry}
use Rattle.crew_trait.specs.declared.entry.Entry.TheVariants.{Said, Child}
use Rattle.crew_trait.specs.declared.reply.Reply.{Reply}
use Rattle.crew_trait.specs.declared.reply.Reply.TheVariants.{Answer, StartRefused, EndRefused}

-- ---- what is printed

-- Whether a piece for the second stream is shown on the first one: quiet drops what is for standard output. (Autoconf's
-- manual, "configure Invocation")
abbrev pub is_shown : Stream → Bool → Stream → Bool
is_shown Out quiet Out = not quiet
is_shown Out quiet ToErr = false
is_shown ToErr quiet Out = false
is_shown ToErr quiet ToErr = true

-- The text of a piece if it is shown, and otherwise nothing. (own)
abbrev pub note_text : Stream → Bool → Note → List ℕ
note_text stream quiet note = if is_shown stream quiet note.stream then note.text else []

-- The pieces for a stream, one after the other. (own)
abbrev pub messages_of : Stream → Bool → List Note → List ℕ
messages_of stream quiet notes = flat_map (note_text stream quiet) notes

-- ---- the log

-- The text, with a newline added if it isn't empty and doesn't end in one. (own)
unfoldable pub closed : List ℕ → List ℕ
closed text = if length text == 0 then [] else ended text

-- A word of a command: the empty word is in quotes. (POSIX shell, 2.2)
unfoldable pub written : List ℕ → List ℕ
written word = if length word == 0 then codes "''" else word_of word

-- The line of a command: `$`, and each word after a blank. (own)
abbrev pub command_line : List (List ℕ) → List ℕ
command_line words = codes "$" ++ (flat_map (λ word. codes " " ++ written word) words ++ codes "\n")

-- The program that failed, each line after `| `. (own; Autoconf's log has the same)
abbrev pub failed_program : List ℕ → List ℕ
failed_program text = codes "failed program was:\n" ++ flat_map (λ line. codes "| " ++ closed line) (lines_of text)

-- What follows a status: the program, if there is one and the status isn't 0. (own)
abbrev pub program_after : ℕ → Option (List ℕ × List ℕ) → List ℕ
program_after status None = []
program_after status (Some file) = if status == 0 then [] else failed_program file.1

-- The lines of a reply to a job with this file: the diagnostics and the status of an answer, or what was refused. (own)
abbrev pub reply_text : Option (List ℕ × List ℕ) → Reply → List ℕ
reply_text file (Answer status diagnostics) =
    closed diagnostics ++ (codes "status " ++ (decimal status ++ (codes "\n" ++ program_after status file)))
reply_text file StartRefused = codes "start refused\n"
reply_text file EndRefused = codes "wait refused\n"

-- The lines of an entry: a piece, or a child with its reply. (own)
abbrev pub entry_text : Entry → List ℕ
entry_text (Said note) = closed note.text
entry_text (Child job reply) = command_line job.words ++ reply_text job.file reply

-- The log, entry by entry. (own)
abbrev pub log_of : List Entry → List ℕ
log_of entries = flat_map entry_text entries
