-- What a reader sees of a log that a run wrote.
use Rattle.std.specs.Prelude.{◌≡◌, ◌<◌, ◌^◌, ◌==◌, ℕ, false, List, [], ◌∷◌, ◌++◌, Option, Some, None, map, flat_map, codes, decimal, if◌then◌else◌}
use Rattle.bstr.specs.Text.{lines_of}
use Rattle.cfglog.specs.Texts.{closed, command_line}
use Rattle.crew_trait.specs.declared.entry.Entry.{Entry}
use Rattle.crew_trait.specs.declared.entry.Entry.TheVariants.{Said, Child}
use Rattle.crew_trait.specs.declared.reply.Reply.{Reply}
use Rattle.crew_trait.specs.declared.reply.Reply.TheVariants.{Answer, StartRefused, EndRefused}
use Rattle.cfglog.specs.declared.forms.LineKind.{LineKind}
use Rattle.cfglog.specs.declared.forms.LineKind.TheVariants.{Message, Command, Diagnostics, Status, Refused, Heading, Program}
use Rattle.cfglog.specs.Log.{is_command, is_status, is_refusal, is_heading, is_program}

-- ---- what an entry says

-- The line of a status. (own)
abbrev pub status_line : ℕ → List ℕ
status_line status = codes "status " ++ (decimal status ++ codes "\n")

-- A line of the program that failed. (own)
abbrev pub program_line : List ℕ → List ℕ
program_line line = codes "| " ++ closed line

-- The heading and the lines of the program, if there is one and the status isn't 0. (own)
abbrev pub seen_program : ℕ → Option (List ℕ × List ℕ) → List (LineKind × List ℕ)
seen_program status None = []
seen_program status (Some file) =
    if status == 0 then []
    else (Heading, codes "failed program was:\n") ∷ map (λ line. (Program, program_line line)) (lines_of file.1)

-- The lines of a reply to a job with this file. (own)
abbrev pub seen_reply : Option (List ℕ × List ℕ) → Reply → List (LineKind × List ℕ)
seen_reply file (Answer status diagnostics) =
    map (λ line. (Diagnostics, line)) (lines_of (closed diagnostics)) ++ ((Status, status_line status) ∷ seen_program status file)
seen_reply file StartRefused = (Refused, codes "start refused\n") ∷ []
seen_reply file EndRefused = (Refused, codes "wait refused\n") ∷ []

-- The lines of an entry: those of a message, or a command and those of its reply. (own)
abbrev pub seen : Entry → List (LineKind × List ℕ)
seen (Said note) = map (λ line. (Message, line)) (lines_of (closed note.text))
seen (Child job reply) = (Command, command_line job.words) ∷ seen_reply job.file reply

-- ---- entries that can be told apart

-- The line of a message has the form of no other line. (own)
abbrev pub IsPlainMessage : List ℕ → Type 0
IsPlainMessage line = (is_command line ≡ false) × (is_heading line ≡ false) × (is_program line ≡ false)

-- The line of diagnostics has the form of no line at a child's end. (own)
abbrev pub IsPlainDiagnostics : List ℕ → Type 0
IsPlainDiagnostics line = (is_status line ≡ false) × (is_refusal line ≡ false)

-- Each of these lines is so. (own)
abbrev pub EachLine : (List ℕ → Type 0) → List (List ℕ) → Type 0
EachLine P [] = Unit {0}
EachLine P (line ∷ rest) = P line × EachLine P rest

-- No line of the diagnostics has the form of one at a child's end, and the status fits its type. (own)
abbrev pub IsPlainReply : Reply → Type 0
IsPlainReply (Answer status diagnostics) = EachLine IsPlainDiagnostics (lines_of (closed diagnostics)) × (status < 2 ^ 64)
IsPlainReply StartRefused = Unit {0}
IsPlainReply EndRefused = Unit {0}

-- No line of a message or of diagnostics has the form of another line of a log, and a command is one line. (own)
abbrev pub IsPlain : Entry → Type 0
IsPlain (Said note) = EachLine IsPlainMessage (lines_of (closed note.text))
IsPlain (Child job reply) = (lines_of (command_line job.words) ≡ command_line job.words ∷ []) × IsPlainReply reply

-- Each entry is plain. (own)
abbrev pub ArePlain : List Entry → Type 0
ArePlain [] = Unit {0}
ArePlain (entry ∷ rest) = IsPlain entry × ArePlain rest
