-- The lines of a log, and what each is.
use Rattle.std.specs.Prelude.{ℕ, Bool, true, false, not, ◌==◌, ◌&&◌, ◌||◌, nat_eq, nat_lt, nat_le, bytes_eq, List, [], ◌∷◌, length, drop, codes, if◌then◌else◌}
use Rattle.std.specs.List.{list_all, starts_with, ends_with}
use Rattle.bstr.specs.Text.{lines_of}
use Rattle.cfglog.specs.declared.forms.LineKind.{LineKind}
use Rattle.cfglog.specs.declared.forms.LineKind.TheVariants.{Message, Command, Diagnostics, Status, Refused, Heading, Program}

-- ---- the form of a line

-- The line is this text. (own)
abbrev pub is : List ℕ → List ℕ → Bool
is line text = bytes_eq line text

-- The line of a command: it begins with `$`. (own)
abbrev pub is_command : List ℕ → Bool
is_command line = starts_with nat_eq line (codes "$")

-- A digit, or the newline at the end of a line. (own)
abbrev pub is_number_byte : ℕ → Bool
is_number_byte b = b == 10 || (nat_le 48 b && nat_le b 57)

-- After its first seven bytes the line has a number, and nothing else. (own)
abbrev pub has_number : List ℕ → Bool
has_number line = nat_lt 8 (length line) && list_all is_number_byte (drop 7 line)

-- The line of a status: `status` and a number. (own)
abbrev pub is_status : List ℕ → Bool
is_status line = starts_with nat_eq line (codes "status ") && has_number line

-- The line of a child that was not started, or of which no answer is known. (own)
abbrev pub is_refusal : List ℕ → Bool
is_refusal line = is line (codes "start refused\n") || is line (codes "wait refused\n")

-- The line before the program that failed. (own)
abbrev pub is_heading : List ℕ → Bool
is_heading line = is line (codes "failed program was:\n")

-- A line of a program that failed. (own)
abbrev pub is_program : List ℕ → Bool
is_program line = starts_with nat_eq line (codes "| ")

-- ---- what a line is

-- What a line outside children is: the command of the next child, or a message. (own)
abbrev pub outside : List ℕ → LineKind
outside line = if is_command line then Command else Message

-- What a line after a command is: the child's end, or diagnostics. (own)
abbrev pub inside : List ℕ → LineKind
inside line =
    if is_status line then Status else (if is_refusal line then Refused else Diagnostics)

-- What the line after a status is. (own)
abbrev pub after_status : List ℕ → LineKind
after_status line = if is_heading line then Heading else outside line

-- What a line after the heading of a program, or after a line of it, is. (own)
abbrev pub after_program : List ℕ → LineKind
after_program line = if is_program line then Program else outside line

-- What a line is, by what the line before it is. (own)
unfoldable pub part_after : LineKind → List ℕ → LineKind
part_after Message line = outside line
part_after Command line = inside line
part_after Diagnostics line = inside line
part_after Status line = after_status line
part_after Refused line = outside line
part_after Heading line = after_program line
part_after Program line = after_program line

-- ---- the lines of a log

-- Lines, each with what it is, by what the line before them is. (own)
unfoldable pub marked : LineKind → List (List ℕ) → List (LineKind × List ℕ)
marked before [] = []
marked before (line ∷ rest) = (part_after before line, line) ∷ marked (part_after before line) rest

-- What the last of some lines is. (own)
unfoldable pub last_part : LineKind → List (List ℕ) → LineKind
last_part before [] = before
last_part before (line ∷ rest) = last_part (part_after before line) rest

-- A line of a child has come, and the child's end hasn't. (own)
abbrev pub is_inside : LineKind → Bool
is_inside Command = true
is_inside Diagnostics = true
is_inside part = false

-- The lines of a log; a line before the first would be a message. (own)
abbrev pub lines_in : List ℕ → List (LineKind × List ℕ)
lines_in text = marked Message (lines_of text)

-- The text is a log: its last line has a newline, and each child has its end. (own)
abbrev pub is_log : List ℕ → Bool
is_log text = (length text == 0 || ends_with nat_eq text (codes "\n")) && not (is_inside (last_part Message (lines_of text)))
