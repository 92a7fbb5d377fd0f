-- What is printed of the checks of a log.
use Rattle.std.specs.Prelude.{ℕ, ◌+◌, nat_eq, nat_le, Bool, true, false, List, [], ◌∷◌, ◌++◌, ◌==◌, ◌&&◌, length, map, filter, flat_map, fold, Option, Some, None, codes, decimal, if◌then◌else◌}
use Rattle.std.specs.List.{starts_with}
use Rattle.cfglog.specs.declared.forms.LineKind.{LineKind}
use Rattle.cfglog.specs.declared.forms.LineKind.TheVariants.{Message, Command, Diagnostics, Status, Refused, Heading, Program}
use Rattle.cmd_why.specs.Lines.{Line, Check, answer_of, is_answer, lines_of}
use Rattle.cmd_why.specs.Doubts.{defined_text, doubt_text}
use Rattle.cmd_why.specs.Names.{is_about}
use Rattle.cmd_why.specs.Nearest.{none_text}
use Rattle.cmd_why.specs.Origins.{cached_text}
use Rattle.cmd_why.specs.declared.seen.Seen.{Seen}

-- The line before the command of a child. (own)
abbrev pub child_line : ℕ → List ℕ
child_line number = codes "child " ++ (decimal number ++ codes ":\n")

-- What is printed of a line of a check where it stands: the command of a child, after the child's number, its diagnostics, and its
-- status or that it was refused. (own)
abbrev pub text_of : LineKind → List ℕ → ℕ → List ℕ
text_of Command text child = child_line child ++ text
text_of Diagnostics text child = text
text_of Status text child = text
text_of Refused text child = text
text_of Message text child = []
text_of Heading text child = []
text_of Program text child = []

-- The same of a line. (own)
unfoldable pub line_text : Line → List ℕ
line_text line = text_of line.part line.text line.child

-- The program that failed last, after a line of this kind and this text: a heading begins another program. (own)
abbrev pub program_after : List ℕ → LineKind → List ℕ → List ℕ
program_after program Heading text = text
program_after program Program text = program ++ text
program_after program part text = program

-- The program that failed last, with its heading, or nothing. (own)
abbrev pub last_program : List Line → List ℕ
last_program lines = fold (λ program line. program_after program line.part line.text) [] lines

-- The answer was there before its check. (Autoconf's manual, "Caching Results")
abbrev pub is_cached : List ℕ → Bool
is_cached answer = starts_with nat_eq answer (codes "(cached) ")

-- The answer of a check with this message, and what is said of it by what is seen, or that it has none. (own)
unfoldable pub answer_text : Seen → List ℕ → Option (List ℕ) → List ℕ
answer_text seen message None = codes "\nIt has no answer: the run ended before.\n"
answer_text seen message (Some answer) = answer ++ (if is_cached answer then cached_text seen message else [])

-- The first line of a check, with its answer. (own)
abbrev pub first_line : Seen → Check → List ℕ
first_line seen check = codes "checking " ++ (check.message ++ (codes "... " ++ answer_text seen check.message (answer_of check)))

-- How many bytes of diagnostics a child has in a log, if it had so many before a line of this kind and this text. From 65,536 on they
-- are not counted. (own)
abbrev pub bytes_after : ℕ → LineKind → List ℕ → ℕ
bytes_after bytes Command text = 0
bytes_after bytes Diagnostics text = if nat_le 65536 bytes then bytes else bytes + length text
bytes_after bytes part text = bytes

-- A line of this kind says that a compiler failed which had so many bytes of diagnostics that more may have been dropped: the heading
-- of its program. (own)
abbrev pub is_cut_at : ℕ → LineKind → Bool
is_cut_at bytes Heading = nat_le 65536 bytes
is_cut_at bytes part = false

-- By these lines a compiler failed whose diagnostics may have been cut, if the child before them had so many bytes. (own)
abbrev pub has_cut : ℕ → List Line → Bool
has_cut bytes [] = false
has_cut bytes (line ∷ rest) = if is_cut_at bytes line.part then true else has_cut (bytes_after bytes line.part line.text) rest

-- What is said of diagnostics that were cut. (own)
unfoldable pub cut_words : List ℕ
cut_words = codes "A compiler failed here that wrote 65,536 bytes of diagnostics or more. The rest was dropped, and the answer may come from that.\n"

-- What is said if diagnostics of a check with these lines were cut. (own)
unfoldable pub cut_text : List Line → List ℕ
cut_text lines = if has_cut 0 lines then cut_words else []

-- What is printed of a check: its message and answer, the command, the diagnostics and the status of each of its children, whether
-- diagnostics were cut, and the program that failed last. (own)
unfoldable pub check_text : Seen → Check → List ℕ
check_text seen check =
    first_line seen check ++ (flat_map line_text (lines_of check) ++ (cut_text (lines_of check) ++ last_program (lines_of check)))

-- The checks that the word is about. (own)
abbrev pub chosen : List ℕ → List Check → List Check
chosen word all = filter (λ check. is_about word check.message) all

-- The answer of a check was there before it. (own)
abbrev pub is_cached_answer : Option (List ℕ) → Bool
is_cached_answer None = false
is_cached_answer (Some answer) = is_cached answer

-- The answer of one of these checks was there before it. (own)
abbrev pub has_cached : List Check → Bool
has_cached [] = false
has_cached (check ∷ more) = if is_cached_answer (answer_of check) then true else has_cached more

-- How many of these lines are answers. (own)
abbrev pub answers : List Line → ℕ
answers [] = 0
answers (line ∷ rest) = if is_answer line then answers rest + 1 else answers rest

-- How many of these lines are answers that were there before their checks. (own)
abbrev pub cached_answers : List Line → ℕ
cached_answers [] = 0
cached_answers (line ∷ rest) = if is_answer line && is_cached line.text then cached_answers rest + 1 else cached_answers rest

-- The front of the line that counts answers. (own)
unfoldable pub count_front : List ℕ
count_front = codes "Answers in the log that were there before: "

-- How many answers of a log were there before their checks. (own)
unfoldable pub count_text : List Line → List ℕ
count_text log =
    count_front ++ (decimal (cached_answers log) ++ (codes " of " ++ (decimal (answers log) ++ codes ".\n")))

-- What is printed of these checks of a log. (own)
unfoldable pub taken_text : Seen → List Line → List Check → List ℕ
taken_text seen log taken = flat_map (check_text seen) taken ++ (if has_cached taken then count_text log else [])

-- What is printed for a word of a log: what is chosen of the checks with these messages, or those that are nearest to it. (own)
abbrev pub text_for : Seen → List Line → List ℕ → List (List ℕ) → List Check → List ℕ
text_for seen log word messages taken = if length taken == 0 then none_text word messages else taken_text seen log taken

-- The exit status: 0 if a check is chosen, and otherwise 1. (own)
abbrev pub status_for : List Check → ℕ
status_for taken = if length taken == 0 then 1 else 0

-- What is printed of the checks that the word is about among these of a log, or of those that are nearest to it. (own)
unfoldable pub matched_text : Seen → List Line → List ℕ → List Check → List ℕ
matched_text seen log word all = text_for seen log word (map (λ check. check.message) all) (chosen word all)

-- What is printed for a word of a log with these checks, by what is seen of where answers may be from: what is chosen, what the record
-- has of a definition of this name, and that the log can be read in two ways, if that is so. (own)
unfoldable pub printed : Seen → List Line → List ℕ → List Check → List ℕ
printed seen log word all = matched_text seen log word all ++ (defined_text seen word ++ doubt_text log)

-- The exit status for a word and these checks. (own)
unfoldable pub status_of : List ℕ → List Check → ℕ
status_of word all = status_for (chosen word all)
