-- The checks of a log, and which lines are a check's.
use Rattle.std.specs.Prelude.{ℕ, suc, ◌+◌, ◌-◌, ◌==◌, ◌&&◌, ◌||◌, nat_eq, bytes_eq, Bool, true, false, not, List, [], ◌∷◌, ◌++◌, length, take, drop, Option, Some, None, option_and_then, is_some, codes, if◌then◌else◌}
use Rattle.std.specs.List.{starts_with}
use Rattle.cfglog.specs.declared.forms.LineKind.{LineKind}
use Rattle.cfglog.specs.declared.forms.LineKind.TheVariants.{Message, Command, Diagnostics, Status, Refused, Heading, Program}

-- A line of a log: what it is, its text, and how many children have begun before its end. (own)
pub record Line : Type 0 where
  pub part : LineKind
  pub text : List ℕ
  pub child : ℕ

-- How many children have begun after a line, if so many had before it. (own)
abbrev pub begun_after : ℕ → LineKind → ℕ
begun_after child Command = child + 1
begun_after child part = child

-- Lines, each with the number of children, if so many have begun before them. (own)
abbrev pub counted : ℕ → List (LineKind × List ℕ) → List Line
counted child [] = []
counted child (line ∷ rest) =
    record { part = line.0; text = line.1; child = begun_after child line.0 } ∷ counted (begun_after child line.0) rest

-- The text after this front, if it has this front. (own)
unfoldable pub after_front : List ℕ → List ℕ → Option (List ℕ)
after_front front text = if bytes_eq (take (length front) text) front then Some (drop (length front) text) else None

-- The text before this end, if it has this end. (own)
unfoldable pub before_end : List ℕ → List ℕ → Option (List ℕ)
before_end back text =
    if bytes_eq (drop (length text - length back) text) back then Some (take (length text - length back) text) else None

-- What a text has between a front and an end, if it has both. (own)
abbrev pub between : List ℕ → List ℕ → List ℕ → Option (List ℕ)
between front back text = option_and_then (λ rest. before_end back rest) (after_front front text)

-- What is checked, if a line of this kind and this text begins a check. (own)
unfoldable pub message_in : LineKind → List ℕ → Option (List ℕ)
message_in Message text = between (codes "checking ") (codes "... \n") text
message_in part text = None

-- A line of this kind and this text is an error, a warning or a notice of the run. (own)
abbrev pub is_note_in : LineKind → List ℕ → Bool
is_note_in Message text = starts_with nat_eq text (codes "configure: ")
is_note_in part text = false

-- The line is a message. (own)
abbrev pub is_message : LineKind → Bool
is_message Message = true
is_message part = false

-- What is checked, if the line begins a check. (own)
abbrev pub message_of : Line → Option (List ℕ)
message_of line = message_in line.part line.text

-- The line is an error, a warning or a notice of the run. (own)
abbrev pub is_note : Line → Bool
is_note line = is_note_in line.part line.text

-- The line is an answer: a message that begins no check and is no note. It is the answer of the check that was begun last and has
-- none. (own)
unfoldable pub is_answer : Line → Bool
is_answer line = is_message line.part && not (is_some (message_of line)) && not (is_note line)

-- The answer of a check, by the lines after its first one; so many checks that were begun after it are still open. It has none if the
-- log ends before. (own)
abbrev pub answer_in : ℕ → List Line → Option (List ℕ)
answer_in inner [] = None
answer_in inner (line ∷ rest) =
    if is_some (message_of line) then answer_in (inner + 1) rest
    else (if is_answer line then (if inner == 0 then Some line.text else answer_in (inner - 1) rest) else answer_in inner rest)

-- The lines of a check, by the lines after its first one: those up to its answer, without those of the checks that are begun
-- between. So many of these are still open. (own)
abbrev pub own : ℕ → List Line → List Line
own inner [] = []
own inner (line ∷ rest) =
    if is_some (message_of line) then own (inner + 1) rest
    else (if is_answer line then (if inner == 0 then [] else own (inner - 1) rest)
    else (if inner == 0 then line ∷ own inner rest else own inner rest))

-- A check: what is checked, and the lines of the log after its first one. (own)
pub record Check : Type 0 where
  pub message : List ℕ
  pub rest : List Line

-- The check that a line with these after it begins, if it begins one. (own)
abbrev pub check_at : Option (List ℕ) → List Line → List Check
check_at None rest = []
check_at (Some message) rest = record { message = message; rest = rest } ∷ []

-- The checks of a log, in the order of their first lines. (own)
abbrev pub checks : List Line → List Check
checks [] = []
checks (line ∷ rest) = check_at (message_of line) rest ++ checks rest

-- The answer of a check, if it has one. (own)
abbrev pub answer_of : Check → Option (List ℕ)
answer_of check = answer_in 0 check.rest

-- The lines of a check. (own)
abbrev pub lines_of : Check → List Line
lines_of check = own 0 check.rest

-- One of these lines is an error, a warning or a notice of the run. (own)
abbrev pub has_note : List Line → Bool
has_note [] = false
has_note (line ∷ rest) = if is_note line then true else has_note rest

-- Lines with these checks have something of a run: one begins a check, or is an error, a warning or a notice. (own)
unfoldable pub is_run : List Check → List Line → Bool
is_run all lines = not (length all == 0) || has_note lines
