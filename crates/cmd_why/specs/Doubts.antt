-- What a log can't show for certain, and what the record has of it.
use Rattle.std.specs.Prelude.{ℕ, nat_eq, bytes_eq, Bool, true, false, List, [], ◌∷◌, ◌++◌, ◌||◌, Option, Some, None, codes, if◌then◌else◌}
use Rattle.std.specs.List.{starts_with}
use Rattle.deftable.specs.Table.{value_of}
use Rattle.cfglog.specs.declared.forms.LineKind.{LineKind}
use Rattle.cfglog.specs.declared.forms.LineKind.TheVariants.{Message, Command, Diagnostics, Status, Refused, Heading, Program}
use Rattle.cmd_why.specs.Lines.{Line}
use Rattle.cmd_why.specs.declared.seen.Seen.{Seen}
use Rattle.cmd_why.specs.declared.seen.Seen.TheVariants.{Unlooked, Unrecorded, Recorded}

-- ---- a log that can be read in two ways

-- A text begins as the status of a child or a line of a failed program does, or is another line that only a child has. (own)
abbrev pub is_of_child : List ℕ → Bool
is_of_child text =
    starts_with nat_eq text (codes "status ")
    || (starts_with nat_eq text (codes "| ")
    || (bytes_eq text (codes "failed program was:\n")
    || (bytes_eq text (codes "start refused\n") || bytes_eq text (codes "wait refused\n"))))

-- A line of this kind and this text is a message, but looks as only a line of a child does. (own)
abbrev pub is_odd_in : LineKind → List ℕ → Bool
is_odd_in Message text = is_of_child text
is_odd_in part text = false

-- One of these lines is such a message. A child whose diagnostics have the line of a status ends there for who reads the log, and its
-- own end is such a message then. (own)
abbrev pub has_odd : List Line → Bool
has_odd [] = false
has_odd (line ∷ rest) = if is_odd_in line.part line.text then true else has_odd rest

-- What is said of a log that can be read in two ways. (own)
unfoldable pub doubt_words : List ℕ
doubt_words = codes "This log can be read in two ways: among its messages is a line as only a child has it. If a compiler wrote lines as acrun does, a check may be none of the run, and an answer may be another one. For a definition see config.status.\n"

-- What is said of these lines of a log. (own)
unfoldable pub doubt_text : List Line → List ℕ
doubt_text log = if has_odd log then doubt_words else []

-- ---- what the record has of a definition

-- The front of what is said of a definition that the record has. (own)
unfoldable pub defined_front : List ℕ
defined_front = codes "config.status has this definition: "

-- The front of what is said of a definition that the record lacks. (own)
unfoldable pub undefined_front : List ℕ
undefined_front = codes "config.status has no definition of "

-- What is said of a name that the record doesn't define: nothing, unless it begins as those do that checks define. (own)
unfoldable pub undefined_text : List ℕ → List ℕ
undefined_text name =
    if starts_with nat_eq name (codes "HAVE_") then undefined_front ++ (name ++ codes ".\n") else []

-- What is said of a name with this definition, if the record has one. (own)
abbrev pub definition_text : List ℕ → Option (List ℕ) → List ℕ
definition_text name None = undefined_text name
definition_text name (Some value) = defined_front ++ (name ++ (codes " " ++ (value ++ codes "\n")))

-- What is said of a name, if a record is seen. (own)
unfoldable pub defined_text : Seen → List ℕ → List ℕ
defined_text Unlooked name = []
defined_text Unrecorded name = []
defined_text (Recorded arguments cache defs) name = definition_text name (value_of defs name)
