-- The arguments of a record, and how they are shown.
use Rattle.std.specs.Prelude.{ℕ, ◌==◌, List, ◌++◌, length, flat_map, Option, None, option_map, Result, Ok, Err, codes, if◌then◌else◌}
use Rattle.cachefile.specs.Word.{word_of}
use Rattle.status_record.specs.declared.fault.RecordFault.{RecordFault}
use Rattle.status_record.specs.declared.record.Record.{Record}

-- The arguments that a text keeps, by its reading as a record: none if it is no record, or has no arguments. (own)
abbrev pub arguments_in : Result Record RecordFault → Option (List (List ℕ))
arguments_in (Ok made) = made.args
arguments_in (Err fault) = None

-- The arguments that a text keeps, and its definitions, by its reading as a record: none if it is no record, or has no arguments. (own)
abbrev pub kept_in : Result Record RecordFault → Option (List (List ℕ) × List (List ℕ × List ℕ))
kept_in (Ok made) = option_map (λ arguments. (arguments, made.defs)) made.args
kept_in (Err fault) = None

-- An argument as a word of a shell. (POSIX shell, 2.2)
abbrev pub shell_word : List ℕ → List ℕ
shell_word argument = if length argument == 0 then codes "''" else word_of argument

-- The same after a blank. (own)
unfoldable pub argument_word : List ℕ → List ℕ
argument_word argument = codes " " ++ shell_word argument

-- The front of the line of a run. (own)
unfoldable pub run_front : List ℕ
run_front = codes "The run that config.status is of: acrun configure"

-- The line of a run with these arguments. (own)
abbrev pub run_line : List (List ℕ) → List ℕ
run_line arguments = run_front ++ (flat_map argument_word arguments ++ codes "\n")
