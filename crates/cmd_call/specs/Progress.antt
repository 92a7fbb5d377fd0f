-- What the program shows of its children. (own)
use Rattle.std.specs.Prelude.{◌≡◌, ℕ, ◌&&◌, Bool, true, false, not, List, Ok, bytes_eq, codes, if◌then◌else◌}
use Rattle.std.specs.List.{list_any}
use Rattle.options_line.specs.Arguments.{Argument, Flag, read_argument}
use Rattle.options_line.specs.declared.argument.Switch.TheVariants.{Quiet}
use Rattle.options.specs.Opening.{opening}
use Rattle.options.specs.declared.settings.Settings.{Settings}
use Rattle.cmd_call.specs.Calls.{ProgramCall, Configure}
use Rattle.cmd_call.specs.declared.progress.Showing.{Showing}
use Rattle.cmd_call.specs.declared.progress.Showing.TheVariants.{Nothing, Line, Lines}

-- The reading is that of `--quiet`, in any of its forms. (Autoconf's manual, "configure Invocation")
abbrev pub turns_quiet : Argument → Bool
turns_quiet (Flag Quiet) = true
turns_quiet said = false

-- The argument is `--quiet`, in any of its forms. (Autoconf's manual, "configure Invocation")
abbrev pub is_quiet : List ℕ → Bool
is_quiet argument = turns_quiet (read_argument argument)

-- The program may show its progress: it is asked to run a configure.ac, and no argument is `--quiet`. (own)
abbrev pub may_show_progress : ProgramCall → Bool
may_show_progress (Configure window arguments) = not (list_any is_quiet arguments)
may_show_progress call = false

-- The entry of an environment asks for a line of each child: it is ACRUN_PROGRESS, and its value is `lines`. (own)
abbrev pub asks_lines : List ℕ × List ℕ → Bool
asks_lines entry = bytes_eq entry.0 (codes "ACRUN_PROGRESS") && bytes_eq entry.1 (codes "lines")

-- What a run that isn't quiet shows, in this environment, with a standard error that is a terminal or not: lines if they are asked
-- for, and otherwise the line of a terminal, if there is one. (own)
abbrev pub showing_in : List (List ℕ × List ℕ) → Bool → Showing
showing_in environment is_terminal = if list_any asks_lines environment then Lines else if is_terminal then Line else Nothing

-- What the program shows of its children. (own)
abbrev pub showing_of : ProgramCall → List (List ℕ × List ℕ) → Bool → Showing
showing_of call environment is_terminal = if may_show_progress call then showing_in environment is_terminal else Nothing

-- No run with these arguments is quiet, whatever its source declares and its environment is. (own)
abbrev pub IsNeverQuiet : List (List ℕ) → Type 0
IsNeverQuiet arguments =
    (features packages precious : List (List ℕ)) (environment : List (List ℕ × List ℕ)) (settings : Settings)
    → opening features packages precious arguments environment ≡ Ok settings → settings.quiet ≡ false
