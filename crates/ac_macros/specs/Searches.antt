-- Readers of macros that look for programs. (Autoconf's manual, "Generic Programs" and "C Compiler")
use Rattle.std.specs.Prelude.{ℕ, ◌+◌, Bool, List, [], ◌∷◌, length, Option, Some, None, Result, Ok, nat_le, codes, if◌then◌else◌}
use Rattle.deftable.specs.NameList.{has_name}
use Rattle.m4quote.specs.ItemValue.{Span}
use Rattle.shellword.specs.declared.part.Part.{Part}
use Rattle.ac_statement.specs.declared.fault.ParseFault.{ParseFault}
use Rattle.ac_statement.specs.declared.fault.ParseFault.TheVariants.{TooMany}
use Rattle.ac_args.specs.Arguments.{name, is_given}
use Rattle.ac_statement.specs.Texts.{arg_at}
use Rattle.ac_args.specs.Programs.{program, programs}
use Rattle.ac_statement.specs.Reading.{◌>>=◌, wants}
use Rattle.ac_args.specs.Shell.{here_text}
use Rattle.ac_tree.specs.declared.declarations.Declarations as declarations
use Rattle.ac_tree.specs.declared.statement.Declares.{Declares}
use Rattle.ac_tree.specs.declared.statement.Declares.TheVariants.{Variable, Compiler}
use Rattle.ac_tree.specs.declared.statement.Effect.{Effect}
use Rattle.ac_tree.specs.declared.statement.Effect.TheVariants.{Search, Searches}
use Rattle.ac_tree.specs.declared.statement.ProgramValue.TheVariants.{Text, FullName}
use Rattle.ac_macros.specs.Room.{has_room}

-- The name of an output variable, given the earlier ones of the source. (own)
unfoldable pub output_variable : declarations.Declarations → Span → Result (List ℕ) ParseFault
output_variable c arg = do
  n ← name arg
  _ ← wants (has_room c.substituted n) (TooMany arg.at)
  Ok n

-- A value, if the argument is given. (own)
unfoldable pub optional_text : Span → Result (Option (List Part)) ParseFault
optional_text arg = if is_given arg then (here_text arg >>= λ h. Ok (Some h)) else Ok None

-- AC_CHECK_PROG(variable, program, value if found, [value if not found]). (Autoconf's manual, "Generic Programs")
unfoldable pub check_prog : declarations.Declarations → List Span → Result (Declares × Effect) ParseFault
check_prog c args = do
  v ← output_variable c (arg_at args 0)
  p ← program (arg_at args 1)
  found ← here_text (arg_at args 2)
  other ← optional_text (arg_at args 3)
  Ok (Variable v, Search v p (Text found) other)

-- The statement of three arguments: a variable, what is looked for, and optionally the value if it is not found. (own)
abbrev pub searched : {A : Type 0} → (Span → Result A ParseFault) → (List ℕ → A → Option (List Part) → Effect)
    → declarations.Declarations → List Span → Result (Declares × Effect) ParseFault
searched reader effect c args = do
  v ← output_variable c (arg_at args 0)
  sought ← reader (arg_at args 1)
  other ← optional_text (arg_at args 2)
  Ok (Variable v, effect v sought other)

-- AC_CHECK_PROGS(variable, programs, [value if none is found]). (Autoconf's manual, "Generic Programs")
unfoldable pub check_progs : declarations.Declarations → List Span → Result (Declares × Effect) ParseFault
check_progs = searched programs (λ v list other. Searches v list other)

-- AC_PATH_PROG(variable, program, [value if not found]). (Autoconf's manual, "Generic Programs")
unfoldable pub path_prog : declarations.Declarations → List Span → Result (Declares × Effect) ParseFault
path_prog = searched program (λ v p other. Search v p FullName other)

-- ---- compilers

-- 1 if the name is new to the list, else 0. (own)
abbrev pub growth : List (List ℕ) → List ℕ → ℕ
growth names n = if has_name names n then 0 else 1

-- The list has room for the variables of the compiler: with them it has at most 1,024 names. (own)
abbrev pub has_tool_room : List (List ℕ) → Bool
has_tool_room names =
    nat_le (length names + growth names (codes "CC") + growth names (codes "CFLAGS") + growth names (codes "LDFLAGS")
    + growth names (codes "LIBS") + growth names (codes "CPPFLAGS")) 1024

-- The compilers of an AC_PROG_CC that names none. (own)
abbrev pub usual_compilers : List (List ℕ)
usual_compilers = codes "gcc" ∷ codes "cc" ∷ []

-- The compilers that the argument lists, or the usual ones. (Autoconf's manual, "C Compiler")
unfoldable pub compilers : Span → Result (List (List ℕ)) ParseFault
compilers arg = if is_given arg then programs arg else Ok usual_compilers

-- AC_PROG_CC([compilers]), with its name at this offset. (Autoconf's manual, "C Compiler")
unfoldable pub prog_cc : declarations.Declarations → ℕ → List Span → Result (Declares × Effect) ParseFault
prog_cc c at args = do
  _ ← wants (has_tool_room c.substituted) (TooMany at)
  list ← compilers (arg_at args 0)
  Ok (Compiler, Searches (codes "CC") list None)
