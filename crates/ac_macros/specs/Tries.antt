-- Readers of macros that try programs, and of the programs that they try. (Autoconf's manual, "Running the Compiler"
-- and "Generating Sources")
use Rattle.std.specs.Prelude.{ℕ, ◌==◌, List, length, Option, Some, None, Result, Ok, Err, nat_le, codes}
use Rattle.m4quote.specs.ItemValue.{Span}
use Rattle.ac_statement.specs.declared.fault.ParseFault.{ParseFault}
use Rattle.ac_statement.specs.declared.fault.ParseFault.TheVariants.{UnknownStatement, ArgCount}
use Rattle.ac_statement.specs.Texts.{arg_at}
use Rattle.ac_args.specs.Help.{Called, sole_call}
use Rattle.ac_statement.specs.Inside.{call_items}
use Rattle.ac_args.specs.Programs.{source_text}
use Rattle.ac_statement.specs.Reading.{◌>>=◌, wants}
use Rattle.ac_args.specs.Shell.{here_text}
use Rattle.ac_tree.specs.declared.program.Program.{Program}
use Rattle.ac_tree.specs.declared.program.Program.TheVariants as made
use Rattle.ac_tree.specs.declared.program.Try.{Try}
use Rattle.ac_tree.specs.declared.statement.Question.{Question}
use Rattle.ac_tree.specs.declared.statement.Question.TheVariants.{Tries}

-- AC_LANG_PROGRAM([prologue], [body]), with its name at this offset. (Autoconf's manual, "Generating Sources")
unfoldable pub lang_program : List Span → ℕ → Result Program ParseFault
lang_program args at = do
  _ ← wants (nat_le (length args) 2) (ArgCount at)
  prologue ← source_text (arg_at args 0)
  body ← here_text (arg_at args 1)
  Ok (made.Program prologue body)

-- AC_LANG_SOURCE(text), with its name at this offset. (Autoconf's manual, "Generating Sources")
unfoldable pub lang_source : List Span → ℕ → Result Program ParseFault
lang_source args at = do
  _ ← wants (length args == 1) (ArgCount at)
  t ← source_text (arg_at args 0)
  Ok (made.Whole t)

-- The program of one of the two calls, in an argument at this offset. (own)
abbrev pub called : ℕ → Option Called → Option Called → Result Program ParseFault
called at (Some c) other = lang_program c.args c.at
called at None (Some c) = lang_source c.args c.at
called at None None = Err (UnknownStatement at)

-- The program of an argument: one of the two calls alone, quoted or not, with blanks and `dnl` lines around it. (own)
unfoldable pub tried_program : Span → Result Program ParseFault
tried_program arg = do
  items ← call_items arg
  called arg.at (sole_call (codes "AC_LANG_PROGRAM") items) (sole_call (codes "AC_LANG_SOURCE") items)

-- AC_COMPILE_IFELSE(program, ..), AC_LINK_IFELSE, AC_PREPROC_IFELSE and AC_RUN_IFELSE. (Autoconf's manual, "Running the
-- Compiler")
unfoldable pub tries : Try → List Span → Result Question ParseFault
tries kind args = do
  p ← tried_program (arg_at args 0)
  Ok (Tries kind p)
