-- Readers of macros that look for headers, functions, declarations and types (Autoconf's manual, "Generic Headers", "Generic
-- Functions", "Generic Declarations" and "Generic Types").
--
-- The includes are a call's fourth argument, after the statements for yes and for no. They are read after those, so that the
-- error that is reported is that of the first argument that has one. So are the other libraries of AC_CHECK_LIB and
-- AC_SEARCH_LIBS, which are the fifth.
use Rattle.std.specs.Prelude.{List, None, Result, Ok}
use Rattle.m4quote.specs.ItemValue.{Span}
use Rattle.ac_statement.specs.declared.fault.ParseFault.{ParseFault}
use Rattle.ac_statement.specs.Reading.{◌>>=◌}
use Rattle.ac_statement.specs.Texts.{arg_at}
use Rattle.ac_args.specs.Programs.{includes}
use Rattle.ac_args.specs.Entries.{entry_of, entries_of}
use Rattle.ac_tree.specs.declared.listed.Sought.{Sought}
use Rattle.ac_tree.specs.declared.statement.Question.{Question}
use Rattle.ac_tree.specs.declared.statement.Question.TheVariants.{Given, Tries, Checks, ChecksEach, Library, Libraries}
use Rattle.ac_macros.specs.Searches.{optional_text}

-- AC_CHECK_HEADER(header, ..), AC_CHECK_FUNC, AC_CHECK_DECL and AC_CHECK_TYPE, before their includes are read. (Autoconf's
-- manual, the sections of the macros)
unfoldable pub checks : Sought → List Span → Result Question ParseFault
checks sought args = do
  entry ← entry_of sought (arg_at args 0)
  Ok (Checks sought entry None)

-- AC_CHECK_HEADERS(headers, ..), AC_CHECK_FUNCS, AC_CHECK_DECLS and AC_CHECK_TYPES, before their includes are read.
-- (Autoconf's manual, the sections of the macros)
unfoldable pub checks_each : Sought → List Span → Result Question ParseFault
checks_each sought args = do
  entries ← entries_of sought (arg_at args 0)
  Ok (ChecksEach sought entries None)

-- The question of a call, with its includes or its other libraries. AC_CHECK_FUNC and AC_CHECK_FUNCS take no fourth
-- argument, and so have no includes.
-- (Autoconf's manual, the sections of the macros)
unfoldable pub completed_of : Question → List Span → Result Question ParseFault
completed_of (Given kind variable) args = Ok (Given kind variable)
completed_of (Tries kind program) args = Ok (Tries kind program)
completed_of (Checks sought entry earlier) args = includes (arg_at args 3) >>= λ i. Ok (Checks sought entry i)
completed_of (ChecksEach sought entries earlier) args = includes (arg_at args 3) >>= λ i. Ok (ChecksEach sought entries i)
completed_of (Library library function earlier adds) args = optional_text (arg_at args 4) >>= λ o. Ok (Library library function o adds)
completed_of (Libraries function libraries earlier) args = optional_text (arg_at args 4) >>= λ o. Ok (Libraries function libraries o)
