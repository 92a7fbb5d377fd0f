-- Readers of macros that look for libraries. (Autoconf's manual, "Library Files")
use Rattle.std.specs.Prelude.{false, List, None, Result, Ok}
use Rattle.m4quote.specs.ItemValue.{Span}
use Rattle.ac_statement.specs.declared.fault.ParseFault.{ParseFault}
use Rattle.ac_statement.specs.Reading.{◌>>=◌}
use Rattle.ac_statement.specs.Texts.{arg_at}
use Rattle.ac_args.specs.Libraries.{library, libraries}
use Rattle.ac_args.specs.Entries.{entry_of}
use Rattle.ac_tree.specs.declared.listed.Listed.TheVariants.{Function}
use Rattle.ac_tree.specs.declared.listed.Sought.TheVariants.{ListEntry}
use Rattle.ac_tree.specs.declared.statement.Question.{Question}
use Rattle.ac_tree.specs.declared.statement.Question.TheVariants.{Library, Libraries}

-- AC_CHECK_LIB(library, function, ..), before its other libraries are read. Whether it adds the library is known after its
-- actions, so `false` takes that place. (Autoconf's manual, "Library Files")
unfoldable pub check_lib : List Span → Result Question ParseFault
check_lib args = do
  l ← library (arg_at args 0)
  function ← entry_of (ListEntry Function) (arg_at args 1)
  Ok (Library l function None false)

-- AC_SEARCH_LIBS(function, libraries, ..), before its other libraries are read. (Autoconf's manual, "Library Files")
unfoldable pub search_libs : List Span → Result Question ParseFault
search_libs args = do
  function ← entry_of (ListEntry Function) (arg_at args 0)
  list ← libraries (arg_at args 1)
  Ok (Libraries function list None)
