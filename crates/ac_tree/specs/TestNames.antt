-- The names of tests, under which their values are cached. (Autoconf's manual, "Cache Variable Names")
use Rattle.std.specs.Prelude.{ℕ, List, ◌++◌, map, codes}
use Rattle.deftable.specs.ShellName.{IsShellName}
use Rattle.m4quote.specs.Names.{sh_byte}
use Rattle.ac_tree.specs.declared.listed.Listed.{Listed}
use Rattle.ac_tree.specs.declared.listed.Listed.TheVariants.{Header, Function, Declaration}
use Rattle.ac_tree.specs.declared.listed.Sought.{Sought}
use Rattle.ac_tree.specs.declared.listed.Sought.TheVariants.{ListEntry, «Type»}
use Rattle.ac_tree.specs.declared.statement.Effect.{Effect}
use Rattle.ac_tree.specs.declared.statement.Effect.TheVariants.{Search, Searches}
use Rattle.ac_tree.specs.declared.statement.ProgramValue.{ProgramValue}
use Rattle.ac_tree.specs.declared.statement.ProgramValue.TheVariants.{Text, FullName}
use Rattle.ac_tree.specs.Script.{Script, Done, Then, Choice, Check, Cases, No_case, Case}

-- The text as the end of a shell variable's name. (Autoconf's manual, AS_TR_SH in "Common Shell Constructs")
abbrev pub shell_part : List ℕ → List ℕ
shell_part text = map sh_byte text

-- The cached name of an entry. (Autoconf's manual, "Cache Variable Names")
abbrev pub entry_name : Listed → List ℕ → List ℕ
entry_name Header entry = codes "ac_cv_header_" ++ shell_part entry
entry_name Function entry = codes "ac_cv_func_" ++ shell_part entry
entry_name Declaration entry = codes "ac_cv_have_decl_" ++ shell_part entry

-- The cached name of a type. (Autoconf's manual, "Cache Variable Names")
abbrev pub type_name : List ℕ → List ℕ
type_name name = codes "ac_cv_type_" ++ shell_part name

-- The cached name of what a macro looks for. (Autoconf's manual, "Cache Variable Names")
abbrev pub sought_name : Sought → List ℕ → List ℕ
sought_name (ListEntry listed) entry = entry_name listed entry
sought_name «Type» entry = type_name entry

-- The cached name of a library that is to have a function. (Autoconf's manual, "Library Files")
abbrev pub library_name : List ℕ → List ℕ → List ℕ
library_name library function = codes "ac_cv_lib_" ++ shell_part (library ++ codes "_" ++ function)

-- The cached name of a function that one of several libraries is to have. (Autoconf's manual, "Library Files")
abbrev pub libraries_name : List ℕ → List ℕ
libraries_name function = codes "ac_cv_search_" ++ shell_part function

-- The cached name of a program that a variable names. (Autoconf's manual, "Generic Programs")
abbrev pub program_name : List ℕ → List ℕ
program_name variable = codes "ac_cv_prog_" ++ variable

-- The cached name of a program whose full name a variable has. (Autoconf's manual, "Generic Programs")
abbrev pub path_name : List ℕ → List ℕ
path_name variable = codes "ac_cv_path_" ++ variable

-- The cached name of a program that is looked for, by the value that the variable gets. (Autoconf's manual, "Generic
-- Programs")
abbrev pub search_name : ProgramValue → List ℕ → List ℕ
search_name (Text text) variable = program_name variable
search_name FullName variable = path_name variable

-- The variable of each program that the statement looks for is a shell name. (POSIX, "Name")
abbrev pub NamesVariable : Effect → Type 0
NamesVariable (Search variable program value otherwise) = IsShellName variable
NamesVariable (Searches variable programs otherwise) = IsShellName variable
NamesVariable effect = Unit {0}

abbrev mutual
  -- The variable of each program that statements look for is a shell name, so each test has a cache name. (POSIX, "Name")
  pub HasTestNames : Script → Type 0
  HasTestNames Done = Unit {0}
  HasTestNames (Then declares effect rest) = NamesVariable effect × HasTestNames rest
  HasTestNames (Choice declares subject cases rest) = HasTestNamesIn cases × HasTestNames rest
  HasTestNames (Check message name commands rest) = HasTestNames commands × HasTestNames rest

  -- The same in all cases. (own)
  pub HasTestNamesIn : Cases → Type 0
  HasTestNamesIn No_case = Unit {0}
  HasTestNamesIn (Case when body more) = HasTestNames body × HasTestNamesIn more
