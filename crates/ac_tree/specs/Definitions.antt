-- The names that the results of tests define.
use Rattle.std.specs.Prelude.{ℕ, List, ◌++◌, map, codes}
use Rattle.m4quote.specs.Names.{cpp_byte}
use Rattle.ac_tree.specs.declared.listed.Listed.{Listed}
use Rattle.ac_tree.specs.declared.listed.Listed.TheVariants.{Header, Function, Declaration}
use Rattle.ac_tree.specs.declared.listed.Sought.{Sought}
use Rattle.ac_tree.specs.declared.listed.Sought.TheVariants.{ListEntry, «Type»}

-- The text as the end of a preprocessor symbol. (Autoconf's manual, AS_TR_CPP in "Common Shell
-- Constructs")
abbrev pub symbol_part : List ℕ → List ℕ
symbol_part text = map cpp_byte text

-- The name that the result of an entry defines: `HAVE_` and the entry, and for a declaration
-- `HAVE_DECL_` and the entry. (Autoconf's manual, "Generic Headers", "Generic Functions" and
-- "Generic Declarations")
abbrev pub entry_definition : Listed → List ℕ → List ℕ
entry_definition Header entry = codes "HAVE_" ++ symbol_part entry
entry_definition Function entry = codes "HAVE_" ++ symbol_part entry
entry_definition Declaration entry = codes "HAVE_DECL_" ++ symbol_part entry

-- The name that the result of what a macro looks for defines: that of an entry, or `HAVE_` and a
-- type. (Autoconf's manual, "Generic Types")
abbrev pub sought_definition : Sought → List ℕ → List ℕ
sought_definition (ListEntry listed) entry = entry_definition listed entry
sought_definition «Type» entry = codes "HAVE_" ++ symbol_part entry

-- The name that a library defines which has a function: `HAVE_LIB` and the library. (Autoconf's
-- manual, "Library Files")
abbrev pub library_definition : List ℕ → List ℕ
library_definition library = codes "HAVE_LIB" ++ symbol_part library
