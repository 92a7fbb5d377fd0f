-- Which tests the steps of a plan open.
use Rattle.std.specs.Prelude.{ℕ, Bool, true, List, [], ◌∷◌, Option, Some, None}
use Rattle.shellword.specs.declared.part.Part.{Part}
use Rattle.shellword.specs.Value.{word_value}
use Rattle.ac_tree.specs.declared.listed.Sought.{Sought}
use Rattle.ac_tree.specs.declared.statement.ProgramValue.{ProgramValue}
use Rattle.ac_tree.specs.declared.statement.ProgramValue.TheVariants.{Text, FullName}
use Rattle.ac_tree.specs.TestNames.{search_name}
use Rattle.meaning.specs.Meaning.{check_prog, has_value, is_full_name}
use Rattle.meaning.specs.Rows.{TestKind, Search}
use Rattle.meaning.specs.Entries.{sought_test}
use Rattle.meaning.specs.Forms.{FormTest, value_in}
use Rattle.meaning.specs.State.{State, value_or_empty}
use Rattle.run_test.specs.declared.trying.Opening.{Opening}
use Rattle.run_test.specs.Starts.{Opens, program_kind}

-- The value that a variable gets if its program is found; none stands for the full name of the program. (Autoconf's
-- manual, "Generic Programs")
abbrev pub found_in : ProgramValue → State → Option (List ℕ)
found_in (Text text) st = Some (word_value text st.vars)
found_in FullName st = None

-- The variable's own value counts if it isn't empty, or if it is a full name. (Autoconf's manual, "Generic Programs")
abbrev pub counts_for : ProgramValue → List ℕ → State → Bool
counts_for (Text text) variable st = has_value st variable
counts_for FullName variable st = is_full_name (value_or_empty st variable)

-- The search of AC_CHECK_PROG and AC_PATH_PROG. (Autoconf's manual, "Generic Programs")
abbrev pub search_for : List ℕ → List ℕ → ProgramValue → Option (List Part) → State → Search
search_for variable program value otherwise st =
    record { variable = variable; name = search_name value variable; program = program; found = found_in value st; otherwise = value_in otherwise st }

-- The kind of test of AC_CHECK_PROG and AC_PATH_PROG. (Autoconf's manual, "Generic Programs")
abbrev pub search_kind : List ℕ → List ℕ → ProgramValue → Option (List Part) → State → TestKind
search_kind variable program value otherwise st = program_kind (search_for variable program value otherwise st) (counts_for value variable st) st

-- The test of a program of a list. (Autoconf's manual, "Generic Programs")
abbrev pub OpensListed : List ℕ → List ℕ → State → Opening → Type 0
OpensListed variable program st o = Opens (program_kind (check_prog variable program program None) (has_value st variable) st) st o

-- The test of the first entry of a list, if there is one. (own)
abbrev pub first_test : Sought → List (List ℕ) → Option (List Part) → FormTest
first_test sought [] includes = sought_test sought [] includes true
first_test sought (entry ∷ more) includes = sought_test sought entry includes true
