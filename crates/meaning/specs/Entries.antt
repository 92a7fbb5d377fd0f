-- The tests that lists and questions ask for.
use Rattle.std.specs.Prelude.{ℕ, Bool, true, List, Option, map}
use Rattle.shellword.specs.declared.part.Part.{Part}
use Rattle.ac_tree.specs.declared.listed.Listed.{Listed}
use Rattle.ac_tree.specs.declared.listed.Listed.TheVariants.{Header, Function, Declaration}
use Rattle.ac_tree.specs.declared.listed.Sought.{Sought}
use Rattle.ac_tree.specs.declared.listed.Sought.TheVariants.{ListEntry, «Type»}
use Rattle.test_forms.specs.Form.{TestForm}
use Rattle.test_forms.specs.Macros.{header_form, function_form, declaration_form, type_form, library_form, search_form}
use Rattle.meaning.specs.Forms.{FormTest}

-- The form of the test of an entry. (Autoconf's manual, "Generic Headers" to "Generic Declarations")
abbrev pub listed_form : Listed → List ℕ → Bool → TestForm
listed_form Header entry defines = header_form entry defines
listed_form Function entry defines = function_form entry defines
listed_form Declaration entry defines = declaration_form entry defines

-- The form of the test of an entry or a type. (Autoconf's manual, "Generic Headers" to "Generic Types")
abbrev pub sought_form : Sought → List ℕ → Bool → TestForm
sought_form (ListEntry listed) entry defines = listed_form listed entry defines
sought_form «Type» entry defines = type_form entry defines

-- The test of an entry or a type, which was given these includes. (own)
abbrev pub sought_test : Sought → List ℕ → Option (List Part) → Bool → FormTest
sought_test sought entry includes defines = record { form = sought_form sought entry defines; given = includes }

-- The test of AC_CHECK_LIB. (Autoconf's manual, "Library Files")
abbrev pub library_test : List ℕ → List ℕ → Option (List Part) → Bool → FormTest
library_test library function others adds = record { form = library_form library function adds; given = others }

-- The test of AC_SEARCH_LIBS. (Autoconf's manual, "Library Files")
abbrev pub search_test : List ℕ → List (List ℕ) → Option (List Part) → FormTest
search_test function libraries others = record { form = search_form function libraries; given = others }

-- The test of an entry of a list that is tested at once. (own)
abbrev pub entry_test : Listed → Option (List Part) → List ℕ → FormTest
entry_test listed includes entry = record { form = listed_form listed entry true; given = includes }

-- The tests of such a list. (own)
abbrev pub tests_of : Listed → List (List ℕ) → Option (List Part) → List FormTest
tests_of listed entries includes = map (entry_test listed includes) entries
