-- What is done with the value of a test defines no name but that of the test.
use Rattle.std.proofs.Common.{◌≡◌, ℕ, Bool, true, false, cond, List, ◌++◌, codes, refl}
use Rattle.std.specs.Prelude.{◌≢◌, ◌&&◌, not, Option, Some, None, bytes_eq}
use Rattle.deftable.specs.Table.{value_of, with_entry}
use Rattle.test_forms.specs.declared.form.Gives.{Gives}
use Rattle.test_forms.specs.declared.form.Gives.TheVariants.{Nothing, Have, HaveOrNot, AddsLibrary, AddsValue}
use Rattle.meaning.specs.Forms.{defined_if, digit_of, is_linked, says_found, symbol_part, with_given, with_library, with_library_if, with_linked}
use Rattle.meaning.specs.Rows.{Program, Formed}
use Rattle.plan.specs.Names.{given_symbol}
use Rattle.ac_tree.specs.declared.listed.Listed.TheVariants as listed
use Rattle.ac_tree.specs.declared.listed.Sought.{Sought}
use Rattle.ac_tree.specs.declared.listed.Sought.TheVariants as what
use Rattle.ac_tree.specs.Definitions.{sought_definition}
use Rattle.meaning.specs.Entries.{sought_form}
use Rattle.meaning.specs.State.{State}
use Rattle.meaning.proofs.Values.{not_same, value_there}
use Rattle.plan.specs.Defined.{DefinesItsName, DefinesOnly, SymbolsAreDefinitions}

-- another name than the one that was written
other_name : (defs : List (List ℕ × List ℕ)) (name value other : List ℕ) → other ≢ name → value_of (with_entry defs name value) other ≡ value_of defs other
other_name defs name value other apart = value_there defs name value other (not_same other name apart)

defines_if : (found : Bool) (name : List ℕ) (st : State) → DefinesOnly (Some name) st.defs (defined_if found name st).defs
defines_if true name st = λ other apart. other_name st.defs name (codes "1") other apart
defines_if false name st = λ other apart. refl

defines_library : (found : Bool) (library : List ℕ) (st : State) → DefinesOnly (Some (codes "HAVE_LIB" ++ symbol_part library)) st.defs (with_library_if found library st).defs
defines_library true library st = λ other apart. other_name st.defs (codes "HAVE_LIB" ++ symbol_part library) (codes "1") other apart
defines_library false library st = λ other apart. refl

-- a library that is added to LIBS
same_defs : (adds : Bool) (value : List ℕ) (st : State) → (cond adds (with_library value st) st).defs ≡ st.defs
same_defs true value st = refl
same_defs false value st = refl

linked_defs : (value : Option (List ℕ)) (st : State) → (with_linked value st).defs ≡ st.defs
linked_defs None st = refl
linked_defs (Some value) st = same_defs (is_linked (Some value) && not (bytes_eq value (codes "none required"))) value st

given_defines : (gives : Gives) (found : Bool) (value : Option (List ℕ)) (st : State) → DefinesOnly (given_symbol gives) st.defs (with_given gives found value st).defs
given_defines Nothing found value st = refl
given_defines (Have what) found value st = defines_if found (codes "HAVE_" ++ symbol_part what) st
given_defines (HaveOrNot what) found value st = λ other apart. other_name st.defs (codes "HAVE_" ++ symbol_part what) (digit_of found) other apart
given_defines (AddsLibrary library) found value st = defines_library found library st
given_defines AddsValue found value st = linked_defs value st

pub defines_its_name : DefinesItsName
defines_its_name (Program search own) value st = refl
defines_its_name (Formed t) value st = given_defines t.form.gives (says_found t.form.says value) value st

sought_symbols : (sought : Sought) (entry : List ℕ) → given_symbol (sought_form sought entry true).gives ≡ Some (sought_definition sought entry)
sought_symbols (what.ListEntry listed.Header) entry = refl
sought_symbols (what.ListEntry listed.Function) entry = refl
sought_symbols (what.ListEntry listed.Declaration) entry = refl
sought_symbols what.«Type» entry = refl

pub symbols_are_definitions : SymbolsAreDefinitions
symbols_are_definitions = record { sought = sought_symbols; library = λ library function. refl }
