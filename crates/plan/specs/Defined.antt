-- What a test defines.
use Rattle.std.specs.Prelude.{◌≡◌, ◌≢◌, true, ℕ, List, Option, Some, None}
use Rattle.deftable.specs.Table.{value_of}
use Rattle.ac_tree.specs.declared.listed.Sought.{Sought}
use Rattle.ac_tree.specs.Definitions.{sought_definition, library_definition}
use Rattle.test_forms.specs.Macros.{library_form}
use Rattle.meaning.specs.Entries.{sought_form}
use Rattle.meaning.specs.Rows.{TestKind, after_of}
use Rattle.meaning.specs.State.{State}
use Rattle.plan.specs.Names.{definition, given_symbol}

-- No name is defined in another way than before but this one, if there is one. (own)
abbrev pub DefinesOnly : Option (List ℕ) → List (List ℕ × List ℕ) → List (List ℕ × List ℕ) → Type 0
DefinesOnly None old new = new ≡ old
DefinesOnly (Some name) old new = (other : List ℕ) → other ≢ name → value_of new other ≡ value_of old other

-- Whatever the value of a test, what is done with it defines no name but that of the test. (own)
abbrev pub DefinesItsName : Type 0
DefinesItsName = (kind : TestKind) (value : Option (List ℕ)) (st : State) → DefinesOnly (definition kind) st.defs (after_of kind value st).defs

-- The name that a form defines is the one that the tree has for the entry, the type or the library. (own)
pub record SymbolsAreDefinitions : Type 0 where
  pub sought : (sought : Sought) (entry : List ℕ) → given_symbol (sought_form sought entry true).gives ≡ Some (sought_definition sought entry)
  pub library : (library function : List ℕ) → given_symbol (library_form library function true).gives ≡ Some (library_definition library)
