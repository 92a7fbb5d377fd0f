-- What is done with a library that a test has found.
use Rattle.std.proofs.Common.{◌≡◌, ℕ, Option, Some, None, List, [], ◌++◌, codes, Bool, true, false, cond, refl}
use Rattle.std.specs.Prelude.{◌&&◌, not, bytes_eq, unwrap_or}
use Rattle.deftable.specs.Table.{value_of, with_entry}
use Rattle.meaning.specs.State.{State}
use Rattle.test_forms.specs.declared.form.Gives.{Gives}
use Rattle.test_forms.specs.declared.form.Gives.TheVariants.{Nothing, Have, HaveOrNot, AddsLibrary, AddsValue}
use Rattle.test_forms.specs.Form.{TestForm}
use Rattle.meaning.specs.Forms.{form_used, is_linked, says_found, with_given, with_library, with_library_if, with_linked}
use Rattle.meaning.proofs.Forms.{defined_vars}
use Rattle.meaning_laws.specs.Deeds.{is_added}
use Rattle.meaning_laws.proofs.Values.{Entries, value_there}

-- The variables, with a text and a blank before the value of LIBS if this is true.
abbrev pub put_if : Bool → List ℕ → Entries → Entries
put_if true text vars = with_entry vars (codes "LIBS") (text ++ codes " " ++ unwrap_or (value_of vars (codes "LIBS")) [])
put_if false text vars = vars

pub put_other : (b : Bool) (text : List ℕ) (vars : Entries) (name : List ℕ) → bytes_eq name (codes "LIBS") ≡ false → value_of (put_if b text vars) name ≡ value_of vars name
put_other true text vars name ne = value_there vars (codes "LIBS") (text ++ codes " " ++ unwrap_or (value_of vars (codes "LIBS")) []) name ne
put_other false text vars name ne = refl

library_vars : (b : Bool) (library : List ℕ) (st : State) → (with_library_if b library st).vars ≡ put_if b (codes "-l" ++ library) st.vars
library_vars true library st = refl
library_vars false library st = refl

linked_vars : (b : Bool) (value : List ℕ) (st : State) → (cond b (with_library value st) st).vars ≡ put_if b value st.vars
linked_vars true value st = refl
linked_vars false value st = refl

searched_vars : (value : Option (List ℕ)) (st : State) → (with_linked value st).vars ≡ put_if (is_added value) (unwrap_or value []) st.vars
searched_vars None st = refl
searched_vars (Some value) st = linked_vars (is_linked (Some value) && not (bytes_eq value (codes "none required"))) value st

-- The variables after what a form gives.
abbrev pub given_vars : Gives → Bool → Option (List ℕ) → Entries → Entries
given_vars (AddsLibrary library) found value vars = put_if found (codes "-l" ++ library) vars
given_vars AddsValue found value vars = put_if (is_added value) (unwrap_or value []) vars
given_vars other found value vars = vars

given_by : (gives : Gives) (found : Bool) (value : Option (List ℕ)) (st : State) → (with_given gives found value st).vars ≡ given_vars gives found value st.vars
given_by Nothing found value st = refl
given_by (Have what) found value st = defined_vars found _ st
given_by (HaveOrNot what) found value st = refl
given_by (AddsLibrary library) found value st = library_vars found library st
given_by AddsValue found value st = searched_vars value st

pub used_vars : (form : TestForm) (value : Option (List ℕ)) (st : State) → (form_used form value st).vars ≡ given_vars form.gives (says_found form.says value) value st.vars
used_vars form value st = given_by form.gives (says_found form.says value) value st
