-- What is done with a value leaves the name of the test.
use Rattle.std.proofs.Common.{◌≡◌, ℕ, Bool, true, false, cond, List, codes, refl, ap}
use Rattle.std.specs.Prelude.{◌&&◌, not, bytes_eq, Option, Some, None}
use Rattle.deftable.specs.Table.{value_of}
use Rattle.test_forms.specs.declared.form.Gives.{Gives}
use Rattle.test_forms.specs.declared.form.Gives.TheVariants.{Nothing, Have, HaveOrNot, AddsLibrary, AddsValue}
use Rattle.test_forms.specs.Form.{TestForm}
use Rattle.meaning.specs.State.{State}
use Rattle.meaning.specs.Forms.{defined_if, form_name, form_used, is_linked, with_given, with_library, with_library_if, with_linked}
use Rattle.meaning.proofs.Values.{value_there}

added_leaves : (b : Bool) (text name : List ℕ) (st : State) → bytes_eq name (codes "LIBS") ≡ false → value_of (cond b (with_library text st) st).vars name ≡ value_of st.vars name
added_leaves true text name st apart = value_there st.vars (codes "LIBS") _ name apart
added_leaves false text name st apart = refl

library_leaves : (b : Bool) (library name : List ℕ) (st : State) → bytes_eq name (codes "LIBS") ≡ false → value_of (with_library_if b library st).vars name ≡ value_of st.vars name
library_leaves true library name st apart = value_there st.vars (codes "LIBS") _ name apart
library_leaves false library name st apart = refl

linked_leaves : (value : Option (List ℕ)) (name : List ℕ) (st : State) → bytes_eq name (codes "LIBS") ≡ false → value_of (with_linked value st).vars name ≡ value_of st.vars name
linked_leaves None name st apart = refl
linked_leaves (Some value) name st apart = added_leaves (is_linked (Some value) && not (bytes_eq value (codes "none required"))) value name st apart

pub defined_vars : (found : Bool) (name : List ℕ) (st : State) → (defined_if found name st).vars ≡ st.vars
defined_vars true name st = refl
defined_vars false name st = refl

-- Of any name but LIBS.
pub given_leaves : (gives : Gives) (found : Bool) (value : Option (List ℕ)) (name : List ℕ) (st : State) → bytes_eq name (codes "LIBS") ≡ false → value_of (with_given gives found value st).vars name ≡ value_of st.vars name
given_leaves Nothing found value name st apart = refl
given_leaves (Have what) found value name st apart = ap (λ vars. value_of vars name) (defined_vars found _ st)
given_leaves (HaveOrNot what) found value name st apart = refl
given_leaves (AddsLibrary library) found value name st apart = library_leaves found library name st apart
given_leaves AddsValue found value name st apart = linked_leaves value name st apart

-- The name of a test is not LIBS.
pub name_apart : (form : TestForm) → bytes_eq (form_name form) (codes "LIBS") ≡ false
name_apart form = refl

pub name_is_left : (form : TestForm) (value : Option (List ℕ)) (st : State) → value_of (form_used form value st).vars (form_name form) ≡ value_of st.vars (form_name form)
name_is_left form value st = given_leaves form.gives _ value (form_name form) st (name_apart form)
