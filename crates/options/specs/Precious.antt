-- Precious variables and a cache: what is in a cache holds only for the values that precious variables had in the run
-- that made it. (Autoconf's manual, "Setting Output Variables" and "Cache Files")
use Rattle.std.specs.Prelude.{◌≡◌, ℕ, ◌+◌, List, [], ◌∷◌, ◌++◌, map, filter, length, Option, Some, None, option_to_list, unwrap_or, Bool, true, false, not, ◌&&◌, Result, Ok, Err, fold, codes, if◌then◌else◌}
use Rattle.std.specs.List.{AllByRecursion}
use Rattle.std.specs.Str.{bytes_eq}
use Rattle.std.specs.Cmp.Lexicographic.{pointwise}
use Rattle.deftable.specs.NameList.{has_name}
use Rattle.deftable.specs.Table.{value_of, names_of}
use Rattle.text_cut.specs.Cuts.{fields}
use Rattle.cachefile.specs.Cache.{vars_after}
use Rattle.cachefile.specs.Line.{Setting}
use Rattle.cachefile.specs.Name.{is_mark}
use Rattle.options.specs.Opening.{with_variable, set_name, value_name, marks_one, unmarked, finished}
use Rattle.options.specs.Reading.{◌>>=◌}
use Rattle.deftable.specs.declared.note.Note.{Note}
use Rattle.deftable.specs.declared.note.Stream.TheVariants as stream
use Rattle.options.specs.declared.fault.PreciousFault.{PreciousFault}
use Rattle.options.specs.declared.fault.PreciousFault.TheVariants.{WasSet, WasUnset, Changed}

-- ---- one variable

-- The value of a variable, or the empty text if it is unset. (own)
abbrev pub value_or_empty : List (List ℕ × List ℕ) → List ℕ → List ℕ
value_or_empty vars name = unwrap_or (value_of vars name) []

-- The value that a precious variable had by its marks, or none if it was unset: the mark for whether it is set is empty.
-- (own)
unfoldable pub old_value : List (List ℕ × List ℕ) → List ℕ → Option (List ℕ)
old_value vars name =
    if bytes_eq (value_or_empty vars (set_name name)) [] then None else Some (value_or_empty vars (value_name name))

-- The value that a precious variable has before any mark, or none if it is unset then. If its name begins with `ac_cv_env_`,
-- it may be the mark of another one, which has another value now. So its own marks say which one it had. (own)
unfoldable pub value_before : List (List ℕ × List ℕ) → List ℕ → Option (List ℕ)
value_before vars name = elim (value_of vars name) [
  | None ↦ None
  | Some value ↦ if is_mark name then old_value vars name else Some value
]

-- The variable is unchanged but for blanks, by the value that it had and the one that it has: it is unset as before, or both
-- values have the same fields, which are the texts between blanks. (Autoconf's manual, "Setting Output Variables")
pub data IsUnchanged : Option (List ℕ) → Option (List ℕ) → Type 0 where
  unset : IsUnchanged None None
  set : {old now : List ℕ} → fields old ≡ fields now → IsUnchanged (Some old) (Some now)

-- The variable at this place has this fault, by the value that it had and the one that it has. (Autoconf's manual, "Setting
-- Output Variables")
pub data HasFault (place : ℕ) : Option (List ℕ) → Option (List ℕ) → PreciousFault → Type 0 where
  was_set : {old : List ℕ} → HasFault place (Some old) None (WasSet place)
  was_unset : {now : List ℕ} → HasFault place None (Some now) (WasUnset place)
  changed : {old now : List ℕ} → (fields old ≡ fields now → ⊥) → HasFault place (Some old) (Some now) (Changed place)

-- The variable is set to another text than it was. (own)
abbrev pub has_other_bytes : Option (List ℕ) → Option (List ℕ) → Bool
has_other_bytes (Some old) (Some now) = not (bytes_eq old now)
has_other_bytes old now = false

-- The variable gets its old value back: only its blanks have changed, and it is no mark of a precious variable. `marked` has
-- the marks of the earlier run. (own)
unfoldable pub gets_back : List (List ℕ) → List (List ℕ × List ℕ) → List (List ℕ × List ℕ) → List ℕ → Bool
gets_back precious vars marked name = has_other_bytes (old_value marked name) (value_before vars name) && not (marks_one precious name)

-- The note about a variable of which only blanks have changed. (own)
unfoldable pub blanks_note : List ℕ → Note
blanks_note name = record {
  stream = stream.Err;
  text = codes "configure: WARNING: blanks of " ++ name ++ codes " have changed, old value used\n";
}

-- ---- all of them

-- Each precious variable is unchanged but for blanks. The marks are those that the cache would leave, so a mark that the
-- cache lacks is the one that the run begins with. Each variable is compared by its value before any mark.
abbrev pub AreUnchanged : List (List ℕ) → List (List ℕ × List ℕ) → List Setting → Type 0
AreUnchanged precious vars cache = AllByRecursion (λ name. IsUnchanged (old_value (vars_after cache vars) name) (value_before vars name)) precious

-- The precious variables are unchanged but for blanks. After the check, each has the value that it had, and every other
-- variable its own. There is a note for each that had other bytes, in order. A mark of a precious variable is never changed,
-- and if it is precious too, there is no note about it. (Autoconf's manual, "Setting Output Variables"; own for marks)
pub record IsChecked (precious : List (List ℕ)) (vars : List (List ℕ × List ℕ)) (cache : List Setting) (after : List (List ℕ × List ℕ)) (notes : List Note) : Type 0 where
  pub unchanged : AreUnchanged precious vars cache
  pub names : names_of after ≡ names_of vars
  pub values : (name : List ℕ) → value_of after name
      ≡ (if has_name precious name && gets_back precious vars (vars_after cache vars) name then old_value (vars_after cache vars) name else value_of vars name)
  pub had : (name : List ℕ) → has_name precious name ≡ true → is_mark name ≡ false → value_of after name ≡ old_value (vars_after cache vars) name
  pub marks : (name : List ℕ) → marks_one precious name ≡ true → value_of after name ≡ value_of vars name
  pub notes_are : notes ≡ map blanks_note (filter (gets_back precious vars (vars_after cache vars)) precious)

-- The first precious variable with a fault has this one; it is named by its place among them, which is 1 for the first. (own)
pub record IsPreciousFault (precious : List (List ℕ)) (vars : List (List ℕ × List ℕ)) (cache : List Setting) (fault : PreciousFault) : Type 0 where
  pub before : List (List ℕ)
  pub name : List ℕ
  pub more : List (List ℕ)
  pub are : precious ≡ before ++ name ∷ more
  pub unchanged : AreUnchanged before vars cache
  pub has : HasFault (1 + length before) (old_value (vars_after cache vars) name) (value_before vars name) fault

-- ---- the same as a function

-- The texts have the same fields, which are the parts between blanks. (own)
abbrev pub have_same_fields : List ℕ → List ℕ → Bool
have_same_fields a b = pointwise bytes_eq (fields a) (fields b)

-- The value that a variable at this place gets back, by the value that it had and the one that it has: the one that it had,
-- if only blanks have changed, and none if nothing has. Otherwise, the fault. (Autoconf's manual, "Setting Output
-- Variables")
unfoldable pub restored : ℕ → Option (List ℕ) → Option (List ℕ) → Result (Option (List ℕ)) PreciousFault
restored place None None = Ok None
restored place None (Some now) = Err (WasUnset place)
restored place (Some old) None = Err (WasSet place)
restored place (Some old) (Some now) =
    if bytes_eq old now then Ok None
    else (if have_same_fields old now then Ok (Some old) else Err (Changed place))

-- The variable with this old value, if there is one and the variable is no mark of a precious one. (own)
abbrev pub change_of : List (List ℕ) → List ℕ → Option (List ℕ) → Option (List ℕ × List ℕ)
change_of precious name None = None
change_of precious name (Some old) = if marks_one precious name then None else Some (name, old)

-- The variable at this place with the value that it gets back, if it gets one back, or its fault: by the variables, and by
-- those with the marks of the earlier run. (own)
unfoldable pub restored_variable : List (List ℕ) → ℕ → List (List ℕ × List ℕ) → List (List ℕ × List ℕ) → List ℕ → Result (Option (List ℕ × List ℕ)) PreciousFault
restored_variable precious place vars marked name =
    restored place (old_value marked name) (value_before vars name) >>= λ old. Ok (change_of precious name old)

-- The variables that get values back, with these values and in order, or the first fault. They are those of the list at the
-- end, and the first one has this place; `precious` has all. (own)
unfoldable pub restored_from : List (List ℕ) → ℕ → List (List ℕ × List ℕ) → List (List ℕ × List ℕ) → List (List ℕ) → Result (List (List ℕ × List ℕ)) PreciousFault
restored_from precious place vars marked [] = Ok []
restored_from precious place vars marked (name ∷ more) =
    restored_variable precious place vars marked name >>= λ one. restored_from precious (place + 1) vars marked more >>= λ rest. Ok (option_to_list one ++ rest)

-- The variables once the precious ones are checked against a cache, and the notes, or the first fault. The marks are those
-- that the cache would leave, and no variable is changed before all are compared. (Autoconf's manual, "Setting Output
-- Variables" and "Cache Files")
unfoldable pub checked : List (List ℕ) → List (List ℕ × List ℕ) → List Setting → Result (List (List ℕ × List ℕ) × List Note) PreciousFault
checked precious vars cache =
    restored_from precious 1 vars (vars_after cache vars) precious >>= λ changes. Ok (fold with_variable vars changes, map (λ change. blanks_note change.0) changes)

-- ---- what marks say

-- In the variables that a run begins with, the value by which a precious variable is compared is the one that it has before
-- any mark, also if its name is that of a mark.
abbrev pub MarksTell : Type 0
MarksTell = (precious : List (List ℕ)) (vars : List (List ℕ × List ℕ)) (name : List ℕ) → has_name precious name ≡ true
    → value_before (finished precious vars) name ≡ value_of (unmarked vars) name

-- Without a cache no precious variable has changed, and the variables stay as they are.
abbrev pub FreshRunsAgree : Type 0
FreshRunsAgree = (precious : List (List ℕ)) (vars : List (List ℕ × List ℕ)) → checked precious (finished precious vars) [] ≡ Ok (finished precious vars, [])
