-- The output variables of a run, and their values.
use Rattle.std.specs.Prelude.{◌≡◌, ℕ, Bool, ◌&&◌, List, [], ◌∷◌, ◌++◌, Some, None, bytes_eq, codes, fold, unwrap_or, if◌then◌else◌}
use Rattle.deftable.specs.NameList.{has_name, with_name}
use Rattle.deftable.specs.Table.{names_of, value_of, with_entry}
use Rattle.options_line.specs.Directories.{directory_names}

-- The output variables of AC_INIT, in order. (Autoconf's manual, "Initializing configure")
unfoldable pub package_names : List (List ℕ)
package_names =
    codes "PACKAGE_NAME" ∷ codes "PACKAGE_TARNAME" ∷ codes "PACKAGE_VERSION" ∷ codes "PACKAGE_STRING"
    ∷ codes "PACKAGE_BUGREPORT" ∷ codes "PACKAGE_URL" ∷ []

-- The output variables that every run has, in order: those of AC_INIT, the directories, and LIBS. (Autoconf's manual,
-- "Preset Output Variables")
unfoldable pub preset_names : List (List ℕ)
preset_names = package_names ++ (directory_names ++ codes "LIBS" ∷ [])

-- DEFS, if the run makes a header. (Autoconf's manual, "Preset Output Variables"; that it is left out otherwise is own)
unfoldable pub header_names : Bool → List (List ℕ)
header_names has_header = if has_header then codes "DEFS" ∷ [] else []

-- The output variables of a run, in order: those that every run has, DEFS if it makes a header, and the source's own.
-- (Autoconf's manual, "Preset Output Variables" and "Setting Output Variables"; the order is own)
unfoldable pub output_names_of : Bool → List (List ℕ) → List (List ℕ)
output_names_of has_header names = preset_names ++ (header_names has_header ++ names)

-- The value of an output variable: that of the variable, and nothing if it is unset. If the run makes a header, DEFS is
-- `-DHAVE_CONFIG_H`, whatever it was assigned. (Autoconf's manual, "Preset Output Variables" and "Setting Output Variables")
unfoldable pub output_value : List (List ℕ × List ℕ) → Bool → List ℕ → List ℕ
output_value vars has_header name =
    if has_header && bytes_eq name (codes "DEFS") then codes "-DHAVE_CONFIG_H" else unwrap_or (value_of vars name) []

-- The table with one more output variable. (own)
abbrev pub with_variable : List (List ℕ × List ℕ) → Bool → List (List ℕ × List ℕ) → List ℕ → List (List ℕ × List ℕ)
with_variable vars has_header table name = with_entry table name (output_value vars has_header name)

-- The output variables with their values, each once, in the order in which their names come first. (own)
unfoldable pub output_variables : List (List ℕ × List ℕ) → Bool → List (List ℕ) → List (List ℕ × List ℕ)
output_variables vars has_header names = fold (with_variable vars has_header) [] (output_names_of has_header names)

-- The table has each output variable once, in the order in which their names come first, with its value, and nothing else.
-- (own)
pub record AreOutputVariables (vars : List (List ℕ × List ℕ)) (has_header : Bool) (names : List (List ℕ)) (table : List (List ℕ × List ℕ)) : Type 0 where
  pub in_order : names_of table ≡ fold with_name [] (output_names_of has_header names)
  pub values : (name : List ℕ) → value_of table name ≡ (if has_name (output_names_of has_header names) name then Some (output_value vars has_header name) else None)
