-- Names of optional features and packages, and the variables of their options. (Autoconf's manual, "Choosing Package
-- Options" and "External Software"; that a name isn't empty is own)
use Rattle.std.specs.Prelude.{ℕ, Bool, not, ◌&&◌, ◌||◌, ◌==◌, List, ◌++◌, map, codes, if◌then◌else◌}
use Rattle.std.specs.Char.{is_ascii_alphanumeric}
use Rattle.std.specs.List.{list_all}
use Rattle.ac_tree.specs.Texts.{is_empty}
use Rattle.ac_tree.specs.declared.feature.OptionKind.{OptionKind}
use Rattle.ac_tree.specs.declared.feature.OptionKind.TheVariants.{Feature, Package}

-- A letter, a digit, `-`, `+`, `.` or `_`. (Autoconf's manual, "Choosing Package Options")
abbrev pub is_feature_byte : ℕ → Bool
is_feature_byte b = is_ascii_alphanumeric b || b == 45 || b == 43 || b == 46 || b == 95

-- The text can name a feature or a package. (Autoconf's manual, "Choosing Package Options")
abbrev pub is_feature : List ℕ → Bool
is_feature name = not (is_empty name) && list_all is_feature_byte name

-- A byte of a name, with `_` for `-`, `+` and `.`. (Autoconf's manual, "Choosing Package Options")
abbrev pub variable_byte : ℕ → ℕ
variable_byte b = if b == 45 || b == 43 || b == 46 then 95 else b

-- The text at the front of an option's variable. (Autoconf's manual, "Choosing Package Options")
abbrev pub prefix_of : OptionKind → List ℕ
prefix_of Feature = codes "enable_"
prefix_of Package = codes "with_"

-- The variable that an option sets. (Autoconf's manual, "Choosing Package Options")
abbrev pub option_variable : OptionKind → List ℕ → List ℕ
option_variable kind name = prefix_of kind ++ map variable_byte name
