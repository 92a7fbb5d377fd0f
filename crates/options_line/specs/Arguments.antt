-- How one argument of a command line is read, as a function, and so what all of them give.
use Rattle.std.specs.Prelude.{ℕ, ◌+◌, ◌==◌, List, [], ◌∷◌, Option, Some, None, Result, Ok, Err, unwrap_or, option_map, codes, if◌then◌else◌}
use Rattle.std.specs.Str.{bytes_eq}
use Rattle.deftable.specs.ShellName.{is_shell_name_of}
use Rattle.ac_tree.specs.Feature.{is_feature}
use Rattle.ac_tree.specs.declared.feature.OptionKind.{OptionKind}
use Rattle.ac_tree.specs.declared.feature.OptionKind.TheVariants.{Feature, Package}
use Rattle.options_line.specs.CommandLine.{Setting, Variable, Choice, Switched, valued, key_of, is_dashed, enabling, disabling}
use Rattle.options_line.specs.Directories.{directory_named}
use Rattle.options_line.specs.Reading.{◌>>=◌}
use Rattle.options_line.specs.declared.argument.Target.{Target}
use Rattle.options_line.specs.declared.argument.Target.TheVariants.{InstallDirectory, Srcdir, CacheFile}
use Rattle.options_line.specs.declared.argument.Switch.{Switch}
use Rattle.options_line.specs.declared.argument.Switch.TheVariants.{ConfigCache, Quiet, NoCreate, Help, Version, Ignored}
use Rattle.options_line.specs.declared.fault.OptionFault.{OptionFault}
use Rattle.options_line.specs.declared.fault.OptionFault.TheVariants.{Unknown, BadFeature, BadVariable, MissingValue}

-- The reading of an argument that isn't the value of the option before it. (own)
pub data Argument : Type 0 where
  -- An option without a value.
  Flag : (switch : Switch) → Argument
  -- An option with its value.
  OptionValue : (target : Target) → (value : List ℕ) → Argument
  -- An option whose value is the next argument.
  OptionName : (target : Target) → Argument
  -- A feature or a package, its value, and the text before the `=`.
  FeatureValue : (kind : OptionKind) → (name : List ℕ) → (value : List ℕ) → (option : List ℕ) → Argument
  -- A feature or a package whose name has not the form of one.
  BadFeatureName : Argument
  -- A variable and its value.
  VariableValue : (name : List ℕ) → (value : List ℕ) → Argument
  -- A value for a name that is no shell name.
  BadVariableName : Argument
  -- Neither a known option nor an assignment.
  Unrecognized : Argument

-- The text after the first `=`, if there is one. (own)
unfoldable pub value_in : List ℕ → Option (List ℕ)
value_in [] = None
value_in (b ∷ bs) = if b == 61 then Some bs else value_in bs

-- What follows the front, if the text begins with it. (own)
unfoldable pub rest_after : List ℕ → List ℕ → Option (List ℕ)
rest_after [] text = Some text
rest_after (c ∷ cs) [] = None
rest_after (c ∷ cs) (b ∷ bs) = if b == c then rest_after cs bs else None

-- The options without a value, and what each turns on. (Autoconf's manual, "configure Invocation")
unfoldable pub switches : List (List ℕ × Switch)
switches =
    (codes "-C", ConfigCache)
    ∷ (codes "--config-cache", ConfigCache)
    ∷ (codes "-q", Quiet)
    ∷ (codes "--quiet", Quiet)
    ∷ (codes "--silent", Quiet)
    ∷ (codes "-n", NoCreate)
    ∷ (codes "--no-create", NoCreate)
    ∷ (codes "-h", Help)
    ∷ (codes "--help", Help)
    ∷ (codes "-V", Version)
    ∷ (codes "--version", Version)
    ∷ (codes "-v", Ignored)
    ∷ (codes "--verbose", Ignored)
    ∷ (codes "--no-recursion", Ignored)
    ∷ []

-- What the first row of this argument turns on. (own)
abbrev pub switch_among : List ℕ → List (List ℕ × Switch) → Option Switch
switch_among argument [] = None
switch_among argument ((known, switch) ∷ more) = if bytes_eq argument known then Some switch else switch_among argument more

-- The option without a value that an argument is. (Autoconf's manual, "configure Invocation")
unfoldable pub switch_of : List ℕ → Option Switch
switch_of argument = switch_among argument switches

-- The option of a directory, given without its dashes. (Autoconf's manual, "Installation Directory Variables")
abbrev pub install_directory_named : List ℕ → Option Target
install_directory_named option = option_map (λ directory. InstallDirectory directory) (directory_named option)

-- The options of directories. (Autoconf's manual, "Installation Directory Variables")
unfoldable pub install_directory_of : List ℕ → Option Target
install_directory_of key = elim (rest_after (codes "--") key) [ Some option ↦ install_directory_named option | None ↦ None ]

-- The options with a value. (Autoconf's manual, "configure Invocation")
unfoldable pub target_of : List ℕ → Option Target
target_of key =
    if bytes_eq key (codes "--srcdir") then Some Srcdir
    else (if bytes_eq key (codes "--cache-file") then Some CacheFile
    else install_directory_of key)

-- A feature or a package with its value, if its name has the form of one. (own)
abbrev pub chosen : OptionKind → List ℕ → List ℕ → List ℕ → Argument
chosen kind name value option = if is_feature name then FeatureValue kind name value option else BadFeatureName

-- A feature or a package that is turned on, by the text after `--enable-` or `--with-`. (Autoconf's manual, "Package
-- Options")
abbrev pub enabled : OptionKind → List ℕ → List ℕ → Argument
enabled kind rest argument = chosen kind (key_of rest) (unwrap_or (value_in rest) (codes "yes")) (key_of argument)

-- A feature or a package that is turned off, by the text after `--disable-` or `--without-`. (Autoconf's manual,
-- "Package Options")
abbrev pub disabled : OptionKind → List ℕ → List ℕ → Argument
disabled kind rest argument = chosen kind rest (codes "no") (key_of argument)

-- The options of packages. (Autoconf's manual, "External Software")
unfoldable pub package_of : List ℕ → Argument
package_of argument = elim (rest_after (enabling Package) argument) [
  | Some rest ↦ enabled Package rest argument
  | None ↦ elim (rest_after (disabling Package) argument) [ Some rest ↦ disabled Package rest argument | None ↦ Unrecognized ]
]

-- The options of features and packages. (Autoconf's manual, "Package Options")
unfoldable pub choice_of : List ℕ → Argument
choice_of argument = elim (rest_after (enabling Feature) argument) [
  | Some rest ↦ enabled Feature rest argument
  | None ↦ elim (rest_after (disabling Feature) argument) [ Some rest ↦ disabled Feature rest argument | None ↦ package_of argument ]
]

-- An option with a value, in one argument or in two. (own)
abbrev pub given_or_awaited : Target → Option (List ℕ) → Argument
given_or_awaited target (Some value) = OptionValue target value
given_or_awaited target None = OptionName target

-- The options with a value, or for features and packages. (own)
unfoldable pub said_with_value : List ℕ → Argument
said_with_value argument = elim (target_of (key_of argument)) [
  | Some target ↦ given_or_awaited target (value_in argument)
  | None ↦ choice_of argument
]

-- The reading of an argument that begins with `-`. (own)
unfoldable pub dashed_of : List ℕ → Argument
dashed_of argument = elim (switch_of argument) [ Some switch ↦ Flag switch | None ↦ said_with_value argument ]

-- `NAME=VALUE`, if there is a value. (Autoconf's manual, "configure Invocation")
abbrev pub assigned : List ℕ → Option (List ℕ) → Argument
assigned name None = Unrecognized
assigned name (Some value) = if is_shell_name_of name then VariableValue name value else BadVariableName

-- The reading of an argument. (Autoconf's manual, "configure Invocation")
unfoldable pub read_argument : List ℕ → Argument
read_argument argument = if is_dashed argument then dashed_of argument else assigned (key_of argument) (value_in argument)

-- ---- all arguments

-- What argument i gives by itself, by its reading. (own)
abbrev pub alone : ℕ → Argument → Result Setting OptionFault
alone i (Flag switch) = Ok (Switched switch)
alone i (OptionValue target value) = Ok (valued target value)
alone i (OptionName target) = Err (MissingValue i)
alone i (FeatureValue kind name value option) = Ok (Choice i kind name value option)
alone i BadFeatureName = Err (BadFeature i)
alone i (VariableValue name value) = Ok (Variable name value)
alone i BadVariableName = Err (BadVariable i)
alone i Unrecognized = Err (Unknown i)

-- The option that needs the next argument as its value, after an argument with this reading. (own)
abbrev pub awaited_by : Argument → Option Target
awaited_by (OptionName target) = Some target
awaited_by other = None

-- The option that needs the next argument as its value, after an argument that may be such a value itself. (own)
abbrev pub awaited_after : Option Target → List ℕ → Option Target
awaited_after (Some target) argument = None
awaited_after None argument = awaited_by (read_argument argument)

-- A setting, and those after it. (own)
abbrev pub and_then : Result Setting OptionFault → Result (List Setting) OptionFault → Result (List Setting) OptionFault
and_then first rest = first >>= λ setting. rest >>= λ settings. Ok (setting ∷ settings)

-- The settings that arguments give, or their first error, after i other arguments, the last of which may be an option
-- that needs a value. (own)
unfoldable pub settings_from : Option Target → ℕ → List (List ℕ) → Result (List Setting) OptionFault
settings_from None i [] = Ok []
settings_from (Some target) i [] = Err (MissingValue i)
settings_from (Some target) i (value ∷ more) = and_then (Ok (valued target value)) (settings_from None (i + 1) more)
settings_from None i (word ∷ more) = elim (awaited_by (read_argument word)) [
  | Some target ↦ settings_from (Some target) (i + 1) more
  | None ↦ and_then (alone (i + 1) (read_argument word)) (settings_from None (i + 1) more)
]
