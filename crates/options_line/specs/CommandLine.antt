-- Which settings the arguments of a command line give, and which argument is the first with an error. (Autoconf's
-- manual, "Running configure Scripts", "configure Invocation" and "Package Options"; the table of options is own)
use Rattle.std.specs.Prelude.{◌≡◌, ℕ, ◌+◌, Bool, true, false, ◌==◌, List, [], ◌∷◌, ◌++◌, codes, if◌then◌else◌}
use Rattle.deftable.specs.ShellName.{is_shell_name_of}
use Rattle.ac_tree.specs.Feature.{is_feature}
use Rattle.ac_tree.specs.declared.feature.OptionKind.{OptionKind}
use Rattle.ac_tree.specs.declared.feature.OptionKind.TheVariants.{Feature, Package}
use Rattle.options_line.specs.Directories.{variable_of, option_of}
use Rattle.options_line.specs.declared.directory.Directory.{Directory}
use Rattle.options_line.specs.declared.argument.Target.{Target}
use Rattle.options_line.specs.declared.argument.Target.TheVariants.{InstallDirectory, Srcdir, CacheFile}
use Rattle.options_line.specs.declared.argument.Switch.{Switch}
use Rattle.options_line.specs.declared.argument.Switch.TheVariants.{ConfigCache, Quiet, NoCreate, Help, Version, Ignored}
use Rattle.options_line.specs.declared.fault.OptionFault.{OptionFault}
use Rattle.options_line.specs.declared.fault.OptionFault.TheVariants.{Unknown, BadFeature, BadVariable, MissingValue}

-- ---- settings

-- What one argument, or an option and its value, sets. (own)
pub data Setting : Type 0 where
  -- The value of a variable.
  Variable : (name : List ℕ) → (value : List ℕ) → Setting
  -- The value of a feature or a package, with the number of the argument and its text before the `=`.
  Choice : (place : ℕ) → (kind : OptionKind) → (name : List ℕ) → (value : List ℕ) → (option : List ℕ) → Setting
  -- The name of the cache.
  Cache : (name : List ℕ) → Setting
  -- The directory of the source.
  SourceDirectory : (directory : List ℕ) → Setting
  -- What an option without a value turns on.
  Switched : (switch : Switch) → Setting

-- What an option sets to its value. (own)
abbrev pub valued : Target → List ℕ → Setting
valued (InstallDirectory directory) value = Variable (variable_of directory) value
valued Srcdir value = SourceDirectory value
valued CacheFile value = Cache value

-- ---- words

-- The options without a value. (Autoconf's manual, "configure Invocation")
pub data IsSwitch : List ℕ → Switch → Type 0 where
  config_cache_short : IsSwitch (codes "-C") ConfigCache
  config_cache : IsSwitch (codes "--config-cache") ConfigCache
  quiet_short : IsSwitch (codes "-q") Quiet
  quiet : IsSwitch (codes "--quiet") Quiet
  silent : IsSwitch (codes "--silent") Quiet
  no_create_short : IsSwitch (codes "-n") NoCreate
  no_create : IsSwitch (codes "--no-create") NoCreate
  help_short : IsSwitch (codes "-h") Help
  help : IsSwitch (codes "--help") Help
  version_short : IsSwitch (codes "-V") Version
  version : IsSwitch (codes "--version") Version
  verbose_short : IsSwitch (codes "-v") Ignored
  verbose : IsSwitch (codes "--verbose") Ignored
  no_recursion : IsSwitch (codes "--no-recursion") Ignored

-- The options with a value. (Autoconf's manual, "configure Invocation" and "Installation Directory Variables")
pub data IsOption : List ℕ → Target → Type 0 where
  srcdir : IsOption (codes "--srcdir") Srcdir
  cache_file : IsOption (codes "--cache-file") CacheFile
  directory : (directory : Directory) → IsOption (codes "--" ++ option_of directory) (InstallDirectory directory)

-- The front of an option that turns a feature on, or uses a package. (Autoconf's manual, "Package Options" and
-- "External Software")
abbrev pub enabling : OptionKind → List ℕ
enabling Feature = codes "--enable-"
enabling Package = codes "--with-"

-- The front of an option that turns a feature off, or doesn't use a package. (Autoconf's manual, "Package Options" and
-- "External Software")
abbrev pub disabling : OptionKind → List ℕ
disabling Feature = codes "--disable-"
disabling Package = codes "--without-"

-- The text before the first `=`, or all of it if it has none. (own)
unfoldable pub key_of : List ℕ → List ℕ
key_of [] = []
key_of (b ∷ bs) = if b == 61 then [] else b ∷ key_of bs

-- The text begins with `-`. (own)
abbrev pub is_dashed : List ℕ → Bool
is_dashed [] = false
is_dashed (b ∷ bs) = b == 45

-- ---- one argument

-- Argument i gives this setting by itself: it is an option without a value; an option, a `=` and its value; a feature
-- or a package, which is `yes` or has a value after a `=`; one that is turned off; or a variable and its value.
-- (Autoconf's manual, "configure Invocation")
pub data GivesAlone (i : ℕ) : List ℕ → Setting → Type 0 where
  switch : {word : List ℕ} {switch : Switch} → IsSwitch word switch → GivesAlone i word (Switched switch)
  option : {option : List ℕ} {target : Target} → IsOption option target → (value : List ℕ) → GivesAlone i (option ++ codes "=" ++ value) (valued target value)
  enabled : (kind : OptionKind) (name : List ℕ) → is_feature name ≡ true → GivesAlone i (enabling kind ++ name) (Choice i kind name (codes "yes") (enabling kind ++ name))
  enabled_as : (kind : OptionKind) (name value : List ℕ) → is_feature name ≡ true
      → GivesAlone i (enabling kind ++ name ++ codes "=" ++ value) (Choice i kind name value (enabling kind ++ name))
  disabled : (kind : OptionKind) (name : List ℕ) → is_feature name ≡ true → GivesAlone i (disabling kind ++ name) (Choice i kind name (codes "no") (disabling kind ++ name))
  assignment : (name value : List ℕ) → is_shell_name_of name ≡ true → GivesAlone i (name ++ codes "=" ++ value) (Variable name value)

-- The argument is for a feature or a package whose name has not the form of one; the name ends before the first `=` if
-- it is turned on, and is all of the rest if it is turned off. (own)
pub data IsMisnamed : List ℕ → Type 0 where
  enabled : (kind : OptionKind) (rest : List ℕ) → is_feature (key_of rest) ≡ false → IsMisnamed (enabling kind ++ rest)
  disabled : (kind : OptionKind) (rest : List ℕ) → is_feature rest ≡ false → IsMisnamed (disabling kind ++ rest)

-- The argument doesn't begin with `-` and has a `=`, and the text before the first one is no shell name. (own)
pub data IsMisassigned : List ℕ → Type 0 where
  misassigned : (name value : List ℕ) → is_dashed (name ++ codes "=" ++ value) ≡ false → key_of name ≡ name → is_shell_name_of name ≡ false
      → IsMisassigned (name ++ codes "=" ++ value)

-- The argument is none of these, nor an option that takes the next argument as its value. (own)
pub record IsOther (i : ℕ) (word : List ℕ) : Type 0 where
  pub no_setting : (setting : Setting) → ¬ (GivesAlone i word setting)
  pub no_option : (target : Target) → ¬ (IsOption word target)
  pub no_feature : ¬ (IsMisnamed word)
  pub no_assignment : ¬ (IsMisassigned word)

-- Argument i has this error by itself. (own)
pub data IsAtFault (i : ℕ) (word : List ℕ) : OptionFault → Type 0 where
  unknown : IsOther i word → IsAtFault i word (Unknown i)
  bad_feature : IsMisnamed word → IsAtFault i word (BadFeature i)
  bad_variable : IsMisassigned word → IsAtFault i word (BadVariable i)

-- ---- all arguments

-- The arguments after i others give these settings, from the left; an option without a `=` takes the next argument as
-- its value, whatever that is. (Autoconf's manual, "configure Invocation")
pub data GivesSettings : ℕ → List (List ℕ) → List Setting → Type 0 where
  no_more : {i : ℕ} → GivesSettings i [] []
  one_word : {i : ℕ} {word : List ℕ} {setting : Setting} {more : List (List ℕ)} {settings : List Setting}
      → GivesAlone (i + 1) word setting → GivesSettings (i + 1) more settings → GivesSettings i (word ∷ more) (setting ∷ settings)
  two_words : {i : ℕ} {option : List ℕ} {target : Target} {more : List (List ℕ)} {settings : List Setting}
      → IsOption option target → (value : List ℕ) → GivesSettings (i + 2) more settings → GivesSettings i (option ∷ value ∷ more) (valued target value ∷ settings)

-- The first error of the arguments after i others; all arguments before it give settings. (own)
pub data IsFirstFault : ℕ → List (List ℕ) → OptionFault → Type 0 where
  at_once : {i : ℕ} {word : List ℕ} {more : List (List ℕ)} {fault : OptionFault} → IsAtFault (i + 1) word fault → IsFirstFault i (word ∷ more) fault
  no_value : {i : ℕ} {option : List ℕ} {target : Target} → IsOption option target → IsFirstFault i (option ∷ []) (MissingValue (i + 1))
  after_word : {i : ℕ} {word : List ℕ} {setting : Setting} {more : List (List ℕ)} {fault : OptionFault}
      → GivesAlone (i + 1) word setting → IsFirstFault (i + 1) more fault → IsFirstFault i (word ∷ more) fault
  after_words : {i : ℕ} {option value : List ℕ} {target : Target} {more : List (List ℕ)} {fault : OptionFault}
      → IsOption option target → IsFirstFault (i + 2) more fault → IsFirstFault i (option ∷ value ∷ more) fault
