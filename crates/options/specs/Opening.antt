-- The opening of a run: the variables and the settings that it begins with, from the environment and the arguments of a
-- command line. (Autoconf's manual, "Running configure Scripts", "Setting Output Variables" and "Cache Files")
use Rattle.std.specs.Prelude.{◌≡◌, ℕ, Bool, true, false, ◌||◌, List, [], ◌∷◌, ◌++◌, map, filter, Option, Some, None, unwrap_or, Result, Ok, Err, fold, codes, if◌then◌else◌}
use Rattle.std.specs.List.{flat_map, list_any}
use Rattle.std.specs.Str.{bytes_eq}
use Rattle.deftable.specs.NameList.{has_name}
use Rattle.deftable.specs.ShellName.{is_shell_name_of}
use Rattle.deftable.specs.Table.{value_of, with_entry}
use Rattle.ac_tree.specs.Feature.{option_variable}
use Rattle.options_line.specs.Arguments.{settings_from}
use Rattle.options_line.specs.CommandLine.{Setting, Variable, Choice, Cache, SourceDirectory, Switched, GivesSettings, IsFirstFault}
use Rattle.options_line.specs.Directories.{directories, variable_of, default_of}
use Rattle.options_line.specs.Reading.{◌>>=◌}
use Rattle.options_line.specs.Slashes.{without_slashes}
use Rattle.options.specs.Unrecognized.{notes_of}
use Rattle.deftable.specs.declared.note.Note.{Note}
use Rattle.options_line.specs.declared.argument.Switch.TheVariants.{ConfigCache, Quiet, NoCreate, Help, Version}
use Rattle.options_line.specs.declared.directory.Directory.{Directory}
use Rattle.options_line.specs.declared.fault.OptionFault.{OptionFault}
use Rattle.options.specs.declared.settings.Settings.{Settings}

-- ---- which setting counts

-- The last of these, or else the first argument. (own)
abbrev pub last_of : {A : Type 0} → A → List A → A
last_of otherwise [] = otherwise
last_of otherwise (x ∷ xs) = last_of x xs

-- The cache of a name: none if the name is empty or `/dev/null`. (Autoconf's manual, "Cache Files")
unfoldable pub cache_named : List ℕ → Option (List ℕ)
cache_named name = if bytes_eq name [] || bytes_eq name (codes "/dev/null") then None else Some name

-- The cache that a setting names, or none. (own)
abbrev pub caches_in : Setting → List (Option (List ℕ))
caches_in (Cache name) = cache_named name ∷ []
caches_in (Switched ConfigCache) = Some (codes "config.cache") ∷ []
caches_in other = []

-- The directory of the source that a setting names. (own)
abbrev pub sources_in : Setting → List (List ℕ)
sources_in (SourceDirectory directory) = directory ∷ []
sources_in other = []

-- The directory of the source: the last one that is named, without final slashes, or the current one if none is. (own)
unfoldable pub source_directory : List Setting → List ℕ
source_directory settings = without_slashes (last_of (codes ".") (flat_map sources_in settings))

-- The setting is `--quiet`. (own)
abbrev pub is_quiet : Setting → Bool
is_quiet (Switched Quiet) = true
is_quiet other = false

-- The setting is `--no-create`. (own)
abbrev pub is_no_create : Setting → Bool
is_no_create (Switched NoCreate) = true
is_no_create other = false

-- The setting is `--help`. (own)
abbrev pub is_help : Setting → Bool
is_help (Switched Help) = true
is_help other = false

-- The setting is `--version`. (own)
abbrev pub is_version : Setting → Bool
is_version (Switched Version) = true
is_version other = false

-- ---- variables

-- The variable that a setting sets, and its value. (own)
abbrev pub variables_in : Setting → List (List ℕ × List ℕ)
variables_in (Variable name value) = (name, value) ∷ []
variables_in (Choice place kind name value option) = (option_variable kind name, value) ∷ []
variables_in other = []

-- The variable of a directory, and its default. (own)
abbrev pub default_entry : Directory → List ℕ × List ℕ
default_entry directory = (variable_of directory, default_of directory)

-- What sets variables, from first to last: the entries of the environment with shell names, the defaults of the
-- directories, and the settings. (own)
unfoldable pub setters : List (List ℕ × List ℕ) → List Setting → List (List ℕ × List ℕ)
setters environment settings =
    filter (λ entry. is_shell_name_of entry.0) environment ++ map default_entry directories ++ flat_map variables_in settings

-- The variables with one set to a value. (own)
abbrev pub with_variable : List (List ℕ × List ℕ) → List ℕ × List ℕ → List (List ℕ × List ℕ)
with_variable vars entry = with_entry vars entry.0 entry.1

-- The variables after all of these are set: each has the value of its last setter. (own)
unfoldable pub set_by : List (List ℕ × List ℕ) → List (List ℕ × List ℕ)
set_by entries = fold with_variable [] entries

-- The variables with the final slashes of a directory's value dropped. (own)
unfoldable pub with_unslashed : List (List ℕ × List ℕ) → Directory → List (List ℕ × List ℕ)
with_unslashed vars directory = elim (value_of vars (variable_of directory)) [
  | None ↦ vars
  | Some value ↦ with_entry vars (variable_of directory) (without_slashes value)
]

-- `set`, or the empty text if the variable isn't set. (own)
abbrev pub set_mark : Option (List ℕ) → List ℕ
set_mark (Some value) = codes "set"
set_mark None = []

-- The name of the mark for whether a variable is set, and that of the mark for its value. (own)
abbrev pub set_name : List ℕ → List ℕ
set_name name = codes "ac_cv_env_" ++ name ++ codes "_set"

abbrev pub value_name : List ℕ → List ℕ
value_name name = codes "ac_cv_env_" ++ name ++ codes "_value"

-- The name is that of a mark of one of these variables. (own)
unfoldable pub marks_one : List (List ℕ) → List ℕ → Bool
marks_one [] q = false
marks_one (name ∷ more) q = bytes_eq q (set_name name) || bytes_eq q (value_name name) || marks_one more q

-- The marks of a variable, by its value among these: whether it is set, and the value. (own)
unfoldable pub marks_of : List (List ℕ × List ℕ) → List ℕ → List (List ℕ × List ℕ)
marks_of vars name = (set_name name, set_mark (value_of vars name)) ∷ (value_name name, unwrap_or (value_of vars name) []) ∷ []

-- The variables with the marks of the precious ones. All marks are made of the variables before any mark, so if a precious
-- variable has the name of a mark, its own marks have the value that it had before. (own)
unfoldable pub with_marks : List (List ℕ) → List (List ℕ × List ℕ) → List (List ℕ × List ℕ)
with_marks precious vars = fold with_variable vars (flat_map (marks_of vars) precious)

-- The variables before any mark: those of all setters, without final slashes of directories. (own)
unfoldable pub unmarked : List (List ℕ × List ℕ) → List (List ℕ × List ℕ)
unmarked vars = fold with_unslashed vars directories

-- The variables at the end: final slashes of directories are dropped, and then precious variables are marked. (own)
unfoldable pub finished : List (List ℕ) → List (List ℕ × List ℕ) → List (List ℕ × List ℕ)
finished precious vars = with_marks precious (unmarked vars)

-- ---- options that no macro declares

-- The source declares the variable, or it is that of `--enable-option-checking`. (Autoconf's manual, "Controlling
-- Checking of configure Options")
unfoldable pub is_declared : List (List ℕ) → List (List ℕ) → List ℕ → Bool
is_declared features packages variable =
    has_name features variable || has_name packages variable || bytes_eq variable (codes "enable_option_checking")

-- The option of a feature or a package, with the number of its argument, if its variable is not declared. (own)
abbrev pub undeclared_in : List (List ℕ) → List (List ℕ) → Setting → List (ℕ × List ℕ)
undeclared_in features packages (Choice place kind name value option) =
    if is_declared features packages (option_variable kind name) then [] else (place, option) ∷ []
undeclared_in features packages other = []

-- How options are checked: the value of `enable_option_checking`, or the empty text if it isn't set. (own)
abbrev pub checking_in : List (List ℕ × List ℕ) → List ℕ
checking_in vars = unwrap_or (value_of vars (codes "enable_option_checking")) []

-- ---- the opening

-- The settings of the run, with these variables and these notes. (own)
unfoldable pub run_settings : List (List ℕ) → List (List ℕ × List ℕ) → List Setting → List Note → Settings
run_settings precious vars settings notes = record {
  vars = finished precious vars;
  notes = notes;
  cache_name = last_of None (flat_map caches_in settings);
  srcdir = source_directory settings;
  quiet = list_any is_quiet settings;
  no_create = list_any is_no_create settings;
  help = list_any is_help settings;
  version = list_any is_version settings;
}

-- What a run begins with, by the settings of its arguments, or the error if options are checked fatally and one isn't
-- declared. (own)
unfoldable pub opened_by : List (List ℕ) → List (List ℕ) → List (List ℕ) → List (List ℕ × List ℕ) → List Setting → Result Settings OptionFault
opened_by features packages precious environment settings =
    let vars : List (List ℕ × List ℕ) = set_by (setters environment settings) in
    notes_of (checking_in vars) (flat_map (undeclared_in features packages) settings) >>= λ notes. Ok (run_settings precious vars settings notes)

-- What a run begins with, by a command line and an environment, if the source declares these features, packages and
-- precious variables, or the first error. (Autoconf's manual, "Running configure Scripts")
unfoldable pub opening : List (List ℕ) → List (List ℕ) → List (List ℕ) → List (List ℕ) → List (List ℕ × List ℕ) → Result Settings OptionFault
opening features packages precious arguments environment = settings_from None 0 arguments >>= opened_by features packages precious environment

-- ---- the same as relations

-- The arguments give settings, and the run begins with these. (own)
pub record IsOpening (features packages precious arguments : List (List ℕ)) (environment : List (List ℕ × List ℕ)) (opened : Settings) : Type 0 where
  pub settings : List Setting
  pub gives : GivesSettings 0 arguments settings
  pub is : opened_by features packages precious environment settings ≡ Ok opened

-- The first error: of the arguments or, if they have none, of an option that isn't declared. (own)
pub data IsOpeningFault (features packages precious arguments : List (List ℕ)) (environment : List (List ℕ × List ℕ)) (fault : OptionFault) : Type 0 where
  of_arguments : IsFirstFault 0 arguments fault → IsOpeningFault features packages precious arguments environment fault
  of_options : (settings : List Setting) → GivesSettings 0 arguments settings → opened_by features packages precious environment settings ≡ Err fault
      → IsOpeningFault features packages precious arguments environment fault
