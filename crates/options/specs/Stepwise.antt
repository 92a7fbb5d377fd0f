-- The opening of a run step by step, as the code reads it: how each argument changes the result of those before it.
use Rattle.std.specs.Prelude.{ℕ, ◌+◌, true, false, List, [], ◌∷◌, ◌++◌, Some, None, Result, Ok, Err, fold, codes, if◌then◌else◌}
use Rattle.deftable.specs.ShellName.{is_shell_name_of}
use Rattle.deftable.specs.Table.{with_entry}
use Rattle.ac_tree.specs.Feature.{option_variable}
use Rattle.ac_tree.specs.declared.feature.OptionKind.{OptionKind}
use Rattle.options_line.specs.Arguments.{Argument, Flag, OptionValue, OptionName, FeatureValue, BadFeatureName, VariableValue, BadVariableName, Unrecognized, read_argument}
use Rattle.options_line.specs.Directories.{directories, variable_of, default_of}
use Rattle.options.specs.Opening.{cache_named, is_declared, checking_in, finished}
use Rattle.options_line.specs.Reading.{◌>>=◌}
use Rattle.options_line.specs.Srcdir.{srcdir_of}
use Rattle.options.specs.Unrecognized.{notes_of}
use Rattle.deftable.specs.declared.note.Note.{Note}
use Rattle.options_line.specs.declared.argument.Switch.{Switch}
use Rattle.options_line.specs.declared.argument.Switch.TheVariants.{ConfigCache, Quiet, NoCreate, Help, Version, Ignored}
use Rattle.options_line.specs.declared.argument.Target.{Target}
use Rattle.options_line.specs.declared.argument.Target.TheVariants.{InstallDirectory, Srcdir, CacheFile}
use Rattle.options_line.specs.declared.directory.Directory.{Directory}
use Rattle.options_line.specs.declared.fault.OptionFault.{OptionFault}
use Rattle.options_line.specs.declared.fault.OptionFault.TheVariants.{Unknown, BadFeature, BadVariable, MissingValue}
use Rattle.options.specs.declared.reader.ReadArguments.{ReadArguments}
use Rattle.options.specs.declared.settings.Settings.{Settings}

-- ---- before the arguments

-- The variables after an entry of the environment: the last of a name counts, and an entry without a shell name is
-- skipped. (own)
unfoldable pub with_environment : List (List ℕ × List ℕ) → List ℕ × List ℕ → List (List ℕ × List ℕ)
with_environment vars entry = if is_shell_name_of entry.0 then with_entry vars entry.0 entry.1 else vars

-- The variables with a directory set to its default. (own)
unfoldable pub with_default : List (List ℕ × List ℕ) → Directory → List (List ℕ × List ℕ)
with_default vars directory = with_entry vars (variable_of directory) (default_of directory)

-- The variables of the environment, and then the directories. (own)
unfoldable pub vars_before : List (List ℕ × List ℕ) → List (List ℕ × List ℕ)
vars_before environment = fold with_default (fold with_environment [] environment) directories

-- The reader before the first argument. (own)
unfoldable pub reader_before : List (List ℕ × List ℕ) → ReadArguments
reader_before environment = record {
  vars = vars_before environment;
  cache_name = None;
  quiet = false;
  no_create = false;
  help = false;
  version = false;
  unrecognized = [];
  awaited = None;
}

-- ---- the arguments, from the left

-- The reader after an option and its value; `srcdir_of` gives the directory of the source. (own)
abbrev pub with_value : Target → List ℕ → ReadArguments → ReadArguments
with_value (InstallDirectory directory) value r = record r { vars = with_entry r.vars (variable_of directory) value }
with_value Srcdir value r = r
with_value CacheFile value r = record r { cache_name = cache_named value }

-- The reader after an option without a value. (own)
abbrev pub with_switch : Switch → ReadArguments → ReadArguments
with_switch ConfigCache r = record r { cache_name = Some (codes "config.cache") }
with_switch Quiet r = record r { quiet = true }
with_switch NoCreate r = record r { no_create = true }
with_switch Help r = record r { help = true }
with_switch Version r = record r { version = true }
with_switch Ignored r = r

-- The reader after a feature or a package of argument i: its variable is set, declared or not. (own)
unfoldable pub with_choice : List (List ℕ) → List (List ℕ) → ℕ → OptionKind → List ℕ → List ℕ → List ℕ → ReadArguments → ReadArguments
with_choice features packages i kind name value option r = record r {
  vars = with_entry r.vars (option_variable kind name) value;
  unrecognized = (if is_declared features packages (option_variable kind name) then r.unrecognized else r.unrecognized ++ (i, option) ∷ []);
}

-- The reader after argument i with this reading. (own)
abbrev pub with_said : List (List ℕ) → List (List ℕ) → ℕ → Argument → ReadArguments → Result ReadArguments OptionFault
with_said features packages i (Flag switch) r = Ok (with_switch switch r)
with_said features packages i (OptionValue target value) r = Ok (with_value target value r)
with_said features packages i (OptionName target) r = Ok (record r { awaited = Some target })
with_said features packages i (FeatureValue kind name value option) r = Ok (with_choice features packages i kind name value option r)
with_said features packages i BadFeatureName r = Err (BadFeature i)
with_said features packages i (VariableValue name value) r = Ok (record r { vars = with_entry r.vars name value })
with_said features packages i BadVariableName r = Err (BadVariable i)
with_said features packages i Unrecognized r = Err (Unknown i)

-- The reader after argument i, which is a value if the option before it needs one. (own)
unfoldable pub with_argument : List (List ℕ) → List (List ℕ) → ℕ → List ℕ → ReadArguments → Result ReadArguments OptionFault
with_argument features packages i argument r = elim r.awaited [
  | Some target ↦ Ok (with_value target argument (record r { awaited = None }))
  | None ↦ with_said features packages i (read_argument argument) r
]

-- The reader after all i arguments: no option still needs a value. (own)
unfoldable pub at_end : ℕ → ReadArguments → Result ReadArguments OptionFault
at_end i r = elim r.awaited [ Some target ↦ Err (MissingValue i) | None ↦ Ok r ]

-- The reader after these arguments, which follow i others. (own)
unfoldable pub with_arguments : List (List ℕ) → List (List ℕ) → ℕ → ReadArguments → List (List ℕ) → Result ReadArguments OptionFault
with_arguments features packages i r [] = at_end i r
with_arguments features packages i r (argument ∷ more) =
    with_argument features packages (i + 1) argument r >>= λ next. with_arguments features packages (i + 1) next more

-- ---- after the arguments

-- The settings after all arguments, with these notes. (own)
unfoldable pub settings_with : List (List ℕ) → List (List ℕ) → ReadArguments → List Note → Settings
settings_with precious arguments r notes = record {
  vars = finished precious r.vars;
  notes = notes;
  cache_name = r.cache_name;
  srcdir = srcdir_of arguments;
  quiet = r.quiet;
  no_create = r.no_create;
  help = r.help;
  version = r.version;
}

-- The settings after all arguments. (own)
unfoldable pub settings_after : List (List ℕ) → List (List ℕ) → ReadArguments → Result Settings OptionFault
settings_after precious arguments r =
    notes_of (checking_in r.vars) r.unrecognized >>= λ notes. Ok (settings_with precious arguments r notes)

-- The settings of a command line and an environment, or the first error. (own)
unfoldable pub stepwise : List (List ℕ) → List (List ℕ) → List (List ℕ) → List (List ℕ) → List (List ℕ × List ℕ) → Result Settings OptionFault
stepwise features packages precious arguments environment =
    with_arguments features packages 0 (reader_before environment) arguments >>= settings_after precious arguments
