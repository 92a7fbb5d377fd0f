-- What a run is given, and what follows from it before anything is run.
use Rattle.std.specs.Prelude.{ℕ, Bool, ◌||◌, nat_le, List, [], ◌∷◌, ◌++◌, Option, Some, None, Result, Ok, Err, option_map, if◌then◌else◌}
use Rattle.cachefile.specs.Cache.{cache_of, vars_after}
use Rattle.cachefile.specs.Line.{Setting}
use Rattle.options_line.specs.Kept.{kept_args}
use Rattle.deftable.specs.declared.note.Note.{Note}
use Rattle.output_make.specs.Choice.{missing}
use Rattle.options.specs.Opening.{opening}
use Rattle.options.specs.Precious.{checked}
use Rattle.options.specs.declared.settings.Settings.{Settings}
use Rattle.output_list.specs.declared.output.Output.{Output}
use Rattle.plan.specs.Weight.{heaviest, weight}
use Rattle.plan.specs.declared.fault.PlanFault.TheVariants.{TooLong}
use Rattle.ac_tree.specs.Lists.{lists_of}
use Rattle.ac_tree.specs.Script.{Script}
use Rattle.engine_frame.specs.Faults.{of_option, of_cache, of_precious, named, wants, ◌>>=◌}
use Rattle.engine_frame.specs.declared.starting.Start.{Start}
use Rattle.engine_frame.specs.declared.fault.Fault.{Fault}
use Rattle.engine_frame.specs.declared.fault.Fault.TheVariants.{NoTemplate, Plan}

-- What is accepted: a text is to be shown, or the source is to be run from this start. (own)
pub data Accepted : Type 0 where
  Shows : (script : Script) → (settings : Settings) → Accepted
  Starts : (script : Script) → (start : Start) → Accepted

-- The settings that a source with these statements gets by arguments and an environment, or the
-- first fault: of its plan, and then of the arguments. (own)
unfoldable pub source_settings : List (List ℕ) → List (List ℕ × List ℕ) → Script → Result Settings Fault
source_settings arguments environment script = do
  _ ← wants (nat_le (weight script) heaviest) (Plan TooLong)
  named of_option (opening (lists_of script).features (lists_of script).packages (lists_of script).precious arguments environment)

-- The template of an output isn't there. (own)
abbrev pub none_missing : Option Output → Result (Unit {0}) Fault
none_missing None = Ok tt
none_missing (Some output) = Err (NoTemplate output.template)

-- The templates of files and headers are there, or none is wanted. (own)
unfoldable pub present : Bool → List (List ℕ × List ℕ) → List Output → List Output → Result (Unit {0}) Fault
present no_create templates files headers =
    if no_create then Ok tt
    else (none_missing (missing templates files []) >>= λ _. none_missing (missing templates headers []))

-- The settings of the cache, if one is named and given, and otherwise none. (Autoconf's manual, "Cache Files")
abbrev pub old_of : Option (List ℕ) → Option (List ℕ) → Result (List Setting) Fault
old_of (Some name) (Some text) = named of_cache (cache_of text)
old_of name text = Ok []

-- What a run with these arguments begins with: the precious variables are checked against the cache, which is then poured over
-- the variables. (Autoconf's manual, "Cache Files" and "Setting Output Variables")
unfoldable pub started : List (List ℕ) → Option (List ℕ) → List (List ℕ × List ℕ) → Script → Settings → Result Start Fault
started arguments cache templates script settings = do
  old ← old_of settings.cache_name cache
  result ← named of_precious (checked (lists_of script).precious settings.vars old)
  _ ← present settings.no_create templates (lists_of script).files (lists_of script).headers
  Ok (record {
    cache_name = settings.cache_name;
    srcdir = settings.srcdir;
    no_create = settings.no_create;
    args = kept_args arguments;
    vars = vars_after old result.0;
    notes = settings.notes ++ result.1;
  })

-- A text is to be shown, and nothing is run. (Autoconf's manual, "configure Invocation")
abbrev pub shows : Settings → Bool
shows settings = settings.help || settings.version

-- What follows from these settings, a cache and templates: a text is to be shown, or the source is
-- to be run, or the first fault. (own)
unfoldable pub accepted_after : List (List ℕ) → Option (List ℕ) → List (List ℕ × List ℕ) → Script → Settings → Result Accepted Fault
accepted_after arguments cache templates script settings =
    if shows settings then Ok (Shows script settings)
    else (started arguments cache templates script settings >>= λ start. Ok (Starts script start))
