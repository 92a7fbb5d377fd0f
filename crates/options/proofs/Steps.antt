-- The code's way through the arguments leads to the opening.
use Rattle.std.proofs.Common.{◌≡◌, ℕ, ◌+◌, Bool, true, false, ◌||◌, if◌then◌else◌, List, [], ◌∷◌, ◌++◌, append_assoc, map, fold, Option, Some, None, Result, Ok, Err, codes, refl, sym, ap, subst, ◌∙◌}
use Rattle.std.specs.List.{filter, flat_map, list_any}
use Rattle.std.proofs.lemmas.List.{append-nil}
use mathlib.Core.Bool.{or-true, or-false}
use Rattle.std.proofs.lemmas.List.Sums.{fold-append}
use Rattle.deftable.specs.ShellName.{is_shell_name_of}
use Rattle.deftable.specs.Table.{with_entry}
use Rattle.ac_tree.specs.Feature.{option_variable}
use Rattle.options_line.proofs.Lines.{alone_awaits, given_reads, Reads}
use Rattle.options_line.proofs.Words.{option_said, setting_said}
use Rattle.options_line.specs.Arguments.{Argument, Flag, OptionValue, OptionName, FeatureValue, VariableValue, read_argument, alone, awaited_by, and_then, settings_from}
use Rattle.options_line.specs.CommandLine as line
use Rattle.options_line.specs.CommandLine.{Setting, Variable, Choice, Cache, SourceDirectory, Switched, valued, GivesSettings}
use Rattle.options_line.specs.Directories.{directories, variable_of, default_of}
use Rattle.options.specs.Opening.{last_of, cache_named, caches_in, sources_in, source_directory, is_quiet, is_no_create, is_help, is_version, variables_in, default_entry, setters, with_variable, set_by, is_declared, undeclared_in, checking_in, run_settings, opened_by, opening}
use Rattle.options_line.specs.Reading.{◌>>=◌}
use Rattle.options_line.specs.Slashes.{without_slashes}
use Rattle.options_line.specs.Srcdir.{srcdir_said, srcdir_from, srcdir_of}
use Rattle.options.specs.Stepwise.{with_environment, with_default, vars_before, reader_before, with_value, with_switch, with_choice, with_said, with_argument, at_end, with_arguments, settings_with, settings_after, stepwise}
use Rattle.options.specs.Unrecognized.{notes_of}
use Rattle.options_line.specs.declared.argument.Target.{Target}
use Rattle.options_line.specs.declared.argument.Target.TheVariants.{InstallDirectory, Srcdir, CacheFile}
use Rattle.options_line.specs.declared.argument.Switch.TheVariants.{Quiet, NoCreate, Help, Version, Ignored}
use Rattle.options_line.specs.declared.directory.Directory.{Directory}
use Rattle.options_line.specs.declared.fault.OptionFault.{OptionFault}
use Rattle.options_line.specs.declared.fault.OptionFault.TheVariants.{MissingValue}
use Rattle.options.specs.declared.reader.ReadArguments.{ReadArguments}
use Rattle.options.specs.declared.settings.Settings.{Settings}

-- ---- how a setting changes a reader

abbrev after : List (List ℕ) → List (List ℕ) → Setting → ReadArguments → ReadArguments
after features packages (Variable name value) r = record r { vars = with_entry r.vars name value }
after features packages (Choice i kind name value option) r = with_choice features packages i kind name value option r
after features packages (Cache name) r = record r { cache_name = cache_named name }
after features packages (SourceDirectory directory) r = r
after features packages (Switched switch) r = with_switch switch r

unfoldable after_all : List (List ℕ) → List (List ℕ) → List Setting → ReadArguments → ReadArguments
after_all features packages [] r = r
after_all features packages (setting ∷ more) r = after_all features packages more (after features packages setting r)

value_after : (features packages : List (List ℕ)) (target : Target) (value : List ℕ) (r : ReadArguments) → with_value target value r ≡ after features packages (valued target value) r
value_after features packages (InstallDirectory directory) value r = refl
value_after features packages Srcdir value r = refl
value_after features packages CacheFile value r = refl

said_after : (features packages : List (List ℕ)) (i : ℕ) (said : Argument) (r : ReadArguments) → awaited_by said ≡ None
    → with_said features packages i said r ≡ (alone i said >>= λ setting. Ok (after features packages setting r))
said_after features packages i (OptionValue target value) r e = ap (λ next. Ok next) (value_after features packages target value r)
said_after features packages i (OptionName target) r e = absurd (cc)
said_after features packages i other r e = refl

awaits_is : (features packages : List (List ℕ)) (i : ℕ) (said : Argument) (target : Target) (r : ReadArguments) → awaited_by said ≡ Some target
    → with_said features packages i said r ≡ Ok (record r { awaited = Some target })
awaits_is features packages i (OptionName target) t r e = ap (λ a. Ok (record r { awaited = a })) e
awaits_is features packages i other t r e = absurd (cc)

-- No option needs a value.
abbrev idle : ReadArguments → ReadArguments
idle r = record r { awaited = None }

idle_is : (r : ReadArguments) → r.awaited ≡ None → idle r ≡ r
idle_is r e = ap (λ a. record r { awaited = a }) (sym e)

awaits_still : (setting : Setting) (features packages : List (List ℕ)) (r : ReadArguments) → (after features packages setting r).awaited ≡ r.awaited
unfolding with_choice
awaits_still (Switched Ignored) features packages r = refl
awaits_still other features packages r = refl

-- ---- the steps, and what the arguments give

joined : (features packages : List (List ℕ)) (first : Setting) (r : ReadArguments) (rest : Result (List Setting) OptionFault)
    → (rest >>= λ settings. Ok (after_all features packages settings (after features packages first r)))
    ≡ (and_then (Ok first) rest >>= λ settings. Ok (after_all features packages settings r))
unfolding after_all
joined features packages first r (Ok settings) = refl
joined features packages first r (Err fault) = refl

-- What is read after an argument.
abbrev Step : List (List ℕ) → List (List ℕ) → List (List ℕ) → Type 0
Step features packages more = (awaited : Option Target) (i : ℕ) (r : ReadArguments) → r.awaited ≡ awaited
    → with_arguments features packages i r more ≡ (settings_from awaited i more >>= λ settings. Ok (after_all features packages settings (idle r)))

after_setting : (features packages more : List (List ℕ)) (i : ℕ) (setting : Setting) (r : ReadArguments) → r.awaited ≡ None → Step features packages more
    → with_arguments features packages i (after features packages setting r) more
    ≡ (and_then (Ok setting) (settings_from None i more) >>= λ settings. Ok (after_all features packages settings r))
after_setting features packages more i setting r e step =
    let none : (after features packages setting r).awaited ≡ None = awaits_still setting features packages r ∙ e in
    step None i (after features packages setting r) none
    ∙ ap (λ q. settings_from None i more >>= λ settings. Ok (after_all features packages settings q)) (idle_is (after features packages setting r) none)
    ∙ joined features packages setting r (settings_from None i more)

end_steps : (features packages : List (List ℕ)) → Step features packages []
unfolding with_arguments at_end settings_from after_all
end_steps features packages None i r e =
    ap (λ a. elim a as (λ a. Result ReadArguments OptionFault) [ Some target ↦ Err (MissingValue i) | None ↦ Ok r ]) e ∙ ap (λ q. Ok q) (sym (idle_is r e))
end_steps features packages (Some target) i r e =
    ap (λ a. elim a as (λ a. Result ReadArguments OptionFault) [ Some target ↦ Err (MissingValue i) | None ↦ Ok r ]) e

value_steps : (features packages : List (List ℕ)) (target : Target) (value : List ℕ) (more : List (List ℕ)) (i : ℕ) (r : ReadArguments) → r.awaited ≡ Some target
    → Step features packages more → with_arguments features packages i r (value ∷ more)
    ≡ (settings_from (Some target) i (value ∷ more) >>= λ settings. Ok (after_all features packages settings (idle r)))
unfolding with_arguments with_argument settings_from
value_steps features packages target value more i r e step =
    ap (λ a. (elim a as (λ a. Result ReadArguments OptionFault) [ Some t ↦ Ok (with_value t value (idle r)) | None ↦ with_said features packages (i + 1) (read_argument value) r ])
    >>= λ next. with_arguments features packages (i + 1) next more) e
    ∙ ap (λ next. with_arguments features packages (i + 1) next more) (value_after features packages target value (idle r))
    ∙ after_setting features packages more (i + 1) (valued target value) (idle r) refl step

-- An argument that isn't the value of an option.
word_steps : (features packages : List (List ℕ)) (word : List ℕ) (more : List (List ℕ)) (i : ℕ) (r : ReadArguments) → r.awaited ≡ None → Step features packages more
    → with_arguments features packages i r (word ∷ more) ≡ (settings_from None i (word ∷ more) >>= λ settings. Ok (after_all features packages settings (idle r)))
unfolding with_arguments with_argument settings_from
word_steps features packages word more i r e step =
    ap (λ a. (elim a as (λ a. Result ReadArguments OptionFault) [ Some t ↦ Ok (with_value t word (idle r)) | None ↦ with_said features packages (i + 1) (read_argument word) r ])
    >>= λ next. with_arguments features packages (i + 1) next more) e
    ∙ at (awaited_by (read_argument word)) refl where
      alone_at : (first : Result Setting OptionFault) → ((first >>= λ setting. Ok (after features packages setting r)) >>= λ next. with_arguments features packages (i + 1) next more)
          ≡ (and_then first (settings_from None (i + 1) more) >>= λ settings. Ok (after_all features packages settings (idle r)))
      alone_at (Ok setting) =
          after_setting features packages more (i + 1) setting r e step
          ∙ ap (λ q. and_then (Ok setting) (settings_from None (i + 1) more) >>= λ settings. Ok (after_all features packages settings q)) (sym (idle_is r e))
      alone_at (Err fault) = refl

      at : (a : Option Target) → awaited_by (read_argument word) ≡ a
          → (with_said features packages (i + 1) (read_argument word) r >>= λ next. with_arguments features packages (i + 1) next more)
          ≡ ((elim a as (λ a. Result (List Setting) OptionFault) [
            | Some target ↦ settings_from (Some target) (i + 1) more
            | None ↦ and_then (alone (i + 1) (read_argument word)) (settings_from None (i + 1) more)
          ]) >>= λ settings. Ok (after_all features packages settings (idle r)))
      at (Some target) is =
          ap (λ q. q >>= λ next. with_arguments features packages (i + 1) next more) (awaits_is features packages (i + 1) (read_argument word) target r is)
          ∙ step (Some target) (i + 1) (record r { awaited = Some target }) refl
      at None is =
          ap (λ q. q >>= λ next. with_arguments features packages (i + 1) next more) (said_after features packages (i + 1) (read_argument word) r is)
          ∙ alone_at (alone (i + 1) (read_argument word))

steps : (features packages arguments : List (List ℕ)) → Step features packages arguments
steps features packages [] = end_steps features packages
steps features packages (word ∷ more) =
    λ awaited i r e. at awaited i r e (steps features packages more) where
      at : (awaited : Option Target) (i : ℕ) (r : ReadArguments) → r.awaited ≡ awaited → Step features packages more
          → with_arguments features packages i r (word ∷ more) ≡ (settings_from awaited i (word ∷ more) >>= λ settings. Ok (after_all features packages settings (idle r)))
      at None i r e step = word_steps features packages word more i r e step
      at (Some target) i r e step = value_steps features packages target word more i r e step

-- ---- how all settings change a reader

choice_unrecognized : (t : Bool) (i : ℕ) (option : List ℕ) (r : ReadArguments) (rest : List (ℕ × List ℕ))
    → (if t then r.unrecognized else r.unrecognized ++ (i, option) ∷ []) ++ rest ≡ r.unrecognized ++ ((if t then [] else (i, option) ∷ []) ++ rest)
choice_unrecognized true i option r rest = refl
choice_unrecognized false i option r rest = append_assoc r.unrecognized ((i, option) ∷ []) rest

-- The reader with what all these settings say.
unfoldable with_settings : List (List ℕ) → List (List ℕ) → List Setting → ReadArguments → ReadArguments
with_settings features packages settings r = record r {
  vars = fold with_variable r.vars (flat_map variables_in settings);
  cache_name = last_of r.cache_name (flat_map caches_in settings);
  quiet = r.quiet || list_any is_quiet settings;
  no_create = r.no_create || list_any is_no_create settings;
  help = r.help || list_any is_help settings;
  version = r.version || list_any is_version settings;
  unrecognized = r.unrecognized ++ flat_map (undeclared_in features packages) settings;
}

one_more : (setting : Setting) (more : List Setting) (features packages : List (List ℕ)) (r : ReadArguments)
    → with_settings features packages more (after features packages setting r) ≡ with_settings features packages (setting ∷ more) r
unfolding with_settings with_choice
one_more (Choice i k n v o) more features packages r =
    ap (λ options. record (with_settings features packages (Choice i k n v o ∷ more) r) { unrecognized = options })
    (choice_unrecognized (is_declared features packages (option_variable k n)) i o r (flat_map (undeclared_in features packages) more))
one_more (Switched Quiet) more features packages r = ap (λ b. record (with_settings features packages (Switched Quiet ∷ more) r) { quiet = b }) (sym (or-true r.quiet))
one_more (Switched NoCreate) more features packages r = ap (λ b. record (with_settings features packages (Switched NoCreate ∷ more) r) { no_create = b }) (sym (or-true r.no_create))
one_more (Switched Help) more features packages r = ap (λ b. record (with_settings features packages (Switched Help ∷ more) r) { help = b }) (sym (or-true r.help))
one_more (Switched Version) more features packages r = ap (λ b. record (with_settings features packages (Switched Version ∷ more) r) { version = b }) (sym (or-true r.version))
one_more other more features packages r = refl

all_after : (settings : List Setting) (features packages : List (List ℕ)) (r : ReadArguments) → after_all features packages settings r ≡ with_settings features packages settings r
unfolding after_all with_settings
all_after [] features packages r = rw (or-false r.quiet, or-false r.no_create, or-false r.help, or-false r.version, append-nil r.unrecognized)
all_after (setting ∷ more) features packages r = all_after more features packages (after features packages setting r) ∙ one_more setting more features packages r

-- ---- variables before the arguments

environment_before : (entries vars : List (List ℕ × List ℕ)) → fold with_environment vars entries ≡ fold with_variable vars (filter (λ entry. is_shell_name_of entry.0) entries)
unfolding with_environment
environment_before [] vars = refl
environment_before (entry ∷ more) vars = at (is_shell_name_of entry.0) (environment_before more) where
  at : (t : Bool) → ((next : List (List ℕ × List ℕ)) → fold with_environment next more ≡ fold with_variable next (filter (λ entry. is_shell_name_of entry.0) more))
      → fold with_environment (if t then with_entry vars entry.0 entry.1 else vars) more
      ≡ fold with_variable vars (if t then entry ∷ filter (λ entry. is_shell_name_of entry.0) more else filter (λ entry. is_shell_name_of entry.0) more)
  at true rest = rest (with_entry vars entry.0 entry.1)
  at false rest = rest vars

defaults_before : (ds : List Directory) (vars : List (List ℕ × List ℕ)) → fold with_default vars ds ≡ fold with_variable vars (map default_entry ds)
unfolding with_default
defaults_before [] vars = refl
defaults_before (d ∷ ds) vars = defaults_before ds (with_entry vars (variable_of d) (default_of d))

vars_are : (environment : List (List ℕ × List ℕ)) (settings : List Setting)
    → fold with_variable (vars_before environment) (flat_map variables_in settings) ≡ set_by (setters environment settings)
unfolding vars_before set_by setters
vars_are environment settings =
    let entries : List (List ℕ × List ℕ) = filter (λ entry. is_shell_name_of entry.0) environment in
    let defaults : List (List ℕ × List ℕ) = map default_entry directories in
    ap (λ vars. fold with_variable vars (flat_map variables_in settings))
    (defaults_before directories (fold with_environment [] environment)
    ∙ ap (λ vars. fold with_variable vars defaults) (environment_before environment [])
    ∙ sym (fold-append with_variable [] entries defaults))
    ∙ sym (fold-append with_variable [] (entries ++ defaults) (flat_map variables_in settings))

-- ---- the directory of the source

said_source : (i : ℕ) (said : Argument) (setting : Setting) (srcdir : List ℕ) → alone i said ≡ Ok setting → srcdir_said said srcdir ≡ last_of srcdir (sources_in setting)
said_source i (Flag switch) setting srcdir e = ap (λ s. last_of srcdir (sources_in s)) (let same : Switched switch ≡ setting = cc in same)
said_source i (OptionValue (InstallDirectory d) value) setting srcdir e = ap (λ s. last_of srcdir (sources_in s)) (let same : Variable (variable_of d) value ≡ setting = cc in same)
said_source i (OptionValue Srcdir value) setting srcdir e = ap (λ s. last_of srcdir (sources_in s)) (let same : SourceDirectory value ≡ setting = cc in same)
said_source i (OptionValue CacheFile value) setting srcdir e = ap (λ s. last_of srcdir (sources_in s)) (let same : Cache value ≡ setting = cc in same)
said_source i (FeatureValue kind name value option) setting srcdir e = ap (λ s. last_of srcdir (sources_in s)) (let same : Choice i kind name value option ≡ setting = cc in same)
said_source i (VariableValue name value) setting srcdir e = ap (λ s. last_of srcdir (sources_in s)) (let same : Variable name value ≡ setting = cc in same)
said_source i other setting srcdir e = absurd (cc)

value_source : (target : Target) (value srcdir : List ℕ) → srcdir_said (OptionValue target value) srcdir ≡ last_of srcdir (sources_in (valued target value))
value_source (InstallDirectory d) value srcdir = refl
value_source Srcdir value srcdir = refl
value_source CacheFile value srcdir = refl

last_more : (setting : Setting) (srcdir : List ℕ) (rest : List (List ℕ)) → last_of (last_of srcdir (sources_in setting)) rest ≡ last_of srcdir (sources_in setting ++ rest)
last_more (SourceDirectory d) srcdir rest = refl
last_more other srcdir rest = refl

named_source : {i : ℕ} {arguments : List (List ℕ)} {settings : List Setting} → GivesSettings i arguments settings → (srcdir : List ℕ)
    → srcdir_from None srcdir arguments ≡ last_of srcdir (flat_map sources_in settings)
unfolding srcdir_from
named_source line.no_more srcdir = refl
named_source {i = i} (line.one_word {word = word} {setting = setting} {more = more} {settings = settings} h rest) srcdir =
    let said = setting_said h in
    ap (λ a. srcdir_from a (srcdir_said (read_argument word) srcdir) more) (alone_awaits (i + 1) (read_argument word) setting said)
    ∙ ap (λ d. srcdir_from None d more) (said_source (i + 1) (read_argument word) setting srcdir said)
    ∙ named_source rest (last_of srcdir (sources_in setting))
    ∙ last_more setting srcdir (flat_map sources_in settings)
named_source (line.two_words {option = option} {target = target} {more = more} {settings = settings} h value rest) srcdir =
    ap (λ said. srcdir_from (awaited_by said) (srcdir_said said srcdir) (value ∷ more)) (option_said h)
    ∙ ap (λ d. srcdir_from None d more) (value_source target value srcdir)
    ∙ named_source rest (last_of srcdir (sources_in (valued target value)))
    ∙ last_more (valued target value) srcdir (flat_map sources_in settings)

-- If the arguments are right, the directory that is named whether or not they are is the one of the settings.
pub srcdir_agrees : (arguments : List (List ℕ)) (settings : List Setting) → GivesSettings 0 arguments settings → srcdir_of arguments ≡ source_directory settings
unfolding srcdir_of source_directory
srcdir_agrees arguments settings h = ap without_slashes (named_source h (codes "."))

-- ---- the whole

-- The result of these settings, with these variables and this directory of the source.
unfoldable made_of : List (List ℕ) → List (List ℕ) → List (List ℕ) → List Setting → List (List ℕ × List ℕ) → List ℕ → Result Settings OptionFault
made_of features packages precious settings vars srcdir =
    notes_of (checking_in vars) (flat_map (undeclared_in features packages) settings) >>= λ notes. Ok (record (run_settings precious vars settings notes) { srcdir = srcdir })

settings_opened : (features packages precious arguments : List (List ℕ)) (environment : List (List ℕ × List ℕ)) (settings : List Setting) → GivesSettings 0 arguments settings
    → settings_after precious arguments (after_all features packages settings (idle (reader_before environment))) ≡ opened_by features packages precious environment settings
unfolding reader_before with_settings settings_after settings_with run_settings opened_by made_of
settings_opened features packages precious arguments environment settings h =
    ap (settings_after precious arguments) (all_after settings features packages (idle (reader_before environment)))
    ∙ ap (λ vars. made_of features packages precious settings vars (srcdir_of arguments)) (vars_are environment settings)
    ∙ ap (made_of features packages precious settings (set_by (setters environment settings))) (srcdir_agrees arguments settings h)

-- The steps of the code give the opening.
pub stepwise_is_opening : (features packages precious arguments : List (List ℕ)) (environment : List (List ℕ × List ℕ))
    → stepwise features packages precious arguments environment ≡ opening features packages precious arguments environment
unfolding stepwise opening reader_before
stepwise_is_opening features packages precious arguments environment =
    ap (λ q. q >>= settings_after precious arguments) (steps features packages arguments None 0 (reader_before environment) refl)
    ∙ at (settings_from None 0 arguments) refl where
      at : (g : Result (List Setting) OptionFault) → settings_from None 0 arguments ≡ g
          → ((g >>= λ settings. Ok (after_all features packages settings (idle (reader_before environment)))) >>= settings_after precious arguments)
          ≡ (g >>= opened_by features packages precious environment)
      at (Ok settings) e = settings_opened features packages precious arguments environment settings (subst (Reads 0 arguments) e (given_reads 0 arguments))
      at (Err fault) e = refl
