-- A run is quiet only if one of its arguments is `--quiet`.
use Rattle.std.proofs.Common.{◌≡◌, ℕ, ◌+◌, Bool, true, false, not, List, [], ◌∷◌, Option, Some, None, Result, Ok, Err, refl, sym, ap, ◌∙◌}
use Rattle.std.specs.Prelude.{◌||◌, IsTrue}
use Rattle.std.specs.List.{list_any}
use Rattle.options_line.specs.Arguments.{Argument, Flag, OptionValue, OptionName, FeatureValue, BadFeatureName, VariableValue, BadVariableName, Unrecognized, alone, and_then, awaited_by, settings_from, read_argument}
use Rattle.options_line.specs.CommandLine.{Setting, valued}
use Rattle.options_line.specs.Reading.{◌>>=◌}
use Rattle.options_line.specs.declared.argument.Switch.TheVariants.{ConfigCache, Quiet, NoCreate, Help, Version, Ignored}
use Rattle.options_line.specs.declared.argument.Target.{Target}
use Rattle.options_line.specs.declared.argument.Target.TheVariants.{InstallDirectory, Srcdir, CacheFile}
use Rattle.options_line.specs.declared.fault.OptionFault.{OptionFault}
use Rattle.deftable.specs.declared.note.Note.{Note}
use Rattle.options.specs.Opening.{opening, opened_by, run_settings, set_by, setters}
use Rattle.options.specs.Opening.{is_quiet as sets_quiet}
use Rattle.options.specs.declared.settings.Settings.{Settings}
use Rattle.cmd_call.specs.Progress.{turns_quiet, is_quiet, IsNeverQuiet}

-- One setting, or all of them, turn quiet on; an error doesn't.
abbrev one_quiet : Result Setting OptionFault → Bool
one_quiet (Ok setting) = sets_quiet setting
one_quiet (Err fault) = false

abbrev any_quiet : Result (List Setting) OptionFault → Bool
any_quiet (Ok settings) = list_any sets_quiet settings
any_quiet (Err fault) = false

one_more : (first : Result Setting OptionFault) (rest : Result (List Setting) OptionFault) → any_quiet (and_then first rest) ≡ true → (one_quiet first || any_quiet rest) ≡ true
one_more (Ok setting) (Ok settings) e = e
one_more (Ok setting) (Err fault) e = cc
one_more (Err fault) rest e = cc

value_quiet : (target : Target) (value : List ℕ) → sets_quiet (valued target value) ≡ false
value_quiet (InstallDirectory directory) value = refl
value_quiet Srcdir value = refl
value_quiet CacheFile value = refl

alone_quiet : (i : ℕ) (said : Argument) → one_quiet (alone i said) ≡ turns_quiet said
alone_quiet i (Flag ConfigCache) = refl
alone_quiet i (Flag Quiet) = refl
alone_quiet i (Flag NoCreate) = refl
alone_quiet i (Flag Help) = refl
alone_quiet i (Flag Version) = refl
alone_quiet i (Flag Ignored) = refl
alone_quiet i (OptionValue target value) = value_quiet target value
alone_quiet i (OptionName target) = refl
alone_quiet i (FeatureValue kind name value option) = refl
alone_quiet i BadFeatureName = refl
alone_quiet i (VariableValue name value) = refl
alone_quiet i BadVariableName = refl
alone_quiet i Unrecognized = refl

or_mono : (a b c : Bool) → (b ≡ true → c ≡ true) → (a || b) ≡ true → (a || c) ≡ true
or_mono true b c h e = refl
or_mono false b c h e = h e

or_second : (a b : Bool) → b ≡ true → (a || b) ≡ true
or_second true b e = refl
or_second false b e = e

-- What follows an argument with this reading.
abbrev after_said : Argument → ℕ → List (List ℕ) → Result (List Setting) OptionFault
after_said said i more = elim (awaited_by said) [
  | Some target ↦ settings_from (Some target) (i + 1) more
  | None ↦ and_then (alone (i + 1) said) (settings_from None (i + 1) more)
]

by_itself : (i : ℕ) (said : Argument) (more : List (List ℕ)) → (any_quiet (settings_from None (i + 1) more) ≡ true → list_any is_quiet more ≡ true)
    → any_quiet (and_then (alone (i + 1) said) (settings_from None (i + 1) more)) ≡ true → (turns_quiet said || list_any is_quiet more) ≡ true
by_itself i said more later e =
    or_mono (turns_quiet said) _ _ later
    (sym (ap (λ b. b || any_quiet (settings_from None (i + 1) more)) (alone_quiet (i + 1) said)) ∙ one_more (alone (i + 1) said) (settings_from None (i + 1) more) e)

by_reading : (said : Argument) (i : ℕ) (more : List (List ℕ)) → (any_quiet (settings_from None (i + 1) more) ≡ true → list_any is_quiet more ≡ true)
    → ((target : Target) → any_quiet (settings_from (Some target) (i + 1) more) ≡ true → list_any is_quiet more ≡ true)
    → any_quiet (after_said said i more) ≡ true → (turns_quiet said || list_any is_quiet more) ≡ true
by_reading (OptionName target) i more later awaited e = awaited target e
by_reading (Flag switch) i more later awaited e = by_itself i (Flag switch) more later e
by_reading (OptionValue target value) i more later awaited e = by_itself i (OptionValue target value) more later e
by_reading (FeatureValue kind name value option) i more later awaited e = by_itself i (FeatureValue kind name value option) more later e
by_reading BadFeatureName i more later awaited e = by_itself i BadFeatureName more later e
by_reading (VariableValue name value) i more later awaited e = by_itself i (VariableValue name value) more later e
by_reading BadVariableName i more later awaited e = by_itself i BadVariableName more later e
by_reading Unrecognized i more later awaited e = by_itself i Unrecognized more later e

-- If the settings of arguments turn quiet on, one of the arguments is `--quiet`.
quiet_given : (arguments : List (List ℕ)) (awaited : Option Target) (i : ℕ) → any_quiet (settings_from awaited i arguments) ≡ true → list_any is_quiet arguments ≡ true
unfolding settings_from
quiet_given [] None i e = e
quiet_given [] (Some target) i e = e
quiet_given (value ∷ more) (Some target) i e =
    let rest = one_more (Ok (valued target value)) (settings_from None (i + 1) more) e in
    or_second (is_quiet value) (list_any is_quiet more)
    (quiet_given more None (i + 1) (sym (ap (λ b. b || any_quiet (settings_from None (i + 1) more)) (value_quiet target value)) ∙ rest))
quiet_given (word ∷ more) None i e = by_reading (read_argument word) i more (quiet_given more None (i + 1)) (λ target. quiet_given more (Some target) (i + 1)) e

-- The settings of a run are quiet if those of its arguments turn quiet on.
abbrev quiet_with : Result Settings OptionFault → Bool
quiet_with (Ok settings) = settings.quiet
quiet_with (Err fault) = false

quiet_run : (precious : List (List ℕ)) (vars : List (List ℕ × List ℕ)) (settings : List Setting) (notes : List Note)
    → quiet_with (Ok (run_settings precious vars settings notes)) ≡ true → list_any sets_quiet settings ≡ true
unfolding run_settings
quiet_run precious vars settings notes e = e

quiet_noted : (precious : List (List ℕ)) (vars : List (List ℕ × List ℕ)) (settings : List Setting) (noted : Result (List Note) OptionFault)
    → quiet_with (noted >>= λ notes. Ok (run_settings precious vars settings notes)) ≡ true → list_any sets_quiet settings ≡ true
quiet_noted precious vars settings (Ok notes) e = quiet_run precious vars settings notes e
quiet_noted precious vars settings (Err fault) e = cc

quiet_opened : (features packages precious : List (List ℕ)) (environment : List (List ℕ × List ℕ)) (read : Result (List Setting) OptionFault)
    → quiet_with (read >>= opened_by features packages precious environment) ≡ true → any_quiet read ≡ true
unfolding opened_by
quiet_opened features packages precious environment (Ok settings) e = quiet_noted precious (set_by (setters environment settings)) settings _ e
quiet_opened features packages precious environment (Err fault) e = cc

quiet_opening : (features packages precious arguments : List (List ℕ)) (environment : List (List ℕ × List ℕ))
    → quiet_with (opening features packages precious arguments environment) ≡ true → list_any is_quiet arguments ≡ true
unfolding opening
quiet_opening features packages precious arguments environment e =
    quiet_given arguments None 0 (quiet_opened features packages precious environment (settings_from None 0 arguments) e)

not_true : (a b : Bool) → (a ≡ true → b ≡ true) → b ≡ false → a ≡ false
not_true true b h e = sym (h refl) ∙ e
not_true false b h e = refl

-- If no argument is `--quiet`, no run is quiet.
pub never_quiet : (arguments : List (List ℕ)) → list_any is_quiet arguments ≡ false → IsNeverQuiet arguments
never_quiet arguments none = λ features packages precious environment settings is.
    sym (ap quiet_with is) ∙ not_true _ _ (quiet_opening features packages precious arguments environment) none

-- The same of the answer whether an argument is `--quiet`.
pub shown_quiet : (arguments : List (List ℕ)) (has : Bool) → has ≡ list_any is_quiet arguments → IsTrue (not has) → IsNeverQuiet arguments
shown_quiet arguments true is shown = cc
shown_quiet arguments false is shown = never_quiet arguments (sym is)
