-- What the arguments that are kept of a command line give.
use Rattle.std.proofs.Common.{◌≡◌, ◌≢◌, ℕ, ◌+◌, Bool, true, false, List, [], ◌∷◌, ◌++◌, if◌then◌else◌, None, Ok, refl, sym, ap, subst, ◌∙◌}
use Rattle.options_line.proofs.Words.{setting_said, option_said}
use Rattle.options_line.proofs.Lines.{alone_awaits}
use Rattle.options_line.specs.Arguments.{Argument, Flag, OptionValue, OptionName, FeatureValue, BadFeatureName, VariableValue, BadVariableName, Unrecognized, alone, awaited_by, read_argument}
use Rattle.options_line.specs.CommandLine as line
use Rattle.options_line.specs.CommandLine.{Setting, Variable, Choice, Cache, SourceDirectory, Switched, valued, IsOption, GivesAlone, GivesSettings}
use Rattle.options_line.specs.Kept.{is_no_create, kept_of, kept_from, kept_args}
use Rattle.options_line.specs.KeptSettings as keeping
use Rattle.options_line.specs.KeptSettings.{placed, AreKept, GivesKept}
use Rattle.options_line.specs.declared.argument.Target.{Target}
use Rattle.options_line.specs.declared.argument.Target.TheVariants.{InstallDirectory, Srcdir, CacheFile}
use Rattle.options_line.specs.declared.argument.Switch.TheVariants.{ConfigCache, Quiet, NoCreate, Help, Version, Ignored}

-- A setting at another place.
placed_alone : {i : ℕ} {word : List ℕ} {setting : Setting} (j : ℕ) → GivesAlone i word setting → GivesAlone j word (placed j setting)
placed_alone j (line.switch is) = line.switch is
placed_alone j (line.option line.srcdir value) = line.option line.srcdir value
placed_alone j (line.option line.cache_file value) = line.option line.cache_file value
placed_alone j (line.option (line.directory d) value) = line.option (line.directory d) value
placed_alone j (line.enabled kind name h) = line.enabled kind name h
placed_alone j (line.enabled_as kind name value h) = line.enabled_as kind name value h
placed_alone j (line.disabled kind name h) = line.disabled kind name h
placed_alone j (line.assignment name value h) = line.assignment name value h

placed_valued : (j : ℕ) (target : Target) (value : List ℕ) → placed j (valued target value) ≡ valued target value
placed_valued j (InstallDirectory d) value = refl
placed_valued j Srcdir value = refl
placed_valued j CacheFile value = refl

other_valued : (target : Target) (value : List ℕ) → valued target value ≢ Switched NoCreate
other_valued (InstallDirectory d) value = λ e. cc
other_valued Srcdir value = λ e. cc
other_valued CacheFile value = λ e. cc

-- The setting of a word that is left out, and of one that isn't.
no_create_set : (i : ℕ) (said : Argument) (setting : Setting) → alone i said ≡ Ok setting → is_no_create said ≡ true → setting ≡ Switched NoCreate
no_create_set i (Flag NoCreate) setting e h = cc
no_create_set i (Flag ConfigCache) setting e h = absurd (cc)
no_create_set i (Flag Quiet) setting e h = absurd (cc)
no_create_set i (Flag Help) setting e h = absurd (cc)
no_create_set i (Flag Version) setting e h = absurd (cc)
no_create_set i (Flag Ignored) setting e h = absurd (cc)
no_create_set i (OptionValue target value) setting e h = absurd (cc)
no_create_set i (OptionName target) setting e h = absurd (cc)
no_create_set i (FeatureValue kind name value option) setting e h = absurd (cc)
no_create_set i BadFeatureName setting e h = absurd (cc)
no_create_set i (VariableValue name value) setting e h = absurd (cc)
no_create_set i BadVariableName setting e h = absurd (cc)
no_create_set i Unrecognized setting e h = absurd (cc)

other_set : (i : ℕ) (said : Argument) (setting : Setting) → alone i said ≡ Ok setting → is_no_create said ≡ false → setting ≢ Switched NoCreate
other_set i (Flag NoCreate) setting e h = λ is. let no : true ≡ false = h in cc
other_set i (Flag ConfigCache) setting e h = λ is. cc
other_set i (Flag Quiet) setting e h = λ is. cc
other_set i (Flag Help) setting e h = λ is. cc
other_set i (Flag Version) setting e h = λ is. cc
other_set i (Flag Ignored) setting e h = λ is. cc
other_set i (OptionValue target value) setting e h = λ is. other_valued target value (let same : valued target value ≡ setting = cc in same ∙ is)
other_set i (OptionName target) setting e h = λ is. cc
other_set i (FeatureValue kind name value option) setting e h = λ is. cc
other_set i BadFeatureName setting e h = λ is. cc
other_set i (VariableValue name value) setting e h = λ is. cc
other_set i BadVariableName setting e h = λ is. cc
other_set i Unrecognized setting e h = λ is. cc

kept_word : (word : List ℕ) (more : List (List ℕ)) → awaited_by (read_argument word) ≡ None → kept_args (word ∷ more) ≡ kept_of None word ++ kept_args more
unfolding kept_from
kept_word word more e = ap (λ t. kept_of None word ++ kept_from t more) e

kept_option : {option : List ℕ} {target : Target} → IsOption option target → (value : List ℕ) (more : List (List ℕ)) → kept_args (option ∷ value ∷ more) ≡ option ∷ value ∷ kept_args more
unfolding kept_from
kept_option {option = option} is value more = ap (λ s. (if is_no_create s then [] else option ∷ []) ++ kept_from (awaited_by s) (value ∷ more)) (option_said is)

kept_none : kept_args [] ≡ []
unfolding kept_from
kept_none = refl

one_kept : (i j : ℕ) (word : List ℕ) (more : List (List ℕ)) (setting : Setting) (settings : List Setting) → GivesAlone i word setting
    → ((n : ℕ) → GivesKept n more settings) → GivesKept j (word ∷ more) (setting ∷ settings)
one_kept i j word more setting settings h rest = at (is_no_create (read_argument word)) refl where
  whole : kept_args (word ∷ more) ≡ kept_of None word ++ kept_args more
  whole = kept_word word more (alone_awaits i (read_argument word) setting (setting_said h))

  at : (t : Bool) → is_no_create (read_argument word) ≡ t → GivesKept j (word ∷ more) (setting ∷ settings)
  at true e =
      let r = rest j in
      let left : kept_args (word ∷ more) ≡ kept_args more = whole ∙ ap (λ t. (if t then [] else word ∷ []) ++ kept_args more) e in
      record {
        kept = r.kept;
        gives = subst (λ a. GivesSettings j a r.kept) (sym left) r.gives;
        are = subst (λ s. AreKept (s ∷ settings) r.kept) (sym (no_create_set i (read_argument word) setting (setting_said h) e)) (keeping.left_out r.are);
      }
  at false e =
      let r = rest (j + 1) in
      let stays : kept_args (word ∷ more) ≡ word ∷ kept_args more = whole ∙ ap (λ t. (if t then [] else word ∷ []) ++ kept_args more) e in
      record {
        kept = placed (j + 1) setting ∷ r.kept;
        gives = subst (λ a. GivesSettings j a (placed (j + 1) setting ∷ r.kept)) (sym stays) (line.one_word (placed_alone (j + 1) h) r.gives);
        are = keeping.one_more (j + 1) (other_set i (read_argument word) setting (setting_said h) e) r.are;
      }

two_kept : (j : ℕ) (option value : List ℕ) (target : Target) (more : List (List ℕ)) (settings : List Setting) → IsOption option target
    → GivesKept (j + 2) more settings → GivesKept j (option ∷ value ∷ more) (valued target value ∷ settings)
two_kept j option value target more settings is r = record {
  kept = placed j (valued target value) ∷ r.kept;
  gives = subst (λ a. GivesSettings j a (placed j (valued target value) ∷ r.kept)) (sym (kept_option is value more))
      (subst (λ s. GivesSettings j (option ∷ value ∷ kept_args more) (s ∷ r.kept)) (sym (placed_valued j target value)) (line.two_words is value r.gives));
  are = keeping.one_more j (other_valued target value) r.are;
}

pub settings_kept : {i : ℕ} {arguments : List (List ℕ)} {settings : List Setting} → GivesSettings i arguments settings → (j : ℕ) → GivesKept j arguments settings
settings_kept line.no_more j = record { kept = []; gives = subst (λ a. GivesSettings j a []) (sym kept_none) line.no_more; are = keeping.no_more }
settings_kept {i = i} (line.one_word {word = word} {setting = setting} {more = more} {settings = settings} h rest) j =
    one_kept (i + 1) j word more setting settings h (λ n. settings_kept rest n)
settings_kept (line.two_words {option = option} {target = target} {more = more} {settings = settings} is value rest) j =
    two_kept j option value target more settings is (settings_kept rest (j + 2))
