-- How one argument is read, as a function and by its rule.
use Rattle.std.proofs.Common.{◌≡◌, ℕ, Bool, true, false, if◌then◌else◌, List, [], ◌∷◌, ◌++◌, append_assoc, Option, Some, None, Ok, codes, refl, sym, ap, subst, ◌∙◌}
use Rattle.std.specs.Prelude.{unwrap_or}
use Rattle.std.specs.List.{find}
use Rattle.std.specs.Option.{option_map}
use Rattle.std.specs.Str.{bytes_eq}
use Rattle.std.proofs.lemmas.Slice.Eq.{bytes_eq-Decides}
use Rattle.deftable.specs.ShellName.{is_shell_name_of}
use Rattle.ac_tree.specs.Feature.{is_feature}
use Rattle.ac_tree.specs.declared.feature.OptionKind.{OptionKind}
use Rattle.ac_tree.specs.declared.feature.OptionKind.TheVariants.{Feature, Package}
use Rattle.options_line.proofs.Pieces.{rest_is, text_parts, key_whole, key_key, key_front, value_front, no_value_in, feature_key, shell_key, shell_plain}
use Rattle.options_line.specs.Arguments.{Argument, Flag, OptionValue, OptionName, FeatureValue, BadFeatureName, VariableValue, BadVariableName, Unrecognized, switch_of, switches, install_directory_named, install_directory_of, target_of, chosen, enabled, disabled, package_of, choice_of, given_or_awaited, said_with_value, dashed_of, assigned, read_argument, value_in, rest_after, alone}
use Rattle.options_line.specs.CommandLine as line
use Rattle.options_line.specs.CommandLine.{Setting, Variable, Choice, Switched, valued, IsSwitch, IsOption, enabling, disabling, key_of, is_dashed, GivesAlone, IsMisnamed, IsMisassigned}
use Rattle.options_line.specs.Directories.{directories, directory_named, option_of, variable_of}
use Rattle.options_line.specs.declared.directory.Directory.{Directory}
use Rattle.options_line.specs.declared.directory.Directory.TheVariants.{Prefix, ExecPrefix, Bindir, Sbindir, Libexecdir, Libdir, Datarootdir, Datadir, Sysconfdir, Sharedstatedir, Localstatedir, Runstatedir, Includedir, Oldincludedir, Docdir, Infodir, Htmldir, Dvidir, Pdfdir, Psdir, Localedir, Mandir}
use Rattle.options_line.specs.declared.argument.Target.{Target}
use Rattle.options_line.specs.declared.argument.Target.TheVariants.{InstallDirectory, Srcdir, CacheFile}
use Rattle.options_line.specs.declared.argument.Switch.{Switch}

-- ---- from the rule to the function

pub switch_said : {word : List ℕ} {switch : Switch} → IsSwitch word switch → read_argument word ≡ Flag switch
unfolding read_argument dashed_of switch_of switches
switch_said line.config_cache_short = refl
switch_said line.config_cache = refl
switch_said line.quiet_short = refl
switch_said line.quiet = refl
switch_said line.silent = refl
switch_said line.no_create_short = refl
switch_said line.no_create = refl
switch_said line.help_short = refl
switch_said line.help = refl
switch_said line.version_short = refl
switch_said line.version = refl
switch_said line.verbose_short = refl
switch_said line.verbose = refl
switch_said line.no_recursion = refl

directory_said : (d : Directory) → read_argument (codes "--" ++ option_of d) ≡ OptionName (InstallDirectory d)
unfolding read_argument dashed_of switch_of switches said_with_value key_of value_in target_of install_directory_of rest_after directory_named directories option_of variable_of
directory_said Prefix = refl
directory_said ExecPrefix = refl
directory_said Bindir = refl
directory_said Sbindir = refl
directory_said Libexecdir = refl
directory_said Libdir = refl
directory_said Datarootdir = refl
directory_said Datadir = refl
directory_said Sysconfdir = refl
directory_said Sharedstatedir = refl
directory_said Localstatedir = refl
directory_said Runstatedir = refl
directory_said Includedir = refl
directory_said Oldincludedir = refl
directory_said Docdir = refl
directory_said Infodir = refl
directory_said Htmldir = refl
directory_said Dvidir = refl
directory_said Pdfdir = refl
directory_said Psdir = refl
directory_said Localedir = refl
directory_said Mandir = refl

directory_given : (d : Directory) (value : List ℕ) → read_argument (codes "--" ++ option_of d ++ codes "=" ++ value) ≡ OptionValue (InstallDirectory d) value
unfolding read_argument dashed_of switch_of switches said_with_value key_of value_in target_of install_directory_of rest_after directory_named directories option_of variable_of
directory_given Prefix value = refl
directory_given ExecPrefix value = refl
directory_given Bindir value = refl
directory_given Sbindir value = refl
directory_given Libexecdir value = refl
directory_given Libdir value = refl
directory_given Datarootdir value = refl
directory_given Datadir value = refl
directory_given Sysconfdir value = refl
directory_given Sharedstatedir value = refl
directory_given Localstatedir value = refl
directory_given Runstatedir value = refl
directory_given Includedir value = refl
directory_given Oldincludedir value = refl
directory_given Docdir value = refl
directory_given Infodir value = refl
directory_given Htmldir value = refl
directory_given Dvidir value = refl
directory_given Pdfdir value = refl
directory_given Psdir value = refl
directory_given Localedir value = refl
directory_given Mandir value = refl

-- An option by itself takes the next argument.
pub option_said : {option : List ℕ} {target : Target} → IsOption option target → read_argument option ≡ OptionName target
unfolding read_argument dashed_of switch_of switches said_with_value key_of value_in target_of install_directory_of rest_after
option_said line.srcdir = refl
option_said line.cache_file = refl
option_said (line.directory d) = directory_said d

pub option_given : {option : List ℕ} {target : Target} → IsOption option target → (value : List ℕ) → read_argument (option ++ codes "=" ++ value) ≡ OptionValue target value
unfolding read_argument dashed_of switch_of switches said_with_value key_of value_in target_of install_directory_of rest_after
option_given line.srcdir value = refl
option_given line.cache_file value = refl
option_given (line.directory d) value = directory_given d value

enabling_said : (kind : OptionKind) (rest : List ℕ) → read_argument (enabling kind ++ rest) ≡ enabled kind rest (enabling kind ++ rest)
unfolding read_argument dashed_of switch_of switches said_with_value key_of value_in target_of install_directory_of rest_after directory_named directories option_of variable_of choice_of package_of
enabling_said Feature rest = refl
enabling_said Package rest = refl

disabling_said : (kind : OptionKind) (rest : List ℕ) → read_argument (disabling kind ++ rest) ≡ disabled kind rest (disabling kind ++ rest)
unfolding read_argument dashed_of switch_of switches said_with_value key_of value_in target_of install_directory_of rest_after directory_named directories option_of variable_of choice_of package_of
disabling_said Feature rest = refl
disabling_said Package rest = refl

enabling_key : (kind : OptionKind) (rest : List ℕ) → key_of (enabling kind ++ rest) ≡ enabling kind ++ key_of rest
unfolding key_of
enabling_key Feature rest = refl
enabling_key Package rest = refl

disabling_key : (kind : OptionKind) (rest : List ℕ) → key_of (disabling kind ++ rest) ≡ disabling kind ++ key_of rest
unfolding key_of
disabling_key Feature rest = refl
disabling_key Package rest = refl

-- ---- a name that has the form of one, or hasn't

chosen_right : (kind : OptionKind) (name value option : List ℕ) → is_feature name ≡ true → chosen kind name value option ≡ FeatureValue kind name value option
chosen_right kind name value option h = rw h refl

chosen_wrong : (kind : OptionKind) (name value option : List ℕ) → is_feature name ≡ false → chosen kind name value option ≡ BadFeatureName
chosen_wrong kind name value option h = rw h refl

-- ---- from the rule to the function

enabled_said : (kind : OptionKind) (name : List ℕ) → is_feature name ≡ true → read_argument (enabling kind ++ name) ≡ FeatureValue kind name (codes "yes") (enabling kind ++ name)
enabled_said kind name h =
    let key = feature_key name h in
    enabling_said kind name
    ∙ rw (key, no_value_in name key, enabling_key kind name, key) (chosen_right kind name (codes "yes") (enabling kind ++ name) h)

enabled_as_said : (kind : OptionKind) (name value : List ℕ) → is_feature name ≡ true
    → read_argument (enabling kind ++ name ++ codes "=" ++ value) ≡ FeatureValue kind name value (enabling kind ++ name)
enabled_as_said kind name value h =
    let key = feature_key name h in
    let rest : List ℕ = name ++ codes "=" ++ value in
    let whole : enabling kind ++ name ++ codes "=" ++ value ≡ enabling kind ++ rest = simp append_assoc in
    ap read_argument whole ∙ enabling_said kind rest
    ∙ ap (λ k. chosen kind k (unwrap_or (value_in rest) (codes "yes")) (key_of (enabling kind ++ rest))) (key_front name value key)
    ∙ ap (λ v. chosen kind name (unwrap_or v (codes "yes")) (key_of (enabling kind ++ rest))) (value_front name value key)
    ∙ ap (chosen kind name value) (enabling_key kind rest ∙ ap (λ k. enabling kind ++ k) (key_front name value key))
    ∙ chosen_right kind name value (enabling kind ++ name) h

disabled_said : (kind : OptionKind) (name : List ℕ) → is_feature name ≡ true → read_argument (disabling kind ++ name) ≡ FeatureValue kind name (codes "no") (disabling kind ++ name)
disabled_said kind name h =
    disabling_said kind name
    ∙ ap (chosen kind name (codes "no")) (disabling_key kind name ∙ ap (λ k. disabling kind ++ k) (feature_key name h))
    ∙ chosen_right kind name (codes "no") (disabling kind ++ name) h

plain_said : (name value : List ℕ) → is_dashed (name ++ codes "=" ++ value) ≡ false → key_of name ≡ name
    → read_argument (name ++ codes "=" ++ value) ≡ (if is_shell_name_of name then VariableValue name value else BadVariableName)
unfolding read_argument
plain_said name value plain key =
    ap (λ t. if t then dashed_of (name ++ codes "=" ++ value) else assigned (key_of (name ++ codes "=" ++ value)) (value_in (name ++ codes "=" ++ value))) plain
    ∙ ap (λ k. assigned k (value_in (name ++ codes "=" ++ value))) (key_front name value key)
    ∙ ap (assigned name) (value_front name value key)

-- What gives a setting alone.
pub setting_said : {i : ℕ} {word : List ℕ} {setting : Setting} → GivesAlone i word setting → alone i (read_argument word) ≡ Ok setting
setting_said {i = i} (line.switch is) = ap (alone i) (switch_said is)
setting_said {i = i} (line.option is value) = ap (alone i) (option_given is value)
setting_said {i = i} (line.enabled kind name h) = ap (alone i) (enabled_said kind name h)
setting_said {i = i} (line.enabled_as kind name value h) = ap (alone i) (enabled_as_said kind name value h)
setting_said {i = i} (line.disabled kind name h) = ap (alone i) (disabled_said kind name h)
setting_said {i = i} (line.assignment name value h) =
    ap (alone i) (plain_said name value (shell_plain name value h) (shell_key name h) ∙ ap (λ t. if t then VariableValue name value else BadVariableName) h)

pub misnamed_said : {word : List ℕ} → IsMisnamed word → read_argument word ≡ BadFeatureName
misnamed_said (line.enabled kind rest h) = enabling_said kind rest ∙ chosen_wrong kind (key_of rest) _ _ h
misnamed_said (line.disabled kind rest h) = disabling_said kind rest ∙ chosen_wrong kind rest _ _ h

pub misassigned_said : {word : List ℕ} → IsMisassigned word → read_argument word ≡ BadVariableName
misassigned_said (line.misassigned name value plain key h) = plain_said name value plain key ∙ ap (λ t. if t then VariableValue name value else BadVariableName) h

-- ---- from the function to the rule

-- The cases of a choice.
by_choice : {A G : Type 0} (t : Bool) (x y z : A) → (t ≡ true → x ≡ z → G) → (y ≡ z → G) → (if t then x else y) ≡ z → G
by_choice true x y z first second h = first refl h
by_choice false x y z first second h = second h

-- What holds for a word holds for an equal text.
one_of : (P : List ℕ → Type 0) (text word : List ℕ) → P word → bytes_eq text word ≡ true → P text
one_of P text word h e = subst P (sym ((bytes_eq-Decides text word).0 e)) h

same_switch : {a b : Switch} (word : List ℕ) → Some a ≡ Some b → IsSwitch word a → IsSwitch word b
same_switch {a = a} {b = b} word e h = let same : a ≡ b = cc in subst (λ s. IsSwitch word s) same h

-- A row of the table: if the argument isn't its word, the rows after it decide.
row_is : {known : List ℕ} {a b : Switch} (word : List ℕ) (rest : Option Switch) → IsSwitch known a → (rest ≡ Some b → IsSwitch word b)
    → (if bytes_eq word known then Some a else rest) ≡ Some b → IsSwitch word b
row_is {known = known} {a = a} word rest is more =
    by_choice _ _ _ _ (λ t e. same_switch word e (one_of (λ w. IsSwitch w a) word known is t)) more

switch_is : (word : List ℕ) (switch : Switch) → switch_of word ≡ Some switch → IsSwitch word switch
unfolding switch_of switches
switch_is word switch =
    row_is word _ line.config_cache_short
    (row_is word _ line.config_cache
    (row_is word _ line.quiet_short
    (row_is word _ line.quiet
    (row_is word _ line.silent
    (row_is word _ line.no_create_short
    (row_is word _ line.no_create
    (row_is word _ line.help_short
    (row_is word _ line.help
    (row_is word _ line.version_short
    (row_is word _ line.version
    (row_is word _ line.verbose_short
    (row_is word _ line.verbose
    (row_is word _ line.no_recursion
    (λ e. absurd (cc)))))))))))))))

-- The directory that is found has this option.
found_option : (option : List ℕ) (d : Directory) (ds : List Directory) → find (λ d. bytes_eq (option_of d) option) ds ≡ Some d → option_of d ≡ option
found_option option d [] h = absurd (cc)
found_option option d (x ∷ xs) h = at (bytes_eq (option_of x) option) refl (found_option option d xs) h where
  at : (t : Bool) → bytes_eq (option_of x) option ≡ t → (find (λ d. bytes_eq (option_of d) option) xs ≡ Some d → option_of d ≡ option)
      → (if t then Some x else find (λ d. bytes_eq (option_of d) option) xs) ≡ Some d → option_of d ≡ option
  at true is more h = let same : x ≡ d = cc in ap option_of (sym same) ∙ (bytes_eq-Decides (option_of x) option).0 is
  at false is more h = more h

directory_is : (option : List ℕ) (target : Target) → install_directory_named option ≡ Some target → IsOption (codes "--" ++ option) target
unfolding directory_named
directory_is option target h = at (directory_named option) refl h where
  at : (r : Option Directory) → directory_named option ≡ r → option_map (λ d. InstallDirectory d) r ≡ Some target → IsOption (codes "--" ++ option) target
  at None is h = absurd (cc)
  at (Some d) is h =
      let same : InstallDirectory d ≡ target = cc in
      subst (λ t. IsOption (codes "--" ++ option) t) same
      (subst (λ o. IsOption (codes "--" ++ o) (InstallDirectory d)) (found_option option d directories is) (line.directory d))

same_target : {a b : Target} (word : List ℕ) → Some a ≡ Some b → IsOption word a → IsOption word b
same_target {a = a} {b = b} word e h = let same : a ≡ b = cc in subst (λ s. IsOption word s) same h

target_is : (key : List ℕ) (target : Target) → target_of key ≡ Some target → IsOption key target
unfolding target_of install_directory_of
target_is key target = by_choice _ _ _ _ (λ t e. same_target key e (one_of (λ k. IsOption k Srcdir) key _ line.srcdir t))
    (by_choice _ _ _ _ (λ t e. same_target key e (one_of (λ k. IsOption k CacheFile) key _ line.cache_file t)) (at (rest_after (codes "--") key) refl)) where
      at : (r : Option (List ℕ)) → rest_after (codes "--") key ≡ r → (elim r as (λ r. Option Target) [ Some option ↦ install_directory_named option | None ↦ None ]) ≡ Some target → IsOption key target
      at None is h = absurd (cc)
      at (Some option) is h = subst (λ k. IsOption k target) (sym (rest_is (codes "--") key option is)) (directory_is option target h)

-- What the rule gives for an argument with this reading.
abbrev pub Means : ℕ → List ℕ → Argument → Type 0
Means i word (Flag switch) = GivesAlone i word (Switched switch)
Means i word (OptionValue target value) = GivesAlone i word (valued target value)
Means i word (OptionName target) = IsOption word target
Means i word (FeatureValue kind name value option) = GivesAlone i word (Choice i kind name value option)
Means i word BadFeatureName = IsMisnamed word
Means i word (VariableValue name value) = GivesAlone i word (Variable name value)
Means i word BadVariableName = IsMisassigned word
Means i word Unrecognized = Unit {0}

option_means : (i : ℕ) (word : List ℕ) (target : Target) → IsOption (key_of word) target → Means i word (given_or_awaited target (value_in word))
option_means i word target is = at (value_in word) refl where
  at : (v : Option (List ℕ)) → value_in word ≡ v → Means i word (given_or_awaited target v)
  at (Some value) e = subst (λ w. GivesAlone i w (valued target value)) (sym (text_parts word value e)) (line.option is value)
  at None e = subst (λ w. IsOption w target) (key_whole word e) is

enabled_means : (i : ℕ) (kind : OptionKind) (word rest : List ℕ) → word ≡ enabling kind ++ rest → Means i word (enabled kind rest word)
enabled_means i kind word rest e = subst (λ w. Means i w (enabled kind rest w)) (sym e) (at (is_feature (key_of rest)) refl) where
  name_is : (v : Option (List ℕ)) → value_in rest ≡ v → is_feature (key_of rest) ≡ true → GivesAlone i (enabling kind ++ rest) (Choice i kind (key_of rest) (unwrap_or v (codes "yes")) (enabling kind ++ key_of rest))
  name_is None none h =
      subst (λ r. GivesAlone i (enabling kind ++ r) (Choice i kind (key_of rest) (codes "yes") (enabling kind ++ key_of rest))) (key_whole rest none) (line.enabled kind (key_of rest) h)
  name_is (Some value) some h =
      let whole : enabling kind ++ key_of rest ++ codes "=" ++ value ≡ enabling kind ++ (key_of rest ++ codes "=" ++ value) = simp append_assoc in
      subst (λ w. GivesAlone i w (Choice i kind (key_of rest) value (enabling kind ++ key_of rest)))
      (whole ∙ ap (λ r. enabling kind ++ r) (sym (text_parts rest value some))) (line.enabled_as kind (key_of rest) value h)

  at : (t : Bool) → is_feature (key_of rest) ≡ t
      → Means i (enabling kind ++ rest) (if t then FeatureValue kind (key_of rest) (unwrap_or (value_in rest) (codes "yes")) (key_of (enabling kind ++ rest)) else BadFeatureName)
  at true h = rw (enabling_key kind rest) (name_is (value_in rest) refl h)
  at false h = line.enabled kind rest h

disabled_means : (i : ℕ) (kind : OptionKind) (word rest : List ℕ) → word ≡ disabling kind ++ rest → Means i word (disabled kind rest word)
disabled_means i kind word rest e = subst (λ w. Means i w (disabled kind rest w)) (sym e) (at (is_feature rest) refl) where
  at : (t : Bool) → is_feature rest ≡ t → Means i (disabling kind ++ rest) (if t then FeatureValue kind rest (codes "no") (key_of (disabling kind ++ rest)) else BadFeatureName)
  at true h = rw (disabling_key kind rest, feature_key rest h) (line.disabled kind rest h)
  at false h = line.disabled kind rest h

package_means : (i : ℕ) (word : List ℕ) → Means i word (package_of word)
unfolding package_of
package_means i word = at (rest_after (enabling Package) word) refl where
  off : (r : Option (List ℕ)) → rest_after (disabling Package) word ≡ r → Means i word (elim r as (λ r. Argument) [ Some rest ↦ disabled Package rest word | None ↦ Unrecognized ])
  off (Some rest) e = disabled_means i Package word rest (rest_is (disabling Package) word rest e)
  off None e = tt

  at : (r : Option (List ℕ)) → rest_after (enabling Package) word ≡ r
      → Means i word (elim r as (λ r. Argument) [
        | Some rest ↦ enabled Package rest word
        | None ↦ elim (rest_after (disabling Package) word) as (λ r. Argument) [ Some rest ↦ disabled Package rest word | None ↦ Unrecognized ]
      ])
  at (Some rest) e = enabled_means i Package word rest (rest_is (enabling Package) word rest e)
  at None e = off (rest_after (disabling Package) word) refl

choice_means : (i : ℕ) (word : List ℕ) → Means i word (choice_of word)
unfolding choice_of
choice_means i word = at (rest_after (enabling Feature) word) refl where
  off : (r : Option (List ℕ)) → rest_after (disabling Feature) word ≡ r → Means i word (elim r as (λ r. Argument) [ Some rest ↦ disabled Feature rest word | None ↦ package_of word ])
  off (Some rest) e = disabled_means i Feature word rest (rest_is (disabling Feature) word rest e)
  off None e = package_means i word

  at : (r : Option (List ℕ)) → rest_after (enabling Feature) word ≡ r
      → Means i word (elim r as (λ r. Argument) [
        | Some rest ↦ enabled Feature rest word
        | None ↦ elim (rest_after (disabling Feature) word) as (λ r. Argument) [ Some rest ↦ disabled Feature rest word | None ↦ package_of word ]
      ])
  at (Some rest) e = enabled_means i Feature word rest (rest_is (enabling Feature) word rest e)
  at None e = off (rest_after (disabling Feature) word) refl

dashed_means : (i : ℕ) (word : List ℕ) → Means i word (dashed_of word)
unfolding dashed_of said_with_value
dashed_means i word = at (switch_of word) refl where
  valued_at : (r : Option Target) → target_of (key_of word) ≡ r
      → Means i word (elim r as (λ r. Argument) [ Some target ↦ given_or_awaited target (value_in word) | None ↦ choice_of word ])
  valued_at (Some target) e = option_means i word target (target_is (key_of word) target e)
  valued_at None e = choice_means i word

  at : (r : Option Switch) → switch_of word ≡ r → Means i word (elim r as (λ r. Argument) [ Some switch ↦ Flag switch | None ↦ said_with_value word ])
  at (Some switch) e = line.switch (switch_is word switch e)
  at None e = valued_at (target_of (key_of word)) refl

assigned_means : (i : ℕ) (word : List ℕ) → is_dashed word ≡ false → Means i word (assigned (key_of word) (value_in word))
assigned_means i word plain = at (value_in word) refl where
  named : (value : List ℕ) → word ≡ key_of word ++ codes "=" ++ value → (t : Bool) → is_shell_name_of (key_of word) ≡ t
      → Means i word (if t then VariableValue (key_of word) value else BadVariableName)
  named value e true h = subst (λ w. GivesAlone i w (Variable (key_of word) value)) (sym e) (line.assignment (key_of word) value h)
  named value e false h =
      subst IsMisassigned (sym e) (line.misassigned (key_of word) value (sym (ap is_dashed e) ∙ plain) (key_key word) h)

  at : (v : Option (List ℕ)) → value_in word ≡ v → Means i word (assigned (key_of word) v)
  at None e = tt
  at (Some value) e = named value (text_parts word value e) (is_shell_name_of (key_of word)) refl

pub said_means : (i : ℕ) (word : List ℕ) → Means i word (read_argument word)
unfolding read_argument
said_means i word = at (is_dashed word) refl where
  at : (t : Bool) → is_dashed word ≡ t → Means i word (if t then dashed_of word else assigned (key_of word) (value_in word))
  at true e = dashed_means i word
  at false e = assigned_means i word e
