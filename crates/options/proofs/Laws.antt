-- What holds of the definitions: the function of a command line and the relations that say what it gives are the same,
-- arguments have one reading, and a variable has the value of its last setter.
use Rattle.std.proofs.Common.{◌≡◌, ◌↔◌, ℕ, ◌⊎◌, inl, inr, cond, if◌then◌else◌, ◌||◌, Bool, true, false, List, [], ◌∷◌, ◌++◌, map, fold, Option, Some, None, Result, Ok, Err, refl, sym, ap, subst, ◌∙◌}
use Rattle.std.specs.Option.{option_map}
use Rattle.std.specs.List.{flat_map}
use Rattle.std.specs.Str.{bytes_eq}
use Rattle.std.proofs.lemmas.Slice.Eq.{bytes_eq-Decides}
use Rattle.std.proofs.lemmas.List.Sums.{fold-append}
use Rattle.deftable.proofs.Tables.{value_of-with_entry}
use Rattle.deftable.specs.NameList.{has_name}
use Rattle.deftable.specs.Table.{value_of, with_entry, names_of}
use Rattle.options_line.proofs.Lines.{settings_given, fault_given, given_reads, Reads}
use Rattle.options_line.specs.Arguments.{settings_from}
use Rattle.options_line.specs.CommandLine.{Setting, GivesSettings, IsFirstFault}
use Rattle.options.specs.Opening.{opened_by, opening, IsOpening, of_arguments, of_options, IsOpeningFault, set_by, with_variable, with_unslashed, set_name, value_name, marks_one, marks_of, with_marks, unmarked, finished}
use Rattle.options_line.specs.Directories.{directories, directory_names, variable_of}
use Rattle.options_line.specs.Reading.{◌>>=◌}
use Rattle.options_line.specs.Slashes.{without_slashes}
use Rattle.options_line.specs.declared.directory.Directory.{Directory}
use Rattle.options_line.specs.declared.directory.Directory.TheVariants.{Prefix}
use Rattle.options_line.specs.declared.fault.OptionFault.{OptionFault}
use Rattle.options.specs.declared.settings.Settings.{Settings}

-- ---- the settings that arguments give

-- The function gives these settings if the arguments give them.
pub given_is_settings : (i : ℕ) (arguments : List (List ℕ)) (settings : List Setting) → (settings_from None i arguments ≡ Ok settings) ↔ GivesSettings i arguments settings
given_is_settings i arguments settings = (λ e. subst (Reads i arguments) e (given_reads i arguments), settings_given)

-- It gives this error if it is the first one.
pub given_is_fault : (i : ℕ) (arguments : List (List ℕ)) (fault : OptionFault) → (settings_from None i arguments ≡ Err fault) ↔ IsFirstFault i arguments fault
given_is_fault i arguments fault = (λ e. subst (Reads i arguments) e (given_reads i arguments), fault_given)

-- Arguments give one list of settings.
pub one_list : (i : ℕ) (arguments : List (List ℕ)) (a b : List Setting) → GivesSettings i arguments a → GivesSettings i arguments b → a ≡ b
one_list i arguments a b h k = let first = settings_given h in let second = settings_given k in cc

-- Arguments have one first error.
pub one_fault : (i : ℕ) (arguments : List (List ℕ)) (f g : OptionFault) → IsFirstFault i arguments f → IsFirstFault i arguments g → f ≡ g
one_fault i arguments f g h k = let first = fault_given h in let second = fault_given k in cc

-- Arguments never have both.
pub never_both : (i : ℕ) (arguments : List (List ℕ)) (settings : List Setting) (f : OptionFault) → GivesSettings i arguments settings → IsFirstFault i arguments f → ⊥
never_both i arguments settings f h k = let first = settings_given h in let second = fault_given k in absurd (cc)

-- Arguments have one of the two.
pub one_of_both : (i : ℕ) (arguments : List (List ℕ)) → ((settings : List Setting) × GivesSettings i arguments settings) ⊎ ((f : OptionFault) × IsFirstFault i arguments f)
one_of_both i arguments = at (settings_from None i arguments) (given_reads i arguments) where
  at : (g : Result (List Setting) OptionFault) → Reads i arguments g → ((settings : List Setting) × GivesSettings i arguments settings) ⊎ ((f : OptionFault) × IsFirstFault i arguments f)
  at (Ok settings) h = inl (settings, h)
  at (Err f) h = inr (f, h)

-- ---- the opening

module _ (features packages precious arguments : List (List ℕ)) (environment : List (List ℕ × List ℕ)) where
  pub opening_is : (opened : Settings) → opening features packages precious arguments environment ≡ Ok opened → IsOpening features packages precious arguments environment opened
  unfolding opening
  opening_is opened e = at (settings_from None 0 arguments) (given_reads 0 arguments) e where
    at : (g : Result (List Setting) OptionFault) → Reads 0 arguments g → (g >>= opened_by features packages precious environment) ≡ Ok opened
        → IsOpening features packages precious arguments environment opened
    at (Ok settings) gives is = record { settings = settings; gives = gives; is = is }
    at (Err fault) breaks is = absurd (cc)

  pub is_opening : (opened : Settings) → IsOpening features packages precious arguments environment opened → opening features packages precious arguments environment ≡ Ok opened
  unfolding opening
  is_opening opened h = ap (λ g. g >>= opened_by features packages precious environment) (settings_given h.gives) ∙ h.is

  pub opening_fails : (fault : OptionFault) → opening features packages precious arguments environment ≡ Err fault → IsOpeningFault features packages precious arguments environment fault
  unfolding opening
  opening_fails fault e = at (settings_from None 0 arguments) (given_reads 0 arguments) e where
    at : (g : Result (List Setting) OptionFault) → Reads 0 arguments g → (g >>= opened_by features packages precious environment) ≡ Err fault
        → IsOpeningFault features packages precious arguments environment fault
    at (Ok settings) gives is = of_options settings gives is
    at (Err first) breaks is = of_arguments (subst (IsFirstFault 0 arguments) (let same : first ≡ fault = cc in same) breaks)

  pub fails_opening : (fault : OptionFault) → IsOpeningFault features packages precious arguments environment fault → opening features packages precious arguments environment ≡ Err fault
  unfolding opening
  fails_opening fault (of_arguments h) = ap (λ g. g >>= opened_by features packages precious environment) (fault_given h)
  fails_opening fault (of_options settings gives is) = ap (λ g. g >>= opened_by features packages precious environment) (settings_given gives) ∙ is

-- ---- the last setter

-- A name that none of these sets keeps its value.
kept : (entries vars : List (List ℕ × List ℕ)) (name : List ℕ) → has_name (names_of entries) name ≡ false → value_of (fold with_variable vars entries) name ≡ value_of vars name
unfolding has_name
kept [] vars name h = refl
kept (entry ∷ more) vars name h = at (bytes_eq name entry.0) refl h (kept more (with_variable vars entry) name) where
  at : (t : Bool) → bytes_eq name entry.0 ≡ t → (t || has_name (names_of more) name) ≡ false
      → (has_name (names_of more) name ≡ false → value_of (fold with_variable (with_variable vars entry) more) name ≡ value_of (with_variable vars entry) name)
      → value_of (fold with_variable (with_variable vars entry) more) name ≡ value_of vars name
  at true is h rest = absurd (cc)
  at false is h rest = rest h ∙ value_of-with_entry vars entry.0 entry.1 name ∙ ap (λ t. cond t (Some entry.1) (value_of vars name)) is

-- A variable has the value of its last setter.
pub last_setter_counts : (before later : List (List ℕ × List ℕ)) (name value : List ℕ) → has_name (names_of later) name ≡ false
    → value_of (set_by (before ++ (name, value) ∷ later)) name ≡ Some value
unfolding set_by
last_setter_counts before later name value h =
    let vars : List (List ℕ × List ℕ) = fold with_variable [] before in
    ap (λ all. value_of all name) (fold-append with_variable [] before ((name, value) ∷ later))
    ∙ kept later (with_variable vars (name, value)) name h
    ∙ value_of-with_entry vars name value name
    ∙ ap (λ t. cond t (Some value) (value_of vars name)) ((bytes_eq-Decides name name).1 refl)

-- A variable that nothing sets is unset.
pub unset_by_none : (entries : List (List ℕ × List ℕ)) (name : List ℕ) → has_name (names_of entries) name ≡ false → value_of (set_by entries) name ≡ None
unfolding set_by value_of
unset_by_none entries name h = kept entries [] name h

-- ---- final slashes and marks

-- A value without its final slashes, if this is the variable of the directory.
abbrev unslashed_at : List ℕ → Option (List ℕ) → Directory → Option (List ℕ)
unslashed_at name value d = if bytes_eq name (variable_of d) then option_map without_slashes value else value

unslashed_value : (vars : List (List ℕ × List ℕ)) (name : List ℕ) (d : Directory) → value_of (with_unslashed vars d) name ≡ unslashed_at name (value_of vars name) d
unfolding with_unslashed
unslashed_value vars name d = at (bytes_eq name (variable_of d)) refl (value_of vars (variable_of d)) refl where
  at : (t : Bool) → bytes_eq name (variable_of d) ≡ t → (v : Option (List ℕ)) → value_of vars (variable_of d) ≡ v
      → value_of (elim v as (λ v. List (List ℕ × List ℕ)) [ None ↦ vars | Some value ↦ with_entry vars (variable_of d) (without_slashes value) ]) name
      ≡ (if t then option_map without_slashes (value_of vars name) else value_of vars name)
  at true is None found = let here = ap (value_of vars) ((bytes_eq-Decides name (variable_of d)).0 is) ∙ found in here ∙ sym (ap (option_map without_slashes) here)
  at true is (Some value) found =
      let here = ap (value_of vars) ((bytes_eq-Decides name (variable_of d)).0 is) ∙ found in
      value_of-with_entry vars (variable_of d) (without_slashes value) name
      ∙ ap (λ t. cond t (Some (without_slashes value)) (value_of vars name)) is
      ∙ sym (ap (option_map without_slashes) here)
  at false is None found = refl
  at false is (Some value) found =
      value_of-with_entry vars (variable_of d) (without_slashes value) name ∙ ap (λ t. cond t (Some (without_slashes value)) (value_of vars name)) is

all_unslashed : (ds : List Directory) (vars : List (List ℕ × List ℕ)) (name : List ℕ) → value_of (fold with_unslashed vars ds) name ≡ fold (unslashed_at name) (value_of vars name) ds
all_unslashed [] vars name = refl
all_unslashed (d ∷ ds) vars name = all_unslashed ds (with_unslashed vars d) name ∙ ap (λ v. fold (unslashed_at name) v ds) (unslashed_value vars name d)

either_part : (a b c : Bool) → (a || b || c) ≡ false → (a ≡ false) × ((b ≡ false) × (c ≡ false))
either_part true b c h = absurd (cc)
either_part false true c h = absurd (cc)
either_part false false c h = (refl, (refl, h))

no_mark_sets : (precious : List (List ℕ)) (base : List (List ℕ × List ℕ)) (name : List ℕ) → marks_one precious name ≡ false → has_name (names_of (flat_map (marks_of base) precious)) name ≡ false
unfolding marks_one marks_of has_name
no_mark_sets [] base name h = refl
no_mark_sets (x ∷ more) base name h =
    let parts = either_part (bytes_eq name (set_name x)) (bytes_eq name (value_name x)) (marks_one more name) h in
    ap (λ b. b || (bytes_eq name (value_name x) || has_name (names_of (flat_map (marks_of base) more)) name)) parts.0
    ∙ ap (λ b. b || has_name (names_of (flat_map (marks_of base) more)) name) parts.1.0 ∙ no_mark_sets more base name parts.1.1

pub no_mark_changes : (precious : List (List ℕ)) (vars : List (List ℕ × List ℕ)) (name : List ℕ) → marks_one precious name ≡ false → value_of (with_marks precious vars) name ≡ value_of vars name
unfolding with_marks
no_mark_changes precious vars name h = kept (flat_map (marks_of vars) precious) vars name (no_mark_sets precious vars name h)

no_directory : (ds : List Directory) (name : List ℕ) (value : Option (List ℕ)) → has_name (map variable_of ds) name ≡ false → fold (unslashed_at name) value ds ≡ value
unfolding has_name
no_directory [] name value h = refl
no_directory (d ∷ ds) name value h = at (bytes_eq name (variable_of d)) h (no_directory ds name) where
  at : (t : Bool) → (t || has_name (map variable_of ds) name) ≡ false → ((v : Option (List ℕ)) → has_name (map variable_of ds) name ≡ false → fold (unslashed_at name) v ds ≡ v)
      → fold (unslashed_at name) (if t then option_map without_slashes value else value) ds ≡ value
  at true h rest = absurd (cc)
  at false h rest = rest value h

-- At the end a variable that is neither a directory nor a mark has the value of its last setter.
pub other_finished : (precious : List (List ℕ)) (vars : List (List ℕ × List ℕ)) (name : List ℕ) → has_name directory_names name ≡ false → marks_one precious name ≡ false
    → value_of (finished precious vars) name ≡ value_of vars name
unfolding finished unmarked directory_names
other_finished precious vars name h k =
    no_mark_changes precious (unmarked vars) name k ∙ all_unslashed directories vars name ∙ no_directory directories name (value_of vars name) h

directory_mark : (precious : List (List ℕ)) (d : Directory) → marks_one precious (variable_of d) ≡ false
unfolding variable_of marks_one
directory_mark [] d = refl
directory_mark (x ∷ more) Prefix = directory_mark more Prefix
directory_mark (x ∷ more) other = directory_mark more other

directory_unslashed : (vars : List (List ℕ × List ℕ)) (d : Directory) → fold (unslashed_at (variable_of d)) (value_of vars (variable_of d)) directories ≡ option_map without_slashes (value_of vars (variable_of d))
unfolding variable_of directories
directory_unslashed vars Prefix = refl
directory_unslashed vars other = refl

-- A directory has the value of its last setter without its final slashes.
pub directory_finished : (precious : List (List ℕ)) (vars : List (List ℕ × List ℕ)) (d : Directory)
    → value_of (finished precious vars) (variable_of d) ≡ option_map without_slashes (value_of vars (variable_of d))
unfolding finished unmarked
directory_finished precious vars d =
    no_mark_changes precious (unmarked vars) (variable_of d) (directory_mark precious d)
    ∙ all_unslashed directories vars (variable_of d) ∙ directory_unslashed vars d
