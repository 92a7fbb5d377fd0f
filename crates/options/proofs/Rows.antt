-- Worked examples, computed on the definitions that the theorems tie to the rules.
use Rattle.std.proofs.Common.{◌≡◌, ℕ, List, [], ◌∷◌, Option, Some, None, Result, Ok, Err, refl, codes}
use Rattle.deftable.specs.NameList.{has_name}
use Rattle.deftable.specs.Table.{value_of, with_entry}
use Rattle.deftable.specs.declared.note.Note.{Note}
use Rattle.cachefile.specs.Name.{is_mark}
use Rattle.cachefile.specs.Line.{Setting, Sets, Defaults}
use Rattle.options_line.specs.Arguments.{switch_of, switches, install_directory_of, target_of, package_of, choice_of, said_with_value, dashed_of, read_argument, value_in, rest_after, settings_from}
use Rattle.options_line.specs.CommandLine.{key_of}
use Rattle.options_line.specs.Directories.{directories, variable_of, default_of, option_of, directory_named}
use Rattle.options.specs.Opening.{cache_named, source_directory, setters, set_by, with_unslashed, with_marks, marks_of, unmarked, finished, is_declared, run_settings, opened_by, opening, marks_one}
use Rattle.options_line.specs.Slashes.{unslashed, without_slashes}
use Rattle.options_line.specs.Srcdir.{srcdir_from, srcdir_of}
use Rattle.options.specs.Precious.{old_value, value_before, restored, restored_variable, restored_from, blanks_note, checked}
use Rattle.options.specs.Unrecognized.{after_comma, listed, warning, notes_of}
use Rattle.options_line.specs.declared.fault.OptionFault.{OptionFault}
use Rattle.options_line.specs.declared.fault.OptionFault.TheVariants.{Unknown, BadFeature, BadVariable, MissingValue, FatalUnrecognized}
use Rattle.options.specs.declared.fault.PreciousFault.{PreciousFault}
use Rattle.options.specs.declared.fault.PreciousFault.TheVariants.{WasSet, WasUnset, Changed}
use Rattle.options.specs.declared.settings.Settings.{Settings}
use Rattle.text_cut.specs.Cuts.{fields, parts_by}

-- The opening for a source with AC_ARG_ENABLE([a-b]) and a precious variable CC.
abbrev opened : List (List ℕ) → List (List ℕ × List ℕ) → Result Settings OptionFault
opened arguments environment = opening (codes "enable_a_b" ∷ []) [] (codes "CC" ∷ []) arguments environment

-- A variable of the settings.
abbrev variable : List ℕ → Result Settings OptionFault → Option (List ℕ)
variable name (Ok settings) = value_of settings.vars name
variable name (Err fault) = None

-- The texts of the notes.
abbrev note_texts : List Note → List (List ℕ)
note_texts [] = []
note_texts (note ∷ more) = note.text ∷ note_texts more

abbrev told : Result Settings OptionFault → List (List ℕ)
told (Ok settings) = note_texts settings.notes
told (Err fault) = []

abbrev cache : Result Settings OptionFault → Option (List ℕ)
cache (Ok settings) = settings.cache_name
cache (Err fault) = None

abbrev directory : Result Settings OptionFault → List ℕ
directory (Ok settings) = settings.srcdir
directory (Err fault) = []

-- The directory of the source: a final slash is dropped, arguments with errors and values of other options are passed
-- over.
sources :
    (srcdir_of (codes "--srcdir=../s/" ∷ []) ≡ codes "../s")
    × (srcdir_of [] ≡ codes ".")
    × (srcdir_of (codes "--srcdir=" ∷ []) ≡ codes "")
    × (srcdir_of (codes "--zz" ∷ codes "1=2" ∷ codes "--srcdir" ∷ codes "a/" ∷ codes "--srcdir" ∷ []) ≡ codes "a")
    × (srcdir_of (codes "--prefix" ∷ codes "--srcdir=b" ∷ []) ≡ codes ".")
unfolding srcdir_of srcdir_from read_argument dashed_of switch_of switches said_with_value target_of install_directory_of choice_of package_of value_in rest_after key_of directory_named directories variable_of option_of unslashed without_slashes
sources = (refl, refl, refl, refl, refl)

-- The last setter counts: the environment, the directories, the arguments.
last_setters :
    (variable (codes "HOME") (opened [] ((codes "HOME", codes "1") ∷ (codes "HOME", codes "2") ∷ [])) ≡ Some (codes "2"))
    × (variable (codes "prefix") (opened [] ((codes "prefix", codes "/x") ∷ [])) ≡ Some (codes "NONE"))
    × (variable (codes "A") (opened (codes "A=1" ∷ codes "A=b=c" ∷ []) ((codes "A", codes "0") ∷ [])) ≡ Some (codes "b=c"))
    × (variable (codes "enable_a_b") (opened (codes "--enable-a-b=no" ∷ codes "--enable-a-b" ∷ []) []) ≡ Some (codes "yes"))
    × (variable (codes "with_a_b_c") (opened (codes "--with-a.b+c=d=e" ∷ []) []) ≡ Some (codes "d=e"))
    × (variable (codes "enable_a_b") (opened (codes "--disable-a-b" ∷ []) []) ≡ Some (codes "no"))
unfolding opening settings_from read_argument dashed_of switch_of switches said_with_value target_of install_directory_of choice_of package_of value_in rest_after key_of directory_named directories variable_of default_of option_of opened_by run_settings source_directory setters set_by finished unmarked with_unslashed with_marks marks_of is_declared cache_named unslashed without_slashes notes_of warning listed after_comma value_of with_entry has_name
last_setters = (refl, refl, refl, refl, refl, refl)

-- An option that is the value of another is no option; final slashes are dropped; some options have no effect.
directory_values :
    (variable (codes "prefix") (opened (codes "--prefix=/usr/" ∷ []) []) ≡ Some (codes "/usr"))
    × (variable (codes "prefix") (opened (codes "--prefix" ∷ codes "--quiet" ∷ []) []) ≡ Some (codes "--quiet"))
    × (variable (codes "exec_prefix") (opened (codes "exec_prefix=/e/" ∷ []) []) ≡ Some (codes "/e"))
    × (variable (codes "exec_prefix") (opened (codes "--exec-prefix=//" ∷ []) []) ≡ Some (codes "//"))
    × (variable (codes "mandir") (opened (codes "-v" ∷ codes "--no-recursion" ∷ codes "--mandir=/m" ∷ []) []) ≡ Some (codes "/m"))
unfolding opening settings_from read_argument dashed_of switch_of switches said_with_value target_of install_directory_of choice_of package_of value_in rest_after key_of directory_named directories variable_of default_of option_of opened_by run_settings source_directory setters set_by finished unmarked with_unslashed with_marks marks_of is_declared cache_named unslashed without_slashes notes_of warning listed after_comma value_of with_entry has_name
directory_values = (refl, refl, refl, refl, refl)

-- The marks of a precious variable.
marks :
    (variable (codes "ac_cv_env_CC_set") (opened (codes "CC=tcc" ∷ []) []) ≡ Some (codes "set"))
    × (variable (codes "ac_cv_env_CC_value") (opened (codes "CC=tcc" ∷ []) ((codes "CC", codes "cc") ∷ [])) ≡ Some (codes "tcc"))
    × (variable (codes "ac_cv_env_CC_set") (opened [] []) ≡ Some (codes ""))
    × (variable (codes "ac_cv_env_CC_value") (opened [] []) ≡ Some (codes ""))
unfolding opening settings_from read_argument dashed_of switch_of switches said_with_value target_of install_directory_of choice_of package_of value_in rest_after key_of directory_named directories variable_of default_of option_of opened_by run_settings source_directory setters set_by finished unmarked with_unslashed with_marks marks_of is_declared cache_named unslashed without_slashes notes_of warning listed after_comma value_of with_entry has_name
marks = (refl, refl, refl, refl)

-- Neither a known option nor an assignment.
unknown_words :
    (opened (codes "-x" ∷ []) [] ≡ Err (Unknown 1))
    × (opened (codes "--zz" ∷ []) [] ≡ Err (Unknown 1))
    × (opened (codes "-q" ∷ codes "9x" ∷ []) [] ≡ Err (Unknown 2))
    × (opened (codes "--quiet=1" ∷ []) [] ≡ Err (Unknown 1))
    × (opened (codes "" ∷ []) [] ≡ Err (Unknown 1))
unfolding opening settings_from read_argument dashed_of switch_of switches said_with_value target_of install_directory_of choice_of package_of value_in rest_after key_of directory_named directories variable_of default_of option_of opened_by run_settings source_directory setters set_by finished unmarked with_unslashed with_marks marks_of is_declared cache_named unslashed without_slashes notes_of warning listed after_comma value_of with_entry has_name
unknown_words = (refl, refl, refl, refl, refl)

-- Names without the form of one.
bad_names :
    (opened (codes "1=2" ∷ []) [] ≡ Err (BadVariable 1))
    × (opened (codes "=" ∷ []) [] ≡ Err (BadVariable 1))
    × (opened (codes "--enable-a,b" ∷ []) [] ≡ Err (BadFeature 1))
    × (opened (codes "--with-=x" ∷ []) [] ≡ Err (BadFeature 1))
    × (opened (codes "--disable-a-b=x" ∷ []) [] ≡ Err (BadFeature 1))
unfolding opening settings_from read_argument dashed_of switch_of switches said_with_value target_of install_directory_of choice_of package_of value_in rest_after key_of directory_named directories variable_of default_of option_of opened_by run_settings source_directory setters set_by finished unmarked with_unslashed with_marks marks_of is_declared cache_named unslashed without_slashes notes_of warning listed after_comma value_of with_entry has_name
bad_names = (refl, refl, refl, refl, refl)

-- The last argument needs a value.
missing_values :
    (opened (codes "--prefix" ∷ []) [] ≡ Err (MissingValue 1))
    × (opened (codes "-q" ∷ codes "--prefix" ∷ codes "--prefix" ∷ codes "--srcdir" ∷ []) [] ≡ Err (MissingValue 4))
unfolding opening settings_from read_argument dashed_of switch_of switches said_with_value target_of install_directory_of choice_of package_of value_in rest_after key_of directory_named directories variable_of default_of option_of opened_by run_settings source_directory setters set_by finished unmarked with_unslashed with_marks marks_of is_declared cache_named unslashed without_slashes notes_of warning listed after_comma value_of with_entry has_name
missing_values = (refl, refl)

-- The first error counts, and an error of an argument comes before one of the options.
first_faults :
    (opened (codes "1=2" ∷ codes "--zz" ∷ codes "--prefix" ∷ []) [] ≡ Err (BadVariable 1))
    × (opened (codes "--enable-zz" ∷ codes "--enable-option-checking=fatal" ∷ []) [] ≡ Err (FatalUnrecognized 1))
    × (opened (codes "--enable-zz" ∷ codes "--enable-option-checking=fatal" ∷ codes "-x" ∷ []) [] ≡ Err (Unknown 3))
unfolding opening settings_from read_argument dashed_of switch_of switches said_with_value target_of install_directory_of choice_of package_of value_in rest_after key_of directory_named directories variable_of default_of option_of opened_by run_settings source_directory setters set_by finished unmarked with_unslashed with_marks marks_of is_declared cache_named unslashed without_slashes notes_of warning listed after_comma value_of with_entry has_name
first_faults = (refl, refl, refl)

-- Options that no macro declares, each up to its `=`.
warnings :
    (told (opened (codes "--enable-zz" ∷ []) []) ≡ codes "configure: WARNING: unrecognized options: --enable-zz\n" ∷ [])
    × (told (opened (codes "--enable-zz=1" ∷ codes "--without-y" ∷ []) []) ≡ codes "configure: WARNING: unrecognized options: --enable-zz, --without-y\n" ∷ [])
    × (told (opened (codes "--enable-zz" ∷ codes "--disable-option-checking" ∷ []) []) ≡ [])
unfolding opening settings_from read_argument dashed_of switch_of switches said_with_value target_of install_directory_of choice_of package_of value_in rest_after key_of directory_named directories variable_of default_of option_of opened_by run_settings source_directory setters set_by finished unmarked with_unslashed with_marks marks_of is_declared cache_named unslashed without_slashes notes_of warning listed after_comma value_of with_entry has_name
warnings = (refl, refl, refl)

-- The last cache that is named.
caches :
    (cache (opened (codes "--cache-file=c" ∷ codes "-C" ∷ []) []) ≡ Some (codes "config.cache"))
    × (cache (opened (codes "-C" ∷ codes "--cache-file=/dev/null" ∷ []) []) ≡ None)
unfolding opening settings_from read_argument dashed_of switch_of switches said_with_value target_of install_directory_of choice_of package_of value_in rest_after key_of directory_named directories variable_of default_of option_of opened_by run_settings source_directory setters set_by finished unmarked with_unslashed with_marks marks_of is_declared cache_named unslashed without_slashes notes_of warning listed after_comma value_of with_entry has_name
caches = (refl, refl)

-- The last directory of the source that is named.
last_source :
    (directory (opened (codes "--srcdir=a" ∷ codes "--srcdir" ∷ codes "b//" ∷ []) []) ≡ codes "b")
    × (directory (opened [] []) ≡ codes ".")
unfolding opening settings_from read_argument dashed_of switch_of switches said_with_value target_of install_directory_of choice_of package_of value_in rest_after key_of directory_named directories variable_of default_of option_of opened_by run_settings source_directory setters set_by finished unmarked with_unslashed with_marks marks_of is_declared cache_named unslashed without_slashes notes_of warning listed after_comma value_of with_entry has_name
last_source = (refl, refl)

-- ---- precious variables and a cache

-- The cache of a run with this value of CC.
abbrev cache_of : List ℕ → List Setting
cache_of value = Sets (codes "ac_cv_env_CC_set") (codes "set") ∷ Sets (codes "ac_cv_env_CC_value") value ∷ []

-- The cache of a run without CC.
abbrev cache_without : List Setting
cache_without = Sets (codes "ac_cv_env_CC_set") (codes "") ∷ Sets (codes "ac_cv_env_CC_value") (codes "") ∷ []

-- The variables of a run with this value of CC, and their marks.
abbrev run_with : List ℕ → List (List ℕ × List ℕ)
run_with value = (codes "CC", value) ∷ (codes "ac_cv_env_CC_set", codes "set") ∷ (codes "ac_cv_env_CC_value", value) ∷ []

-- The variables of a run without CC, and their marks.
abbrev run_without : List (List ℕ × List ℕ)
run_without = (codes "ac_cv_env_CC_set", codes "") ∷ (codes "ac_cv_env_CC_value", codes "") ∷ []

abbrev check : List (List ℕ × List ℕ) → List Setting → Result (List (List ℕ × List ℕ) × List Note) PreciousFault
check vars cache = checked (codes "CC" ∷ []) vars cache

-- CC after a check.
abbrev compiler : Result (List (List ℕ × List ℕ) × List Note) PreciousFault → Result (Option (List ℕ)) PreciousFault
compiler (Ok after) = Ok (value_of after.0 (codes "CC"))
compiler (Err fault) = Err fault

abbrev check_notes : Result (List (List ℕ × List ℕ) × List Note) PreciousFault → List (List ℕ)
check_notes (Ok after) = note_texts after.1
check_notes (Err fault) = []

-- Blanks alone give the old value back, and a note.
changed_blanks :
    (compiler (check (run_with (codes "gcc -O")) (cache_of (codes "gcc  -O"))) ≡ Ok (Some (codes "gcc  -O")))
    × (check_notes (check (run_with (codes "gcc -O")) (cache_of (codes "gcc  -O"))) ≡ codes "configure: WARNING: blanks of CC have changed, old value used\n" ∷ [])
    × (compiler (check (run_with (codes "\tgcc\n-O ")) (cache_of (codes "gcc -O"))) ≡ Ok (Some (codes "gcc -O")))
    × (compiler (check (run_with (codes "")) (cache_of (codes " "))) ≡ Ok (Some (codes " ")))
unfolding checked restored_from restored_variable restored old_value value_before is_mark marks_one blanks_note value_of with_entry fields parts_by
changed_blanks = (refl, refl, refl, refl)

-- What is as it was, and what the cache lacks, stays.
unchanged_values :
    (check (run_with (codes "gcc")) (cache_of (codes "gcc")) ≡ Ok (run_with (codes "gcc"), []))
    × (check run_without cache_without ≡ Ok (run_without, []))
    × (check (run_with (codes "gcc")) [] ≡ Ok (run_with (codes "gcc"), []))
    × (check (run_with (codes "gcc")) (Defaults (codes "ac_cv_env_CC_value") (codes "cc") ∷ []) ≡ Ok (run_with (codes "gcc"), []))
unfolding checked restored_from restored_variable restored old_value value_before is_mark marks_one blanks_note value_of with_entry fields parts_by
unchanged_values = (refl, refl, refl, refl)

-- The first fault counts.
precious_faults :
    (check (run_with (codes "cc")) (cache_of (codes "gcc  -O")) ≡ Err (Changed 1))
    × (check run_without (cache_of (codes "gcc  -O")) ≡ Err (WasSet 1))
    × (check (run_with (codes "")) cache_without ≡ Err (WasUnset 1))
    × (checked (codes "LD" ∷ codes "CC" ∷ codes "AR" ∷ []) (run_with (codes "cc")) (Sets (codes "ac_cv_env_AR_set") (codes "set") ∷ cache_of (codes "gcc")) ≡ Err (Changed 2))
unfolding checked restored_from restored_variable restored old_value value_before is_mark marks_one blanks_note value_of with_entry fields parts_by
precious_faults = (refl, refl, refl, refl)
