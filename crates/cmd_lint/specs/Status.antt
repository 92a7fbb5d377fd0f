-- What `acrun lint` finds in sources, as its exit status. All of this is own.
use Rattle.std.specs.Prelude.{◌≡◌, ℕ, Bool, true, false, not, ◌&&◌, ◌||◌, List, [], ◌∷◌, ◌++◌, Option, bytes_eq, codes, if◌then◌else◌}
use Rattle.std.specs.List.{filter, list_any}
use Rattle.file_disk.specs.Known.{Known}
use Rattle.cmd_call.specs.Calls.{is_input, is_option}
use Rattle.lint_sources.specs.Sources.{HasError, IsNamed}

-- ---- the words

-- The option for JSON.
abbrev pub is_json : List ℕ → Bool
is_json word = bytes_eq word (codes "--json")

-- A word that is an option, and none that is known.
abbrev pub is_unknown : List ℕ → Bool
is_unknown word = is_option word && not (is_json word)

-- A word that names a source.
abbrev pub is_name : List ℕ → Bool
is_name word = not (is_option word)

-- These names, or `configure.ac` if there is none.
abbrev pub or_here : List (List ℕ) → List (List ℕ)
or_here [] = codes "configure.ac" ∷ []
or_here (name ∷ more) = name ∷ more

-- The names of sources among words.
abbrev pub named_by : List (List ℕ) → List (List ℕ)
named_by words = or_here (filter is_name words)

-- Whether words name at most one source.
unfoldable pub names_one : List (List ℕ) → Bool
names_one [] = true
names_one (word ∷ more) = if is_name word then not (list_any is_name more) else names_one more

-- ---- the status

-- The source of a name was read, and has an error or none.
pub record IsLinted (files : Option Known) (is_stream : Bool) (name : List ℕ) (has : Bool) : Type 0 where
  pub text : List ℕ
  pub directory : List ℕ
  pub source : IsNamed files is_stream name text directory
  pub found : HasError files directory text has

-- The sources of these names were read, and one of them has an error, or none has.
pub data AreLinted (files : Option Known) : List (List ℕ) → Bool → Type 0 where
  none : AreLinted files [] false
  next : {before : List (List ℕ)} {has : Bool} (name : List ℕ) (also : Bool) → AreLinted files before has → IsLinted files (is_input name) name also → AreLinted files (before ++ name ∷ []) (has || also)

-- The status after sources of which one has an error, or none has.
abbrev pub status_of : Bool → ℕ
status_of true = 1
status_of false = 0

-- The sources that words name were read, and this is the status: 1 if one of them has an error, and 0 if none has.
pub record IsStatus (files : Option Known) (words : List (List ℕ)) (status : ℕ) : Type 0 where
  pub has : Bool
  pub linted : AreLinted files (named_by words) has
  pub status_is : status ≡ status_of has
