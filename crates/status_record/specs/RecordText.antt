-- The record of a run: its text, and what it may hold.
use Rattle.std.specs.Prelude.{◌≡◌, ℕ, List, [], ◌∷◌, ◌++◌, map, Option, Some, None, codes}
use Rattle.deftable.specs.Table.{HasShellNames, HasDistinctNames}
use Rattle.output_list.specs.Output.{AreOutputs}
use Rattle.status_record.specs.declared.record.Record.{Record}
use Rattle.status_record.specs.Escape.{escaped}
use Rattle.status_record.specs.Line.{ended, entry_fields, output_fields}

-- A line for each item: the keyword with its space, and the fields. (own)
abbrev pub lines_of : {A : Type 0} → List ℕ → (A → List ℕ) → List A → List (List ℕ)
lines_of keyword fields items = map (λ x. keyword ++ fields x) items

-- The line of the source directory. (own)
abbrev pub srcdir_line : Record → List ℕ
srcdir_line r = codes "srcdir " ++ escaped r.srcdir

-- The lines of the variables and what follows them, in order. (own)
abbrev pub body_lines : Record → List (List ℕ)
body_lines r =
    lines_of (codes "var ") entry_fields r.vars
    ++ (lines_of (codes "def ") entry_fields r.defs
    ++ (lines_of (codes "file ") output_fields r.files
    ++ (lines_of (codes "header ") output_fields r.headers
    ++ codes "end" ∷ [])))

-- The lines of the first version, in order. (own)
abbrev pub first_lines : Record → List (List ℕ)
first_lines r = codes "acrun-record 1" ∷ srcdir_line r ∷ body_lines r

-- The lines of the second version with these arguments, in order. (own)
abbrev pub second_lines : List (List ℕ) → Record → List (List ℕ)
second_lines args r = codes "acrun-record 2" ∷ srcdir_line r ∷ (lines_of (codes "arg ") escaped args ++ body_lines r)

-- Each name has its form, and none occurs twice. Files and headers share their names. (own)
pub record IsRecord (r : Record) : Type 0 where
  pub vars : HasShellNames r.vars × HasDistinctNames r.vars
  pub defs : HasShellNames r.defs × HasDistinctNames r.defs
  pub outputs : AreOutputs r.files r.headers

-- The record has no arguments, and the text is that of its first version. (own)
pub record IsFirstText (text : List ℕ) (r : Record) : Type 0 where
  pub holds : IsRecord r
  pub has_none : r.args ≡ None
  pub text_is : text ≡ ended (first_lines r)

-- The record has arguments, of which there may be none, and the text is that of its second version. (own)
pub record IsSecondText (text : List ℕ) (r : Record) : Type 0 where
  pub holds : IsRecord r
  pub args : List (List ℕ)
  pub has_args : r.args ≡ Some args
  pub text_is : text ≡ ended (second_lines args r)

-- The text is that of the record. (own)
pub data IsRecordText (text : List ℕ) (r : Record) : Type 0 where
  first : IsFirstText text r → IsRecordText text r
  second : IsSecondText text r → IsRecordText text r

-- ---- as a function

-- The first line: the version. (own)
abbrev pub version_line : Option (List (List ℕ)) → List ℕ
version_line None = codes "acrun-record 1"
version_line (Some args) = codes "acrun-record 2"

-- The lines of the arguments. (own)
abbrev pub arg_lines : Option (List (List ℕ)) → List (List ℕ)
arg_lines None = []
arg_lines (Some args) = lines_of (codes "arg ") escaped args

-- The lines of a record, in order. (own)
abbrev pub record_lines : Record → List (List ℕ)
record_lines r = version_line r.args ∷ srcdir_line r ∷ (arg_lines r.args ++ body_lines r)

-- The text of a record. (own)
unfoldable pub record_text : Record → List ℕ
record_text r = ended (record_lines r)
