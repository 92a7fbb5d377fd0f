-- Sources that words name, and whether they have errors. All of this is own.
use Rattle.std.specs.Prelude.{◌≡◌, ◌⊎◌, ℕ, Bool, true, false, List, [], ◌∷◌, ◌++◌, All, Option, Some, None, Ok, codes, ⊤}
use Rattle.std.specs.List.{Contains}
use Rattle.acparse.specs.Profile.{source_of}
use Rattle.file_disk.specs.Known.{Known}
use Rattle.file_texts.specs.Names as names
use Rattle.cmd_call.specs.Supplies.{ReadsWhole, ReadsTemplate, path_of}
use Rattle.lint_errors.specs.Errors.{IsAccepted}
use Rattle.output_list.specs.declared.output.Output.{Output}
use Rattle.ac_tree.specs.Lists.{lists_of}
use Rattle.ac_tree.specs.Script.{Script}

-- ---- the source of a name

-- The directory, by what is before the last slash of a path: the root if nothing is, and the current directory if there is no slash.
abbrev pub directory_before : Option (List ℕ) → List ℕ
directory_before None = codes "."
directory_before (Some []) = codes "/"
directory_before (Some (byte ∷ more)) = byte ∷ more

-- The directory of the file at a path.
abbrev pub directory_of : List ℕ → List ℕ
directory_of path = directory_before (names.directory_of path)

-- The file at a path has this text, and is in this directory.
pub record IsAt (files : Option Known) (path text directory : List ℕ) : Type 0 where
  pub read : ReadsWhole files path (Some text)
  pub directory_is : directory ≡ directory_of path

-- The file at a path can't be read, and the `configure.ac` in the directory at that path has this text.
pub record IsWithin (files : Option Known) (path text directory : List ℕ) : Type 0 where
  pub unread : ReadsWhole files path None
  pub at : IsAt files (path_of path (codes "configure.ac")) text directory

-- The source of a name has this text, and its templates are in this directory. If it is standard input, any text may be read, and
-- the directory is the current one.
abbrev pub IsNamed : Option Known → Bool → List ℕ → List ℕ → List ℕ → Type 0
IsNamed files true name text directory = directory ≡ codes "."
IsNamed files false name text directory = IsAt files name text directory ⊎ IsWithin files name text directory

-- The source of a name can't be read: it is standard input, or neither the file at the name nor the `configure.ac` in the directory at
-- the name can be read.
abbrev pub IsUnread : Option Known → Bool → List ℕ → Type 0
IsUnread files true name = ⊤
IsUnread files false name = ReadsWhole files name None × ReadsWhole files (path_of name (codes "configure.ac")) None

-- ---- its errors

-- The files and headers that statements make.
abbrev pub outputs_of : Script → List Output
outputs_of script = (lists_of script).files ++ (lists_of script).headers

-- The template of an output can be read.
abbrev pub IsThere : Option Known → List ℕ → Output → Type 0
IsThere files directory output = (text : List ℕ) × ReadsTemplate files directory output.template (Some text)

-- The template of an output can't be read.
abbrev pub IsMissing : Option Known → List ℕ → Output → Type 0
IsMissing files directory output = ReadsTemplate files directory output.template None

-- Whether a source with this text has an error, if its templates are in this directory: it has one if it is refused, or if the template
-- of an output can't be read, and none if it is accepted and each template can be read.
pub data HasError (files : Option Known) (directory text : List ℕ) : Bool → Type 0 where
  refused : (IsAccepted text → ⊥) → HasError files directory text true
  missing : (script : Script) (output : Output) → source_of text ≡ Ok script → Contains (outputs_of script) output → IsMissing files directory output → HasError files directory text true
  clean : (accepted : IsAccepted text) → All (IsThere files directory) (outputs_of accepted.script) → HasError files directory text false
