-- What a receiver keeps of a put, and the steps of one.
use Rattle.std.specs.Prelude.{◌≡◌, ℕ, Bool, true, false, List, [], ◌∷◌, ◌++◌, Option, Some, None, bytes_eq, ⊤}
use Rattle.file_disk.specs.Known.{Known, Deed, Does, with_deeds, text_under}
use Rattle.output_put.specs.declared.artifact.Artifact.{Artifact}
use Rattle.output_put.specs.declared.artifact.Kind.{Kind}
use Rattle.output_put.specs.declared.artifact.Kind.TheVariants.{Cache, Record, File, Header}
use Rattle.file_texts.specs.Done.{IsOther, IsReplaceable, IsTakenSo}
use Rattle.file_texts.specs.Lines.{IsSaid}
use Rattle.file_texts.specs.Places.{ArePlaced}
use Rattle.file_texts.specs.Steps.{IsWritten, IsUndone, directories_for}
use Rattle.file_texts.specs.declared.lines.Saying.{Saying}
use Rattle.file_texts.specs.declared.lines.Saying.TheVariants.{Nothing, Creating, Unchanged}
use Rattle.file_texts.specs.declared.places.Guard.{Guard}
use Rattle.file_texts.specs.declared.places.FilePlace.{FilePlace}
use Rattle.file_texts.specs.declared.writing.Keeps.{Keeps}
use Rattle.file_texts.specs.declared.writing.Keeps.TheVariants.{Permissions, NoExecution}

-- The artifact was appended to the artifacts, and its line to the lines. (own)
pub record IsKept (artifacts : List Artifact) (lines : List ℕ) (new_artifacts : List Artifact) (new_lines : List ℕ) (artifact : Artifact) (line : List ℕ) : Type 0 where
  pub artifact_kept : new_artifacts ≡ artifacts ++ artifact ∷ []
  pub line_kept : new_lines ≡ lines ++ line

-- Neither list changed. (own)
pub record AreSame (artifacts : List Artifact) (lines : List ℕ) (new_artifacts : List Artifact) (new_lines : List ℕ) : Type 0 where
  pub same_artifacts : new_artifacts ≡ artifacts
  pub same_lines : new_lines ≡ lines

-- What the file of an artifact of this kind keeps. (own)
abbrev pub keeps_of : Kind → Keeps
keeps_of Cache = Permissions
keeps_of Record = NoExecution
keeps_of File = Permissions
keeps_of Header = Permissions

-- An artifact of this kind is compared with the text that its file has. (own)
abbrev pub is_compared : Kind → Bool
is_compared Cache = true
is_compared Record = false
is_compared File = false
is_compared Header = true

-- A text that was read, if one was, is this text. (own)
abbrev pub is_same : Option (List ℕ) → List ℕ → Bool
is_same None text = false
is_same (Some found) text = bytes_eq found text

-- The name of the file that an artifact is written to: where a link leads to, or else its own name. (own)
abbrev pub file_of : Option (List ℕ) → List ℕ → List ℕ
file_of None name = name
file_of (Some end) name = end

-- The file under the name has this text, if this is true, and it has another text, if this is
-- false. (own)
abbrev pub HasText : Known → List ℕ → List ℕ → Bool → Type 0
HasText k name text true = text_under k name ≡ Some text
HasText k name text false = IsOther k name text

-- This says whether an artifact of this kind is left as it is: a header or a cache, if its file has its
-- text. (own)
abbrev pub IsLeft : Kind → Known → List ℕ → List ℕ → Bool → Type 0
IsLeft Cache k name text left = HasText k name text left
IsLeft Record k name text left = left ≡ false
IsLeft File k name text left = left ≡ false
IsLeft Header k name text left = HasText k name text left

-- An artifact of this kind may take the place of what is at its file, if that isn't left as it is.
-- (own)
abbrev pub MayReplace : Kind → Bool → Known → List ℕ → List ℕ → Type 0
MayReplace Cache true k name file = ⊤
MayReplace Cache false k name file = IsReplaceable k name file
MayReplace Record left k name file = ⊤
MayReplace File left k name file = ⊤
MayReplace Header left k name file = ⊤

-- The deeds that make the directories of what is said to be made. (own)
abbrev pub made_for : Saying → List ℕ → List Deed
made_for Nothing name = []
made_for Creating name = directories_for name
made_for Unchanged name = []

-- The text was written to the file, unless the file was left as it was. (own)
abbrev pub Fills : Bool → Known → Keeps → List ℕ → List ℕ → List Deed → Type 0
Fills true k keeps file text deeds = deeds ≡ []
Fills false k keeps file text deeds = IsWritten k keeps file text deeds

-- The artifact was appended to the artifacts, and a line to the lines, and if the deeds are known, they
-- put it in this way. (own)
pub record Takes (known new : Option Known) (guards : List Guard) (places new_places : List FilePlace) (artifacts : List Artifact) (lines : List ℕ) (new_artifacts : List Artifact) (new_lines : List ℕ) (artifact : Artifact) : Type 0 where
  pub line : List ℕ
  pub kept : IsKept artifacts lines new_artifacts new_lines artifact line
  pub said : IsSaid artifact.kind artifact.name line
  pub does : Does known new (λ k deeds. IsTakenSo k guards places new_places artifact line deeds)

-- The directories were made, the places were added, and then the text was written, unless the file
-- was left as it was. (own)
pub record IsStepped (k : Known) (guards : List Guard) (places new_places : List FilePlace) (saying : Saying) (left : Bool) (keeps : Keeps) (name file text : List ℕ) (deeds : List Deed) : Type 0 where
  pub rest : List Deed
  pub parts : deeds ≡ made_for saying name ++ rest
  pub placed : ArePlaced (with_deeds k (made_for saying name)) guards places new_places name file
  pub fills : Fills left (with_deeds k (made_for saying name)) keeps file text rest

-- Nothing was done, or the directories were made, and no file was renamed. (own)
pub data IsUnstepped (saying : Saying) (name file : List ℕ) : List Deed → Type 0 where
  before : IsUnstepped saying name file []
  after : (rest : List Deed) → IsUndone file rest
      → IsUnstepped saying name file (made_for saying name ++ rest)
