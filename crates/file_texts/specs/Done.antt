-- What a receiver did for what was handed over.
use Rattle.std.specs.Prelude.{◌≡◌, ◌≢◌, ◌⊎◌, ℕ, ◌+◌, ◌<◌, ◌^◌, nat_le, Bool, true, false, List, [], ◌∷◌, ◌++◌, length, Some, None}
use Rattle.file_disk.specs.Known.{Known, Files, Deed, with_deeds, text_under, kind_under}
use Rattle.file_disk.specs.declared.found.Found.TheVariants as found
use Rattle.output_put.specs.declared.artifact.Artifact.{Artifact}
use Rattle.output_put.specs.declared.artifact.Kind.{Kind}
use Rattle.output_put.specs.declared.artifact.Kind.TheVariants.{Cache, Record, File, Header}
use Rattle.file_texts.specs.Lines.{creating_line, unchanged_line}
use Rattle.file_texts.specs.Links.{LeadsTo}
use Rattle.file_texts.specs.Places.{ArePlaced, is_name_guarded, is_own}
use Rattle.file_texts.specs.Reading.{whole}
use Rattle.file_texts.specs.Steps.{IsWritten, IsUndone, directories_for}
use Rattle.file_texts.specs.declared.places.Guard.{Guard}
use Rattle.file_texts.specs.declared.places.FilePlace.{FilePlace}
use Rattle.file_texts.specs.declared.writing.Keeps.TheVariants.{Permissions, NoExecution}

-- The file under the name doesn't have this text, unless the text has more than 64 MiB: such a text
-- is not compared. (own)
abbrev pub IsOther : Known → List ℕ → List ℕ → Type 0
IsOther k name text = text_under k name ≡ Some text → 2 ^ 26 < length text

-- An artifact of this name and kind is written to this file: a cache to where its name leads, over
-- any links, and anything else to the file of its name, in the place of a link. (own)
abbrev pub IsEnd : Known → List ℕ → Kind → List ℕ → Type 0
IsEnd k name Cache file = LeadsTo k name file
IsEnd k name Record file = file ≡ name
IsEnd k name File file = file ≡ name
IsEnd k name Header file = file ≡ name

-- A cache of this name may be written to this file: nothing is there, or the text that the name
-- leads to was read, and has at most 64 MiB. (own)
abbrev pub IsReplaceable : Known → List ℕ → List ℕ → Type 0
IsReplaceable k name file = (kind_under k file ≡ found.Nothing) ⊎ (whole (text_under k name) ≢ None)

-- If this is known, an artifact of this kind, name and text was put to this file in this way: what
-- is said of it, and the deeds. A cache or a header is left as it is exactly if the file under its
-- name has its text, and only then a header is said to be unchanged. Anything else is written, but
-- no cache over a file that can't be read. For a file and a header its directories are made. (own)
pub data IsPut (k : Known) (name file text : List ℕ) : Kind → List ℕ → List Deed → Type 0 where
  cache_same : text_under k name ≡ Some text → IsPut k name file text Cache [] []
  cache_put : (deeds : List Deed) → IsOther k name text → IsReplaceable k name file
      → IsWritten k Permissions file text deeds
      → IsPut k name file text Cache [] deeds
  record_put : (deeds : List Deed) → IsWritten k NoExecution file text deeds
      → IsPut k name file text Record [] deeds
  file_put : (deeds : List Deed)
      → IsWritten (with_deeds k (directories_for name)) Permissions file text deeds
      → IsPut k name file text File (creating_line name) (directories_for name ++ deeds)
  header_same : text_under k name ≡ Some text
      → IsPut k name file text Header (unchanged_line name) []
  header_put : (deeds : List Deed) → IsOther k name text
      → IsWritten (with_deeds k (directories_for name)) Permissions file text deeds
      → IsPut k name file text Header (creating_line name) (directories_for name ++ deeds)

-- An artifact of this kind with this text can be read again: a record has at most 64 MiB. A cache that is too long is a fault of who
-- reads it, and nothing else is read. (own)
abbrev pub can_be_read : Kind → List ℕ → Bool
can_be_read Cache text = true
can_be_read Record text = nat_le (length text) (2 ^ 26)
can_be_read File text = true
can_be_read Header text = true

-- The directories of an artifact of this kind and name that may be made before it is put. (own)
abbrev pub may_make : Kind → List ℕ → List Deed
may_make Cache name = []
may_make Record name = []
may_make File name = directories_for name
may_make Header name = directories_for name

-- The places of an artifact that was put, as they are before it is written: its directories may
-- have been made. None is guarded, and no earlier artifact had it. (own)
pub data HasPlaces (k : Known) (guards : List Guard) (places new : List FilePlace) (name file : List ℕ) (kind : Kind) : Type 0 where
  there : ArePlaced k guards places new name file → HasPlaces k guards places new name file kind
  made : ArePlaced (with_deeds k (may_make kind name)) guards places new name file
      → HasPlaces k guards places new name file kind

-- If this is known, an artifact was put in this way, to a file that is its own: not that of a name
-- that is guarded, not that of an earlier artifact, and none that a run has for itself. It can be
-- read again. (own)
pub record IsTakenSo (k : Known) (guards : List Guard) (places new : List FilePlace) (artifact : Artifact) (line : List ℕ) (deeds : List Deed) : Type 0 where
  pub file : List ℕ
  pub ends : IsEnd k artifact.name artifact.kind file
  pub named : is_name_guarded artifact.name guards ≡ false
  pub own : is_own k artifact.name ≡ false
  pub readable : can_be_read artifact.kind artifact.text ≡ true
  pub placed : HasPlaces k guards places new artifact.name file artifact.kind
  pub put : IsPut k artifact.name file artifact.text artifact.kind line deeds

-- If this is known, these are the deeds of a put that was refused: directories may have been made,
-- and no file was renamed. (own)
pub data IsRefused (k : Known) (name : List ℕ) : Kind → List Deed → Type 0 where
  nothing : {kind : Kind} → IsRefused k name kind []
  undone : {kind : Kind} (file : List ℕ) (deeds : List Deed) → IsEnd k name kind file
      → IsUndone file deeds → IsRefused k name kind deeds
  file_undone : (deeds : List Deed) → IsUndone name deeds
      → IsRefused k name File (directories_for name ++ deeds)
  header_undone : (deeds : List Deed) → IsUndone name deeds
      → IsRefused k name Header (directories_for name ++ deeds)

-- On a disk with these files, if these names are guarded, these are the artifacts that were taken,
-- in order, how many puts were refused, what was said of the artifacts, what places they have, and
-- all that was done to files: for each put, in order, its deeds. (own)
pub data AreDone (files : Files) (guards : List Guard) : List Artifact → ℕ → List ℕ → List FilePlace → List Deed → Type 0 where
  none : AreDone files guards [] 0 [] [] []
  taken : (artifacts : List Artifact) (failures : ℕ) (lines : List ℕ) (places new : List FilePlace) (deeds : List Deed) (artifact : Artifact) (line : List ℕ) (more : List Deed)
      → AreDone files guards artifacts failures lines places deeds
      → IsTakenSo (record { deeds = deeds; files = files }) guards places new artifact line more
      → AreDone files guards (artifacts ++ artifact ∷ []) failures (lines ++ line) new (deeds ++ more)
  refused : (artifacts : List Artifact) (failures : ℕ) (lines : List ℕ) (places : List FilePlace) (deeds : List Deed) (kind : Kind) (name : List ℕ) (more : List Deed)
      → AreDone files guards artifacts failures lines places deeds
      → IsRefused (record { deeds = deeds; files = files }) name kind more
      → AreDone files guards artifacts (failures + 1) lines places (deeds ++ more)

-- These deeds are what was done for these artifacts, with so many puts refused, and these lines.
-- (own)
abbrev pub IsDone : Files → List Artifact → ℕ → List ℕ → List Deed → Type 0
IsDone files artifacts failures lines deeds =
    (guards : List Guard) × (places : List FilePlace) × AreDone files guards artifacts failures lines places deeds

-- All that was done to the disk is what was done for these artifacts, with so many puts refused, and
-- these lines. (own)
abbrev pub IsAllDone : Known → List Artifact → ℕ → List ℕ → Type 0
IsAllDone k artifacts failures lines = IsDone k.files artifacts failures lines k.deeds

-- The same, if these names were guarded, and the artifacts have these places. (own)
abbrev pub IsDoneApart : Known → List Guard → List Artifact → ℕ → List ℕ → List FilePlace → Type 0
IsDoneApart k guards artifacts failures lines places = AreDone k.files guards artifacts failures lines places k.deeds
