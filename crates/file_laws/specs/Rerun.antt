-- What is read after a run on a disk that nobody else changes.
use Rattle.std.specs.Prelude.{◌≡◌, ◌≢◌, ℕ, true, false, List, [], ◌∷◌, ◌++◌, Some, ⊤, All}
use Rattle.file_disk.specs.Known.{Known, Files, Deed, MadeDirectories, Made, Filled, Failed, Renamed, Removed, kind_under, text_under}
use Rattle.file_texts.specs.Coherent.{after, IsCoherent, ReadsAt}
use Rattle.file_texts.specs.Done.{AreDone}
use Rattle.file_texts.specs.Links.{is_link}
use Rattle.file_texts.specs.Places.{is_place_guarded, place_under}
use Rattle.file_texts.specs.Steps.{IsReplaced}
use Rattle.file_texts.specs.declared.places.Guard.{Guard}
use Rattle.file_texts.specs.declared.places.FilePlace.{FilePlace}
use Rattle.output_put.specs.declared.artifact.Artifact.{Artifact}

-- The deed is one that a run does: it makes directories or a new file, writes to one, removes a file,
-- or renames one that is no link. (own)
abbrev pub IsOfRun : Known → Deed → Type 0
IsOfRun k (MadeDirectories name) = ⊤
IsOfRun k (Made name) = ⊤
IsOfRun k (Filled name mode text) = ⊤
IsOfRun k (Failed name) = ⊤
IsOfRun k (Renamed from to) = is_link (kind_under k from) ≡ false
IsOfRun k (Removed name) = ⊤

-- Each of these deeds is one that a run does, in order. (own)
pub data AreOfRun (files : Files) : List Deed → Type 0 where
  no_deeds : AreOfRun files []
  one_more : (deeds : List Deed) (deed : Deed) → AreOfRun files deeds → IsOfRun (after files deeds) deed
      → AreOfRun files (deeds ++ deed ∷ [])

-- No link is under the name, whatever a run does to the disk. (own)
abbrev pub IsNeverLink : Files → List ℕ → Type 0
IsNeverLink files name = (deeds : List Deed) → AreOfRun files deeds
    → is_link (kind_under (after files deeds) name) ≡ false

-- The same of the names of these artifacts. (own)
abbrev pub AreNeverLinks : Files → List Artifact → Type 0
AreNeverLinks files artifacts = All (λ artifact. IsNeverLink files artifact.name) artifacts

-- A run on a disk that had no deeds: these artifacts were put, none was refused, and these names
-- were guarded; and then the last file was written, which is such a log. Its place was known when the
-- run began, and was guarded. (own)
pub record IsOver (files : Files) (guards : List Guard) (artifacts : List Artifact) (last text : List ℕ) (place : FilePlace) (deeds : List Deed) : Type 0 where
  pub lines : List ℕ
  pub places : List FilePlace
  pub before : List Deed
  pub logged : List Deed
  pub are : deeds ≡ before ++ logged
  pub done : AreDone files guards artifacts 0 lines places before
  pub written : IsReplaced (after files before) last text logged
  pub at : place_under (after files []) last ≡ Some place
  pub guarded : is_place_guarded place guards ≡ true

-- After such a run each artifact is read under its name, if none of these names is that of a link.
-- (own)
unfoldable pub OutputsAreRead : Type 0
OutputsAreRead = (files : Files) (guards : List Guard) (artifacts : List Artifact) (last text : List ℕ) (place : FilePlace) (deeds : List Deed)
    → IsCoherent files → AreNeverLinks files artifacts → IsNeverLink files last
    → IsOver files guards artifacts last text place deeds
    → All (λ artifact. text_under (after files deeds) artifact.name ≡ Some artifact.text) artifacts

-- After such a run the last file is read under its name, if none of these names is that of a link.
-- (own)
unfoldable pub LastIsRead : Type 0
LastIsRead = (files : Files) (guards : List Guard) (artifacts : List Artifact) (last text : List ℕ) (place : FilePlace) (deeds : List Deed)
    → IsCoherent files → AreNeverLinks files artifacts → IsNeverLink files last
    → IsOver files guards artifacts last text place deeds
    → text_under (after files deeds) last ≡ Some text

-- After such a run what was read before under a name whose place was guarded is read again, if it is
-- not the place of the last file. (own)
unfoldable pub InputsAreKept : Type 0
InputsAreKept = (files : Files) (guards : List Guard) (artifacts : List Artifact) (last written : List ℕ) (place : FilePlace) (deeds : List Deed) (name : List ℕ) (own : FilePlace) (text : List ℕ)
    → IsCoherent files → AreNeverLinks files artifacts → IsNeverLink files last
    → IsOver files guards artifacts last written place deeds
    → is_place_guarded own guards ≡ true → own ≢ place → ReadsAt (after files []) name own text
    → text_under (after files deeds) name ≡ Some text
