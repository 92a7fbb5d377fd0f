-- Disks that nobody else changes: what is under a name follows from what was done.
use Rattle.std.specs.Prelude.{◌≡◌, ◌≢◌, ℕ, true, false, List, [], ◌∷◌, ◌++◌, Option, Some, None, ⊤}
use Rattle.file_disk.specs.Known.{Known, Files, Deed, MadeDirectories, Made, Filled, Failed, Renamed, Removed, text_under, kind_under, with_deeds}
use Rattle.file_disk.specs.declared.found.Found.TheVariants as found
use Rattle.output_put.specs.declared.artifact.Artifact.{Artifact}
use Rattle.file_texts.specs.Done.{may_make}
use Rattle.file_texts.specs.Links.{is_link, LeadsTo}
use Rattle.file_texts.specs.Places.{place_under}
use Rattle.file_texts.specs.declared.places.FilePlace.{FilePlace}

-- What is known of these files after these deeds. (own)
abbrev pub after : Files → List Deed → Known
after files deeds = record { deeds = deeds; files = files }

-- The deed changes nothing at the place. (own)
abbrev pub IsElsewhere : Known → FilePlace → Deed → Type 0
IsElsewhere k place (MadeDirectories name) = ⊤
IsElsewhere k place (Made name) = place_under k name ≢ Some place
IsElsewhere k place (Filled name mode text) = place_under k name ≢ Some place
IsElsewhere k place (Failed name) = place_under k name ≢ Some place
IsElsewhere k place (Renamed from to) = (place_under k from ≢ Some place) × (place_under k to ≢ Some place)
IsElsewhere k place (Removed name) = place_under k name ≢ Some place

-- The deed makes no directory, and removes and replaces no link: each name of a directory is that of
-- the same directory afterwards. (own)
abbrev pub KeepsDirectories : Known → Deed → Type 0
KeepsDirectories k (MadeDirectories name) = ⊥
KeepsDirectories k (Made name) = ⊤
KeepsDirectories k (Filled name mode text) = ⊤
KeepsDirectories k (Failed name) = ⊤
KeepsDirectories k (Renamed from to) = (is_link (kind_under k from) ≡ false) × (is_link (kind_under k to) ≡ false)
KeepsDirectories k (Removed name) = is_link (kind_under k name) ≡ false

-- The deed makes a new file, or writes to one. (own)
abbrev pub IsOfNewFile : Deed → Type 0
IsOfNewFile (MadeDirectories name) = ⊥
IsOfNewFile (Made name) = ⊤
IsOfNewFile (Filled name mode text) = ⊤
IsOfNewFile (Failed name) = ⊤
IsOfNewFile (Renamed from to) = ⊥
IsOfNewFile (Removed name) = ⊥

-- The directory of the name is there. (own)
abbrev pub HasPlace : Known → List ℕ → Type 0
HasPlace k name = (place : FilePlace) × (place_under k name ≡ Some place)

-- The files are changed by what is done to them, and by nothing else, and what is written can be
-- read again. (own)
pub record IsCoherent (files : Files) : Type 0 where
  -- A file has the text that was written to it, if its directory is there.
  pub filled : (d : List Deed) (name : List ℕ) (mode : Option ℕ) (text : List ℕ)
      → HasPlace (after files d) name
      → text_under (after files (d ++ Filled name mode text ∷ [])) name ≡ Some text
  -- What is renamed, and is no link, is under the other name what it was, if the directory of that
  -- name is there.
  pub renamed : (d : List Deed) (from to : List ℕ) → HasPlace (after files d) to
      → is_link (kind_under (after files d) from) ≡ false
      → text_under (after files (d ++ Renamed from to ∷ [])) to ≡ text_under (after files d) from
  pub renamed_kind : (d : List Deed) (from to : List ℕ) → HasPlace (after files d) to
      → is_link (kind_under (after files d) from) ≡ false
      → kind_under (after files (d ++ Renamed from to ∷ [])) to ≡ kind_under (after files d) from
  -- What is removed is gone.
  pub gone : (d : List Deed) (name : List ℕ)
      → kind_under (after files (d ++ Removed name ∷ [])) name ≡ found.Nothing
  -- If nothing is under a name, it has no text, and something that is under a name is in a directory.
  pub nothing : (d : List Deed) (name : List ℕ) → kind_under (after files d) name ≡ found.Nothing
      → text_under (after files d) name ≡ None
  pub somewhere : (d : List Deed) (name : List ℕ) → kind_under (after files d) name ≢ found.Nothing
      → HasPlace (after files d) name
  -- At one place is one thing, under whatever name.
  pub one : (d : List Deed) (a b : List ℕ) (place : FilePlace)
      → place_under (after files d) a ≡ Some place → place_under (after files d) b ≡ Some place
      → kind_under (after files d) a ≡ kind_under (after files d) b
  -- A link has the text of the file that it leads to.
  pub linked : (d : List Deed) (name end : List ℕ) → LeadsTo (after files d) name end
      → text_under (after files d) name ≡ text_under (after files d) end
  -- What is at another place than a deed changes stays as it was: a link, or else a text.
  pub stays : (d : List Deed) (deed : Deed) (name : List ℕ) (place : FilePlace)
      → place_under (after files d) name ≡ Some place
      → place_under (after files (d ++ deed ∷ [])) name ≡ Some place
      → IsElsewhere (after files d) place deed → is_link (kind_under (after files d) name) ≡ false
      → (is_link (kind_under (after files (d ++ deed ∷ [])) name) ≡ false)
      × (text_under (after files (d ++ deed ∷ [])) name ≡ text_under (after files d) name)
  pub links_stay : (d : List Deed) (deed : Deed) (name : List ℕ) (place : FilePlace)
      → place_under (after files d) name ≡ Some place
      → place_under (after files (d ++ deed ∷ [])) name ≡ Some place
      → IsElsewhere (after files d) place deed → is_link (kind_under (after files d) name) ≡ true
      → (is_link (kind_under (after files (d ++ deed ∷ [])) name) ≡ true)
      × (files.targets (d ++ deed ∷ []) name ≡ files.targets d name)
  -- A new file is no link, and makes none.
  pub no_new_link : (d : List Deed) (deed : Deed) (name : List ℕ) → IsOfNewFile deed
      → is_link (kind_under (after files d) name) ≡ false
      → is_link (kind_under (after files (d ++ deed ∷ [])) name) ≡ false
  -- Directories stay where they are.
  pub directories_stay : (d : List Deed) (deed : Deed) (name : List ℕ)
      → KeepsDirectories (after files d) deed
      → files.directories (d ++ deed ∷ []) name ≡ files.directories d name
  pub directories_last : (d : List Deed) (made name : List ℕ) (directory : ℕ × ℕ)
      → files.directories d name ≡ Some directory
      → files.directories (d ++ MadeDirectories made ∷ []) name ≡ Some directory

-- A name leads to a file at this place, and what is read under the name is this text. (own)
pub record ReadsAt (k : Known) (name : List ℕ) (place : FilePlace) (text : List ℕ) : Type 0 where
  pub end : List ℕ
  pub leads : LeadsTo k name end
  pub at : place_under k end ≡ Some place
  pub read : text_under k name ≡ Some text

-- The file that is written has another place, and is no link. (own)
abbrev pub IsApart : Known → List ℕ → FilePlace → Type 0
IsApart k file place = (is_link (kind_under k file) ≡ false) × (place_under k file ≢ Some place)

-- This artifact is put to a file at another place, which is no link when it is written. (own)
abbrev pub IsPutApart : Known → Artifact → List ℕ → FilePlace → Type 0
IsPutApart k artifact file place = IsApart (with_deeds k (may_make artifact.kind artifact.name)) file place
