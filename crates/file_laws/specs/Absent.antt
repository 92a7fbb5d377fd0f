-- What can't be said of a disk that lacks a directory, or that has a link.
use Rattle.std.specs.Prelude.{◌≡◌, ℕ, List, [], ◌∷◌, ◌++◌, Option, Some}
use Rattle.file_disk.specs.Known.{Files, Deed, Filled, Renamed, text_under, kind_under}
use Rattle.file_texts.specs.Coherent.{after}

-- What is written to a file is read, whatever its name. (own)
unfoldable pub ReadsEachFile : Files → Type 0
ReadsEachFile files = (d : List Deed) (name : List ℕ) (mode : Option ℕ) (text : List ℕ)
    → text_under (after files (d ++ Filled name mode text ∷ [])) name ≡ Some text

-- What is renamed is under the other name, whatever it is, and whatever the names. (own)
unfoldable pub RenamesEachFile : Files → Type 0
RenamesEachFile files = (d : List Deed) (from to : List ℕ)
    → kind_under (after files (d ++ Renamed from to ∷ [])) to ≡ kind_under (after files d) from
