-- What is done to a disk when a new file takes the place of another.
use Rattle.std.specs.Prelude.{◌≡◌, ℕ, List, [], ◌∷◌, Option, None}
use Rattle.file_disk.specs.Known.{Known, Deed, Made, Filled, Removed, Does, kind_under}
use Rattle.file_disk.specs.declared.found.Found.{Found}
use Rattle.file_disk.specs.declared.found.Found.TheVariants as found

-- What is removed under a name: a regular file or a link, and nothing else. (own)
abbrev pub clearing : List ℕ → Found → List Deed
clearing name (found.File mode) = Removed name ∷ []
clearing name found.Link = Removed name ∷ []
clearing name found.Nothing = []
clearing name found.Directory = []
clearing name found.Special = []

-- What is removed of what is under a name now. (own)
abbrev pub clearing_now : List ℕ → Known → List Deed
clearing_now name k = clearing name (kind_under k name)

-- A new file is made, and gets this whole text. (own)
abbrev pub filling : List ℕ → List ℕ → Known → List Deed
filling name text k = Made name ∷ Filled name None text ∷ []

-- If something is known, exactly these deeds are done. (own)
abbrev pub DoesAll : Option Known → Option Known → (Known → List Deed) → Type 0
DoesAll old new deeds = Does old new (λ k done. done ≡ deeds k)
