-- What is done to files when a conftest is written.
use Rattle.std.specs.Prelude.{◌≡◌, ◌==◌, ℕ, ◌-◌, List, [], ◌∷◌, ◌++◌, length, take, codes, Option, Some, None, if◌then◌else◌, ⊤}
use Rattle.std.specs.List.{ends_with}
use Rattle.file_disk.specs.Known.{Known, Deed, Made, Failed, Does, kind_under, with_deeds}
use Rattle.file_disk.specs.Clearing.{clearing_now, filling}
use Rattle.file_disk.specs.declared.found.Found.{Found}
use Rattle.file_disk.specs.declared.found.Found.TheVariants as found

-- What is removed of the file that is stale, if there is one. (own)
abbrev pub clearing_stale : Option (List ℕ) → Known → List Deed
clearing_stale None k = []
clearing_stale (Some name) k = clearing_now name k

-- The deeds of one step, and then those of another, which depend on what is known by then. (own)
abbrev pub after : (Known → List Deed) → (Known → List Deed) → Known → List Deed
after first second k = first k ++ second (with_deeds k (first k))

-- A new file is made, and does not get all of its text. (own)
abbrev pub tearing : List ℕ → Known → List Deed
tearing name k = Made name ∷ Failed name ∷ []

-- A new file takes the place of a regular file, of a link, or of none, and gets this whole text. (own)
abbrev pub replacing : List ℕ → List ℕ → Known → List Deed
replacing name text = after (clearing_now name) (filling name text)

-- The same, if the new file does not get all of its text. (own)
abbrev pub spoiling : List ℕ → Known → List Deed
spoiling name = after (clearing_now name) (tearing name)

-- If something is known, some of these deeds are done, from the first on. (own)
abbrev pub DoesFront : Option Known → Option Known → (Known → List Deed) → Type 0
DoesFront old new deeds = Does old new (λ k done. (rest : List Deed) × (done ++ rest ≡ deeds k))

-- What a compiler makes for a program of this name: its object file, and the program itself. (own)
abbrev pub made_of : List ℕ → List (List ℕ)
made_of program = (program ++ codes ".o") ∷ program ∷ []

-- What a compiler makes of the text in a file of this name: of `NAME.c` what it makes for the program `NAME`, and
-- nothing of another name. (own)
unfoldable pub products_of : List ℕ → List (List ℕ)
products_of name = if ends_with ◌==◌ name (codes ".c") then made_of (take (length name - 2) name) else []

-- What is removed under these names, one after the other: regular files and links. (own)
abbrev pub clearing_each : List (List ℕ) → Known → List Deed
clearing_each [] k = []
clearing_each (name ∷ names) k = after (clearing_now name) (clearing_each names) k

-- There is nothing, or a regular file or a link, which can be removed. (own)
abbrev pub IsFreeable : Found → Type 0
IsFreeable found.Nothing = ⊤
IsFreeable (found.File mode) = ⊤
IsFreeable found.Link = ⊤
IsFreeable found.Directory = ⊥
IsFreeable found.Special = ⊥

-- Under each of these names there is nothing, or a regular file or a link, after what is removed of those before. (own)
abbrev pub AreFreeable : List (List ℕ) → Known → Type 0
AreFreeable [] k = ⊤
AreFreeable (name ∷ names) k =
    IsFreeable (kind_under k name) × AreFreeable names (with_deeds k (clearing_now name k))

-- What is under a name is removed, if there is something, and it is a regular file or a link. (own)
abbrev pub FreesOne : List ℕ → Known → List Deed → Type 0
FreesOne name k done = (done ≡ clearing_now name k) × IsFreeable (kind_under k name)

-- The same of each of these names. (own)
abbrev pub Frees : List (List ℕ) → Known → List Deed → Type 0
Frees names k done = (done ≡ clearing_each names k) × AreFreeable names k

-- A conftest is written: what a compiler made of the one before is removed, and then a new file takes the place of the
-- conftest, and gets this whole text. (own)
abbrev pub preparing : List ℕ → List ℕ → Known → List Deed
preparing name text = after (clearing_each (products_of name)) (replacing name text)

-- The same, if the new file does not get all of its text. (own)
abbrev pub breaking : List ℕ → Known → List Deed
breaking name = after (clearing_each (products_of name)) (spoiling name)

-- A conftest is written, and none of what a compiler makes of it was a directory, a pipe, a socket or a device. (own)
abbrev pub Prepares : List ℕ → List ℕ → Known → List Deed → Type 0
Prepares name text k done = (done ≡ preparing name text k) × AreFreeable (products_of name) k

-- The same, after the file that is stale is removed. (own)
abbrev pub PreparesAfter : Option (List ℕ) → List ℕ → List ℕ → Known → List Deed → Type 0
PreparesAfter stale name text k done =
    (done ≡ after (clearing_stale stale) (preparing name text) k)
    × AreFreeable (products_of name) (with_deeds k (clearing_stale stale k))

-- A launcher: its disk, and the name of the file that it removes before anything else, unless that was removed. (own)
pub record Hosted (D : Type 0) : Type 0 where
  pub disk : D
  pub stale : Option (List ℕ)
