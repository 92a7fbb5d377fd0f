-- Where files are, and which places are guarded.
use Rattle.std.specs.Prelude.{◌≡◌, ℕ, ◌==◌, nat_eq, ◌&&◌, ◌||◌, Bool, false, List, [], ◌∷◌, ◌++◌, Option, Some, None, option_map, bytes_eq, codes}
use Rattle.std.specs.List.{list_any, starts_with}
use Rattle.file_disk.specs.Known.{Known, directory_under}
use Rattle.file_texts.specs.Names.{home_of, last_of}
use Rattle.file_texts.specs.declared.places.Guard.{Guard}
use Rattle.file_texts.specs.declared.places.FilePlace.{FilePlace}

-- The place of the last part of a name in a directory, by its device and its number there. (own)
abbrev pub place_at : List ℕ → ℕ × ℕ → FilePlace
place_at name directory = record { device = directory.0; directory = directory.1; name = last_of name }

-- The place of a name, if its directory is there: the directory, by its device and its number
-- there, and the last part of the name. Two names have one place exactly if their directories are
-- one, and their last parts are equal. (own)
abbrev pub place_under : Known → List ℕ → Option FilePlace
place_under k name = option_map (place_at name) (directory_under k (home_of name))

-- The place of a name, if the files are known. (own)
abbrev pub place_in : Option Known → List ℕ → Option FilePlace
place_in None name = None
place_in (Some k) name = place_under k name

-- Two places are one. (own)
abbrev pub is_place : FilePlace → FilePlace → Bool
is_place a b = (a.directory == b.directory) && ((a.device == b.device) && bytes_eq a.name b.name)

-- The place is one of these. (own)
abbrev pub is_among : FilePlace → List FilePlace → Bool
is_among place places = list_any (λ other. is_place place other) places

-- A place, if there is one, is this one. (own)
abbrev pub is_at : FilePlace → Option FilePlace → Bool
is_at place None = false
is_at place (Some other) = is_place place other

-- The name is one of those that are guarded. (own)
abbrev pub is_name_guarded : List ℕ → List Guard → Bool
is_name_guarded name guards = list_any (λ guard. bytes_eq guard.name name) guards

-- The place is one of those that are guarded. (own)
abbrev pub is_place_guarded : FilePlace → List Guard → Bool
is_place_guarded place guards = list_any (λ guard. is_at place guard.place) guards

-- A place, if there is one, is guarded, or an artifact has it. (own)
abbrev pub is_held_at : Option FilePlace → List Guard → List FilePlace → Bool
is_held_at None guards places = false
is_held_at (Some place) guards places = is_place_guarded place guards || is_among place places

-- The name is guarded, or its place, if that is known, is guarded or that of an artifact. (own)
abbrev pub is_held : Option Known → List ℕ → List Guard → List FilePlace → Bool
is_held known name guards places = is_name_guarded name guards || is_held_at (place_in known name) guards places

-- Two directories are there, and they are one, by their devices and their numbers there. (own)
abbrev pub is_one : Option (ℕ × ℕ) → Option (ℕ × ℕ) → Bool
is_one None other = false
is_one (Some d) None = false
is_one (Some d) (Some e) = (d.0 == e.0) && (d.1 == e.1)

-- The directory of the name is the current directory. (own)
abbrev pub is_here : Known → List ℕ → Bool
is_here k name = is_one (directory_under k (home_of name)) (directory_under k (codes "."))

-- The last part of the name begins with conftest, or it is config.answers. (own)
abbrev pub is_own_part : List ℕ → Bool
is_own_part name = starts_with nat_eq (last_of name) (codes "conftest") || bytes_eq (last_of name) (codes "config.answers")

-- A run has the name for itself: its checks make files of such names in the current directory, of
-- which Autoconf removes all that begin with conftest, or its answers are kept there. If the directory of the name isn't there, it is no such name. (own)
abbrev pub is_own : Known → List ℕ → Bool
is_own k name = is_own_part name && is_here k name

-- The same, if the files are known. (own)
abbrev pub is_own_in : Option Known → List ℕ → Bool
is_own_in None name = false
is_own_in (Some k) name = is_own k name

-- Places were appended. (own)
abbrev pub AreMore : List FilePlace → List FilePlace → Type 0
AreMore places new = (more : List FilePlace) × (new ≡ places ++ more)

-- The place of a name was added to the places of artifacts. It is not guarded, no artifact had it,
-- and a run doesn't have the name for itself. (own)
pub record IsAdded (k : Known) (guards : List Guard) (places new : List FilePlace) (name : List ℕ) : Type 0 where
  pub place : FilePlace
  pub at : place_under k name ≡ Some place
  pub own : is_own k name ≡ false
  pub free : is_held_at (Some place) guards places ≡ false
  pub added : new ≡ places ++ place ∷ []

-- The places of an artifact were added: that of its name, and before it that of its file, if a link
-- leads from one to the other. (own)
pub data ArePlaced (k : Known) (guards : List Guard) (places new : List FilePlace) (name : List ℕ) : List ℕ → Type 0 where
  alone : IsAdded k guards places new name → ArePlaced k guards places new name name
  both : (file : List ℕ) (middle : List FilePlace) → IsAdded k guards places middle file
      → IsAdded k guards middle new name → ArePlaced k guards places new name file
