-- The directories of a path.
use Rattle.std.specs.Prelude.{ℕ, ◌==◌, ◌-◌, length, List, [], ◌∷◌, ◌++◌, map, take, nat_eq, codes, if◌then◌else◌, Bool, false}
use Rattle.std.specs.List.{ends_with}
use Rattle.text_cut.specs.Cuts.{parts}

-- The last part is empty. (own)
abbrev pub ends_empty : List (List ℕ) → Bool
ends_empty [] = false
ends_empty (part ∷ []) = length part == 0
ends_empty (part ∷ more) = ends_empty more

-- The list without an empty last part. (own)
abbrev pub without_last_empty : List (List ℕ) → List (List ℕ)
without_last_empty parts = if ends_empty parts then take (length parts - 1) parts else parts

-- A directory as it is put before a name: an empty part is the current directory, and the text ends with a slash.
-- (POSIX, "Environment Variables")
abbrev pub directory_of : List ℕ → List ℕ
directory_of [] = codes "./"
directory_of (b ∷ bs) = if ends_with nat_eq (b ∷ bs) (codes "/") then b ∷ bs else (b ∷ bs) ++ codes "/"

-- The directories of a path: the parts between its colons, at most 65,536 (own). (POSIX, "Environment Variables")
unfoldable pub directories_of : List ℕ → List (List ℕ)
directories_of path = map directory_of (take 65536 (without_last_empty (parts 58 path)))
