-- Lists of names of a source, each of which has at most 1,024 names. (own)
use Rattle.std.specs.Prelude.{ℕ, Bool, ◌||◌, List, length, nat_lt}
use Rattle.deftable.specs.NameList.{has_name}

-- The list has this name, or room for one more. (own)
abbrev pub has_room : List (List ℕ) → List ℕ → Bool
has_room names n = has_name names n || nat_lt (length names) 1024
