-- Names that are near another one. All of this is own, but for the distance, which is Levenshtein's.
use Rattle.std.specs.Prelude.{◌≡◌, ℕ, ◌+◌, ◌/◌, ◌<◌, ◌≤◌, min, nat_eq, nat_lt, if◌then◌else◌, List, [], ◌∷◌, ◌++◌, length, All, Option, Some, None}
use Rattle.strsim.specs.Edits.{levenshtein_row}

-- How many edits lead from a name to another one, where an edit puts a byte in, takes one out or replaces one.
abbrev pub edits : List ℕ → List ℕ → ℕ
edits name other = levenshtein_row nat_eq name other (length other)

-- How many edits are few: none for up to three bytes, one for four to eight, two for nine to thirteen, and three for more.
abbrev pub few : List ℕ → ℕ
few name = min ((length name + 1) / 5) 3

-- It is the first of the names with the fewest edits, and these are fewer than a number.
pub record IsFirst (name : List ℕ) (room : ℕ) (names : List (List ℕ)) (near : List ℕ) : Type 0 where
  pub before : List (List ℕ)
  pub after : List (List ℕ)
  pub one : names ≡ before ++ near ∷ after
  pub close : edits name near < room
  pub first : All (λ other. edits name near < edits name other) before
  pub fewest : All (λ other. edits name near ≤ edits name other) after

-- The nearest of the names, if it is near: the first of those with the fewest edits, and these are few. There is none if each has more.
abbrev pub IsNearest : List ℕ → List (List ℕ) → Option (List ℕ) → Type 0
IsNearest name names None = All (λ other. few name < edits name other) names
IsNearest name names (Some near) = IsFirst name (few name + 1) names near

-- The edits to another name, if they are fewer than a number.
abbrev pub closer : List ℕ → List ℕ → ℕ → Option ℕ
closer name other room = if nat_lt (edits name other) room then Some (edits name other) else None

-- The nearest name so far, and those that follow, of which each nearer one takes its place.
abbrev pub nearest_from : List ℕ → ℕ → Option (List ℕ) → List (List ℕ) → Option (List ℕ)
nearest_from name room best [] = best
nearest_from name room best (other ∷ names) =
    if nat_lt (edits name other) room then nearest_from name (edits name other) (Some other) names else nearest_from name room best names
