-- What is known of why children were refused.
use Rattle.std.specs.Prelude.{ℕ, ◌==◌, nat_lt, List, [], ◌∷◌, ◌++◌, length, Option, None, if◌then◌else◌}

-- The first cause of a child of which there is one, unless memory ran out for its line. (own)
abbrev pub cause_of : ℕ → List (ℕ × Option (List ℕ)) → Option (List ℕ)
cause_of child [] = None
cause_of child (entry ∷ entries) = if entry.0 == child then entry.1 else cause_of child entries

-- The causes with that of one more child, unless there are 16. (own)
unfoldable pub with_cause : List (ℕ × Option (List ℕ)) → ℕ → Option (List ℕ)
    → List (ℕ × Option (List ℕ))
with_cause entries child cause =
    if nat_lt (length entries) 16 then entries ++ (child, cause) ∷ [] else entries
