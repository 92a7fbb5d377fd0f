-- Slashes at the end of a directory's name. (own)
use Rattle.std.specs.Prelude.{ℕ, Bool, ◌==◌, List, [], ◌∷◌, if◌then◌else◌}
use Rattle.std.specs.List.{list_all}

-- The text is slashes alone, or empty. (own)
abbrev pub is_slashes : List ℕ → Bool
is_slashes text = list_all (λ b. b == 47) text

-- The text up to its last byte that is no slash. (own)
unfoldable pub unslashed : List ℕ → List ℕ
unslashed [] = []
unslashed (b ∷ bs) = if is_slashes (b ∷ bs) then [] else b ∷ unslashed bs

-- The text without its final slashes, unless it is slashes alone. (own)
unfoldable pub without_slashes : List ℕ → List ℕ
without_slashes text = if is_slashes text then text else unslashed text
