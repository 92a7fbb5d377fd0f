-- The warnings about templates that `port` counts as left to do. tools/word_table.py writes this file from words.txt, where they have a
-- mark of their own. (own)
use Rattle.std.specs.Prelude.{ℕ, List, [], ◌∷◌, Bool, bytes_eq, codes}
use Rattle.std.specs.List.{list_any}

-- Their codes.
abbrev pub lefts : List (List ℕ)
lefts = codes "set-by-autoconf" ∷ codes "no-datarootdir" ∷ codes "config-status-script" ∷ codes "automake-template" ∷ codes "no-flags" ∷ []

-- The code is that of a warning about a template that is left to do.
unfoldable pub is_left : List ℕ → Bool
is_left code = list_any (λ other. bytes_eq other code) lefts
