-- The form of the names of cached values.
use Rattle.std.specs.Prelude.{ℕ, Bool, false, ◌&&◌, ◌||◌, List, [], ◌∷◌, codes, nat_eq}
use Rattle.std.specs.List.{starts_with}
use Rattle.deftable.specs.ShellName.{is_shell_name_of}

-- Whether the text contains `_cv_`. (Autoconf's manual, "Cache Variable Names")
unfoldable pub has_cv : List ℕ → Bool
has_cv [] = false
has_cv (b ∷ bs) = starts_with nat_eq (b ∷ bs) (codes "_cv_") || has_cv bs

-- Whether the text is a cache name: a shell name that contains `_cv_`. (Autoconf's manual, "Cache Variable Names")
unfoldable pub is_cache_name : List ℕ → Bool
is_cache_name name = is_shell_name_of name && has_cv name
