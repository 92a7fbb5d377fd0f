-- The warnings that something means another thing to Autoconf. tools/word_table.py writes this file from words.txt, where they have a
-- mark of their own.
use Rattle.std.specs.Prelude.{ℕ, List, [], ◌∷◌, Bool, bytes_eq, codes}
use Rattle.std.specs.List.{list_any}

-- Their codes.
abbrev pub differences : List (List ℕ)
differences = codes "backslash-in-message" ∷ codes "blank-before-comma" ∷ codes "quote-in-value" ∷ codes "list-on-lines" ∷ codes "forbidden-name" ∷ codes "ampersand-in-output" ∷ codes "dnl-in-list" ∷ codes "hash-in-message" ∷ codes "comma-in-name" ∷ codes "library-main" ∷ codes "dnl-action" ∷ codes "empty-quotes" ∷ codes "blank-in-name" ∷ codes "empty-value" ∷ codes "empty-case" ∷ codes "semicolon-after-call" ∷ codes "login-shell" ∷ codes "script-variable" ∷ codes "tilde" ∷ codes "dollar-quote" ∷ codes "fewer-includes" ∷ codes "quoted-includes" ∷ codes "macro-in-text" ∷ codes "no-newline-at-end" ∷ codes "default-headers" ∷ []

-- The code is that of a warning that something means another thing to Autoconf.
unfoldable pub is_difference : List ℕ → Bool
is_difference code = list_any (λ other. bytes_eq other code) differences
