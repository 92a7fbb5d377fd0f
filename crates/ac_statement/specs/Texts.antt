-- Forms of texts, and arguments by their index.
use Rattle.std.specs.Prelude.{ℕ, slice_index_or, Bool, not, ◌||◌, ◌==◌, List, [], ◌∷◌}
use Rattle.std.specs.List.{list_all, list_any}
use Rattle.std.specs.Str.{bytes_eq}
use Rattle.m4quote.specs.ItemValue.{Span}
use Rattle.text_cut.specs.Cuts.{is_blank}

-- A bracket, `[` or `]`. (own)
abbrev pub is_bracket : ℕ → Bool
is_bracket b = b == 91 || b == 93

-- The text has blanks alone. (own)
abbrev pub is_all_blank : List ℕ → Bool
is_all_blank text = list_all is_blank text

-- The text has no newline. (own)
abbrev pub is_line : List ℕ → Bool
is_line text = list_all (λ b. not (b == 10)) text

-- The text, or another if it is empty. (own)
abbrev pub or_else : List ℕ → List ℕ → List ℕ
or_else [] other = other
or_else (b ∷ bs) other = b ∷ bs

-- The text is one of the list. (own)
abbrev pub has : List (List ℕ) → List ℕ → Bool
has texts t = list_any (λ u. bytes_eq u t) texts

-- The argument at i, or an empty one at offset 0 if there is none. (own)
abbrev pub arg_at : List Span → ℕ → Span
arg_at args i = slice_index_or args i (record { text = []; at = 0 })
