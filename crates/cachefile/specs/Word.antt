-- The shell words of a cache file and their values. In a braced word, one that is inside `${V=W}`, a bare `}` has no place.
use Rattle.std.specs.Prelude.{◌≡◌, ℕ, ◌==◌, ◌||◌, ◌&&◌, not, Bool, true, false, List, [], ◌∷◌, ◌++◌, Option, Some, None, option_map, option_and_then, flat_map, if◌then◌else◌}
use Rattle.std.specs.List.{list_all}
use Rattle.std.specs.Char.{is_ascii_alphanumeric}
use Rattle.cachefile.specs.declared.word.Quoting.{Quoting}
use Rattle.cachefile.specs.declared.word.Quoting.TheVariants.{Unquoted, Single, Double, Escaped}

-- ---- by their forms

-- Whether the byte stands for itself outside quotes: it is no space, tab, newline, `'`, `"`, `\`, `$`, `` ` ``, `;`, `&`, `|`,
-- `<`, `>`, `(` or `)`, and in a braced word no `}`. (POSIX shell, 2.2, without the bytes that only a pattern or a tilde
-- makes special)
abbrev pub is_bare : Bool → ℕ → Bool
is_bare braced b =
    not (b == 32 || b == 9 || b == 10 || b == 39 || b == 34 || b == 92 || b == 36 || b == 96
    || b == 59 || b == 38 || b == 124 || b == 60 || b == 62 || b == 40 || b == 41 || (braced && b == 125))

-- Whether the byte stands for itself in double quotes: it is no `"`, `$`, `` ` `` or `\`. (POSIX shell, 2.2.3)
abbrev pub is_double_quoted : ℕ → Bool
is_double_quoted b = not (b == 34 || b == 36 || b == 96 || b == 92)

-- The text is a word, and this is its value: a sequence of texts in single quotes, texts in double quotes without `$`,
-- `` ` `` and `\`, backslashes each with a byte after it, and bare bytes. (POSIX shell, 2.2)
pub data IsWord (braced : Bool) : List ℕ → List ℕ → Type 0 where
  no_more : IsWord braced [] []
  single : (inside rest : List ℕ) {value : List ℕ} → list_all (λ b. not (b == 39)) inside ≡ true → IsWord braced rest value
      → IsWord braced (39 ∷ (inside ++ 39 ∷ rest)) (inside ++ value)
  double : (inside rest : List ℕ) {value : List ℕ} → list_all is_double_quoted inside ≡ true → IsWord braced rest value
      → IsWord braced (34 ∷ (inside ++ 34 ∷ rest)) (inside ++ value)
  escaped : {b : ℕ} {rest value : List ℕ} → IsWord braced rest value → IsWord braced (92 ∷ b ∷ rest) (b ∷ value)
  bare : {b : ℕ} {rest value : List ℕ} → is_bare braced b ≡ true → IsWord braced rest value → IsWord braced (b ∷ rest) (b ∷ value)

-- ---- as a function

-- The byte, if it is part of the value. (own)
abbrev pub added : Bool → ℕ → List ℕ
added true b = b ∷ []
added false b = []

-- The quoting after a byte and what the byte adds to the value, or none if it can't be here. (own)
unfoldable pub step : Bool → Quoting → ℕ → Option (Quoting × List ℕ)
step braced Unquoted b =
    if b == 39 then Some (Single, [])
    else (if b == 34 then Some (Double, [])
    else (if b == 92 then Some (Escaped, [])
    else (if is_bare braced b then Some (Unquoted, b ∷ []) else None)))
step braced Single b = if b == 39 then Some (Unquoted, []) else Some (Single, b ∷ [])
step braced Double b =
    if b == 34 then Some (Unquoted, []) else (if b == 36 || b == 96 || b == 92 then None else Some (Double, b ∷ []))
step braced Escaped b = Some (Unquoted, b ∷ [])

-- The rest of the value at the end of a word, or none if a quote or a backslash is open. (own)
abbrev pub at_end : Quoting → Option (List ℕ)
at_end Unquoted = Some []
at_end quoting = None

-- The value of the rest of a word, from this quoting on. (own)
unfoldable pub value_from : Bool → Quoting → List ℕ → Option (List ℕ)
value_from braced quoting [] = at_end quoting
value_from braced quoting (b ∷ bs) =
    option_and_then (λ s. option_map (λ v. s.1 ++ v) (value_from braced s.0 bs)) (step braced quoting b)

-- The value of a text that is a word, and otherwise none. (own)
abbrev pub value_in : Bool → List ℕ → Option (List ℕ)
value_in braced w = value_from braced Unquoted w

-- ---- as they are written

-- Whether the byte is written without quotes: a letter, a digit or one of `_./:,+-`. (own)
abbrev pub is_safe : ℕ → Bool
is_safe b = is_ascii_alphanumeric b || b == 95 || b == 46 || b == 47 || b == 58 || b == 44 || b == 43 || b == 45

-- The byte in single quotes: `'\''` for `'`, and otherwise itself. (own)
abbrev pub quoted_byte : ℕ → List ℕ
quoted_byte b = if b == 39 then 39 ∷ 92 ∷ 39 ∷ 39 ∷ [] else b ∷ []

-- The text in single quotes, without the first and the last quote. (own)
abbrev pub quoted_text : List ℕ → List ℕ
quoted_text v = flat_map quoted_byte v

-- The word that is written for a value: the value if all its bytes are safe, and otherwise it in single quotes. (own)
unfoldable pub word_of : List ℕ → List ℕ
word_of v = if list_all is_safe v then v else 39 ∷ (quoted_text v ++ 39 ∷ [])
