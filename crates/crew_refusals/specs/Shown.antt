-- How bytes are shown: a line without control bytes.
use Rattle.std.specs.Prelude.{◌≡◌, ℕ, ◌+◌, ◌/◌, ◌%◌, ◌==◌, ◌&&◌, ◌||◌, nat_lt, Bool, false, not, List, [], ◌∷◌, ◌++◌, All, codes, if◌then◌else◌}
use Rattle.std.specs.List.{flat_map}
use Rattle.std.specs.Str.{is_utf8}

-- The hexadecimal digit of a number below 16. (own)
abbrev pub digit : ℕ → ℕ
digit n = if nat_lt n 10 then 48 + n else 87 + n

-- Whether a byte is a control byte (ASCII).
abbrev pub is_control : ℕ → Bool
is_control b = nat_lt b 32 || b == 127

-- A byte of a text, by whether the text is UTF-8: `\xNN` for a control byte, and for a byte above 127 of a text that
-- isn't. (own)
unfoldable pub shown_byte : Bool → ℕ → List ℕ
shown_byte is_text b =
    if is_control b || (nat_lt 127 b && not is_text) then 92 ∷ 120 ∷ digit (b / 16) ∷ digit (b % 16) ∷ [] else b ∷ []

-- The bytes of a text, by whether it is UTF-8. (own)
abbrev pub shown_with : Bool → List ℕ → List ℕ
shown_with is_text text = flat_map (shown_byte is_text) text

-- A text as it is shown. (own)
unfoldable pub shown : List ℕ → List ℕ
shown text = shown_with (is_utf8 text) text

-- It has no control byte, and no newline in particular. (own)
abbrev pub IsShown : List ℕ → Type 0
IsShown text = All (λ b. is_control b ≡ false) text

-- The line of a name and some words, both as they are shown. (own)
unfoldable pub line_of : List ℕ → List ℕ → List ℕ
line_of name words = shown name ++ codes ": " ++ shown words

-- It is the line of this name and of some words. (own)
pub record IsCauseOf (name cause : List ℕ) : Type 0 where
  pub words : List ℕ
  pub is : cause ≡ line_of name words
