-- What is shown of a text in so many columns. (own)
use Rattle.std.specs.Prelude.{◌≡◌, ℕ, ◌-◌, ◌≤◌, ◌<◌, ◌&&◌, nat_le, Bool, true, false, List, [], ◌∷◌, ◌++◌, flat_map, length, if◌then◌else◌}
use Rattle.text_controls.specs.Form.{escape}

-- The byte if it is printable ASCII, and otherwise `\x` and its two hexadecimal digits. (own)
unfoldable pub shown_byte : ℕ → List ℕ
shown_byte b = if nat_le 32 b && nat_le b 126 then b ∷ [] else escape b

-- The bytes of a text that fit in so many columns, up to the first that doesn't. (own)
abbrev pub fitting : ℕ → List ℕ → List ℕ
fitting columns [] = []
fitting columns (b ∷ bs) =
    if nat_le (length (shown_byte b)) columns then shown_byte b ++ fitting (columns - length (shown_byte b)) bs else []

-- A text in the columns of the line of a terminal. (own)
unfoldable pub shown : List ℕ → List ℕ
shown text = fitting 79 text

-- A line of so many columns shows this text: whole if it isn't cut, and if it is, so much of it that nothing more fits, whatever
-- follows. (own)
pub record IsShowing (columns : ℕ) (line : List ℕ) (is_cut : Bool) (text : List ℕ) : Type 0 where
  pub fits : length line ≤ columns
  pub whole : is_cut ≡ false → line ≡ flat_map shown_byte text
  pub cut : is_cut ≡ true → (more : List ℕ) → fitting columns (text ++ more) ≡ line
  pub over : is_cut ≡ true → columns < length (flat_map shown_byte text)
