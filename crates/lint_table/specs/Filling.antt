-- Words with places, and what is put in the places. All of this is own.
use Rattle.std.specs.Prelude.{ℕ, ◌-◌, ◌==◌, ◌&&◌, ◌||◌, nat_lt, nat_le, Bool, List, [], ◌∷◌, ◌++◌, length, take, slice_get, Option, Some, None, codes, decimal, if◌then◌else◌}
use Rattle.std.specs.List.{flat_map}
use Rattle.text_controls.specs.Form.{escape}
use Rattle.lint_table.specs.declared.part.WordPart.{WordPart}
use Rattle.lint_table.specs.declared.part.WordPart.TheVariants.{AsItIs, Quoted, Value, Number}

-- A byte of a text that is quoted: a control byte is `\xNN`.
abbrev pub visible : ℕ → List ℕ
visible b = if nat_lt b 32 || b == 127 then escape b else b ∷ []

-- What is after the front of a text that has more bytes than are quoted.
abbrev pub dots : ℕ → List ℕ → List ℕ
dots most text = if nat_lt most (length text) then codes ".." else []

-- A text between backquotes. Of one that has more bytes than a number it is the front, and two dots.
unfoldable pub quoted : ℕ → List ℕ → List ℕ
quoted most text = codes "`" ++ flat_map visible (take most text) ++ dots most text ++ codes "`"

-- A part as it is shown.
abbrev pub shown : WordPart → List ℕ
shown (AsItIs text) = text.now
shown (Quoted text) = quoted 60 text.now
shown (Value text) = quoted 1000 text.now
shown (Number n) = decimal n

-- The part that is put in a place. A place that has no part is left empty.
abbrev pub shown_or : Option WordPart → List ℕ
shown_or (Some part) = shown part
shown_or None = []

-- A byte of the words: 1, 2 and 3 are the places of the first part, the second and the third, and any other byte stays as it is.
abbrev pub placed : List WordPart → ℕ → List ℕ
placed parts b = if nat_le 1 b && nat_le b 3 then shown_or (slice_get parts (b - 1)) else b ∷ []

-- Words with their places filled: each byte by itself, so no part is read again for places.
unfoldable pub filled : List WordPart → List ℕ → List ℕ
filled parts words = flat_map (placed parts) words

-- What is written on a page: what is wrong, what to do, and whether that is all that was put on it.
pub record Written : Type 0 where
  pub message : List ℕ
  pub help : List ℕ
  pub is_whole : Bool
