-- Values in a line: a backslash is written as `\\`, a newline as `\n`, and each other byte as itself.
use Rattle.std.specs.Prelude.{ℕ, Bool, true, false, ◌==◌, List, [], ◌∷◌, ◌++◌, Option, Some, None, option_and_then, option_map, if◌then◌else◌}
use Rattle.std.specs.List.{flat_map}

-- A byte of a value, as it is written in a line. (own)
unfoldable pub escaped_byte : ℕ → List ℕ
escaped_byte b = if b == 92 then 92 ∷ 92 ∷ [] else (if b == 10 then 92 ∷ 110 ∷ [] else b ∷ [])

-- A value, as it is written in a line. (own)
abbrev pub escaped : List ℕ → List ℕ
escaped value = flat_map escaped_byte value

-- The byte that a backslash and this byte are written for, or none if they are no escape. (own)
unfoldable pub byte_after_backslash : ℕ → Option ℕ
byte_after_backslash b = if b == 92 then Some 92 else (if b == 110 then Some 10 else None)

-- The value after one more byte, and whether that byte is the backslash of an escape; or none if the byte can't be here.
-- `in_escape` is whether the byte before it is such a backslash. A newline is part of no line. (own)
unfoldable pub with_byte : Bool → List ℕ → ℕ → Option (Bool × List ℕ)
with_byte true value b = option_map (λ m. (false, value ++ m ∷ [])) (byte_after_backslash b)
with_byte false value b =
    if b == 92 then Some (true, value) else (if b == 10 then None else Some (false, value ++ b ∷ []))

-- The value so far followed by that of the text, or none if the text is no escaped value. (own)
unfoldable pub unescaped_from : Bool → List ℕ → List ℕ → Option (List ℕ)
unescaped_from in_escape value [] = if in_escape then None else Some value
unescaped_from in_escape value (b ∷ bs) = option_and_then (λ s. unescaped_from s.0 s.1 bs) (with_byte in_escape value b)

-- The value of a text that is an escaped value, and otherwise none. (own)
abbrev pub unescaped : List ℕ → Option (List ℕ)
unescaped text = unescaped_from false [] text
