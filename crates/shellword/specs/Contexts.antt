-- The meaning of a byte in its context, as the reader sees it. All of it is own, except for the rules that Text names.
use Rattle.std.specs.Prelude.{ℕ, Bool, true, false, List, [], ◌∷◌, Option, Some, None, ◌==◌, if◌then◌else◌}
use Rattle.shellword.specs.declared.part.Part.{Part}
use Rattle.shellword.specs.declared.part.Part.TheVariants.{Plain, Quoted}
use Rattle.shellword.specs.declared.front.Context.{Context}
use Rattle.shellword.specs.declared.front.Context.TheVariants.{Bare, Single, Double, Here}
use Rattle.shellword.specs.Text.{single_quote, newline, close_brace, expands_bare, expands_in_double, expands_here, escapes_in_double, escapes_here, begins, ends_word}

-- The byte has a special meaning. (own)
abbrev pub is_special : Context → ℕ → Bool
is_special Bare b = expands_bare b
is_special Single b = b == single_quote
is_special Double b = expands_in_double b
is_special Here b = expands_here b

-- A backslash before the byte is dropped. (own)
abbrev pub escapes : Context → ℕ → Bool
escapes Bare b = true
escapes Single b = false
escapes Double b = escapes_in_double b
escapes Here b = escapes_here b

-- The text begins with a byte before which a backslash is dropped. (own)
abbrev pub escapes_front : Context → List ℕ → Bool
escapes_front c text = begins (escapes c) text

-- The part that a byte after a dropped backslash produces: the byte itself, but none for a newline in a here text.
-- (own)
abbrev pub escaped_part : Context → ℕ → Option Part
escaped_part Here b = if b == newline then None else Some (Quoted b)
escaped_part c b = Some (Quoted b)

-- The part of an ordinary byte: plain, or quoted. (own)
abbrev pub byte_in : Context → ℕ → Part
byte_in Bare b = Plain b
byte_in Single b = Quoted b
byte_in Double b = Quoted b
byte_in Here b = Plain b

-- The text begins with `}`. (own)
abbrev pub closes_brace : List ℕ → Bool
closes_brace [] = false
closes_brace (b ∷ bs) = b == close_brace

-- The word or here text ends before this text, unless it is in quotes. (own)
abbrev pub is_over : Context → List ℕ → Bool
is_over c [] = true
is_over Bare (b ∷ bs) = ends_word b
is_over c (b ∷ bs) = false

-- The context is in quotes. (own)
abbrev pub is_quoted : Context → Bool
is_quoted Single = true
is_quoted Double = true
is_quoted c = false
