-- A text as signs: the calls in it, and each byte of the bare text around them.
use Rattle.std.specs.Prelude.{ℕ, List, [], ◌∷◌, ◌++◌, take, map}
use Rattle.m4quote.specs.ItemValue.{ItemValue}
use Rattle.m4quote.specs.Spelling.{Spells, nothing, bare_text, dropped_line, bare_name, with_arguments}

-- A call at an offset, or a byte outside calls. (own)
pub data Sign : Type 0 where
  call_sign : (at : ℕ) → Sign
  byte_sign : (b : ℕ) → Sign

-- A sign for each byte. (own)
abbrev pub bytes : List ℕ → List Sign
bytes text = map byte_sign text

-- A newline. (own)
abbrev pub newline : ℕ
newline = 10

-- The signs of a text that spells items. A call is one sign, with all of its arguments. Bare text is
-- a sign for each byte. A `dnl` line counts as a newline. (own)
abbrev pub signs_of : {at : ℕ} {text : List ℕ} {items : List ItemValue} → Spells at text items → List Sign
signs_of nothing = []
signs_of (bare_text {at} {n} {kind} {text} {items} front is_bare rest) = bytes (take n text) ++ signs_of rest
signs_of (dropped_line {at} {n} {text} {items} front rest) = byte_sign newline ∷ signs_of rest
signs_of (bare_name {at} {n} {text} {items} front alone rest) = call_sign at ∷ signs_of rest
signs_of (with_arguments {at} {n} {m} {text} {inside} {args} {items} front paren given rest) =
    call_sign at ∷ signs_of rest
