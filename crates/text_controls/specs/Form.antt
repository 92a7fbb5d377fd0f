-- The form in which a text is shown on a terminal. (own)
use Rattle.std.specs.Prelude.{ℕ, ◌+◌, ◌-◌, ◌*◌, ◌/◌, ◌%◌, ◌==◌, ◌&&◌, ◌||◌, nat_lt, nat_le, not, Bool, List, [], ◌∷◌, ◌++◌, fold, if◌then◌else◌}
use Rattle.text_controls.specs.declared.awaited.Awaited.{Awaited}

-- The lower-case hexadecimal digit of a number below 16. (own)
abbrev pub digit : ℕ → ℕ
digit n = if nat_lt n 10 then 48 + n else 87 + n

-- A byte that isn't shown as it is: a backslash, `x`, and its two hexadecimal digits. (own)
abbrev pub escape : ℕ → List ℕ
escape b = 92 ∷ 120 ∷ digit (b / 16) ∷ digit (b % 16) ∷ []

-- No character has begun. (own)
abbrev pub nothing : Awaited
nothing = record { low = 1; high = 0; more = 0; number = 0 }

-- The byte is one that is awaited. (own)
abbrev pub continues : Awaited → ℕ → Bool
continues w b = nat_le w.low b && nat_le b w.high

-- What is lacking after the first byte of a character of UTF-8. The characters 0x80 to 0x9f, which are control
-- characters, are none here. (The Unicode Standard, table 3-7, "Well-Formed UTF-8 Byte Sequences"; that control
-- characters are none is own).
unfoldable pub after_first : ℕ → Awaited
after_first b =
    if nat_le 194 b && nat_le b 223
    then record { low = if b == 194 then 160 else 128; high = 191; more = 0; number = b % 32 }
    else (if nat_le 224 b && nat_le b 239
    then record { low = if b == 224 then 160 else 128; high = if b == 237 then 159 else 191; more = 1; number = b % 16 }
    else (if nat_le 240 b && nat_le b 244
    then record { low = if b == 240 then 144 else 128; high = if b == 244 then 143 else 191; more = 2; number = b % 8 }
    else nothing))

-- The bits of a character's number that its bytes have, after one more byte. The number of a character has 21 bits, so 15 are
-- kept before its last byte. (The Unicode Standard, table 3-6, "UTF-8 Bit Distribution")
abbrev pub number_after : Awaited → ℕ → ℕ
number_after w b = w.number % 32768 * 64 + b % 64

-- The character of this number turns or hides text: U+061C, U+200B to U+200F, U+2028 to U+202E, U+2066 to U+2069, U+FEFF, or
-- U+E0000 to U+E007F. (The Unicode Standard, 23.2 "Layout Controls", 23.8 "Specials" and 23.9 "Tag Characters", for which
-- characters those are; that the two separators of lines and of paragraphs are among them is own)
abbrev pub is_mark : ℕ → Bool
is_mark n =
    (n == 0x61c)
    || (nat_le 0x200b n && nat_le n 0x200f)
    || (nat_le 0x2028 n && nat_le n 0x202e)
    || (nat_le 0x2066 n && nat_le n 0x2069)
    || (n == 0xfeff)
    || (nat_le 0xe0000 n && nat_le n 0xe007f)

-- The byte is the last one of a character that turns or hides text. (own)
abbrev pub ends_mark : Awaited → ℕ → Bool
ends_mark w b = continues w b && (w.more == 0) && is_mark (number_after w b)

-- What is lacking after one more byte. (own)
unfoldable pub after : Awaited → ℕ → Awaited
after w b =
    if continues w b
    then (if w.more == 0 then nothing else record { low = 128; high = 191; more = w.more - 1; number = number_after w b })
    else after_first b

-- The control bytes, but newline and tab. (ECMA-48, 5.2 and 5.3).
abbrev pub is_control : ℕ → Bool
is_control b = (nat_lt b 32 && not (b == 9 || b == 10)) || (nat_le 127 b && nat_le b 159)

-- The byte is a control byte, and continues no character, or is the last one of a character that turns or hides text. (own)
unfoldable pub is_escaped : Awaited → ℕ → Bool
is_escaped w b = ends_mark w b || (not (continues w b) && is_control b)

-- What is lacking after a text. (own)
abbrev pub awaited_after : Awaited → List ℕ → Awaited
awaited_after w text = fold after w text

-- The text as it is shown after a text that leaves this lacking. (own)
abbrev pub shown : Awaited → List ℕ → List ℕ
shown w [] = []
shown w (b ∷ bs) = (if is_escaped w b then escape b else b ∷ []) ++ shown (after w b) bs
