-- How many checks a text has, counted byte by byte.
use Rattle.std.specs.Prelude.{ℕ, ◌+◌, ◌-◌, ◌^◌, min, nat_lt, ◌==◌, Bool, false, List, fold, codes, slice_get, Option, Some, None, if◌then◌else◌}
use Rattle.crew_tally.specs.declared.tally.LinePlace.{LinePlace}
use Rattle.crew_tally.specs.declared.tally.LinePlace.TheVariants.{Front, Check, Other}
use Rattle.crew_tally.specs.declared.tally.Tally.{Tally}

-- The tally of an empty text. (own)
abbrev pub none : Tally
none = record { checks = 0; cached = 0; place = Front 0 }

-- A count that may go up to 2^64 - 1, with one more. (own)
abbrev pub one_more : ℕ → ℕ
one_more n = min (n + 1) (2 ^ 64 - 1)

-- Whether there is such a byte. (own)
abbrev pub is_byte : Option ℕ → ℕ → Bool
is_byte None byte = false
is_byte (Some b) byte = b == byte

-- Whether a word has this byte after so many others. (own)
abbrev pub has_at : List ℕ → ℕ → ℕ → Bool
has_at word count byte = is_byte (slice_get word count) byte

-- How many bytes of a word a text ends with after one more byte, if it ended with so many before. No
-- byte of the word but its first is equal to the first. (own)
abbrev pub matched : List ℕ → ℕ → ℕ → ℕ
matched word count byte =
    if has_at word count byte then count + 1 else if has_at word 0 byte then 1 else 0

-- The tally after a byte at the front of a line, after so many bytes of the front of a check: it is
-- one more of them, and perhaps the last, or the line is no check. (own)
abbrev pub after_front : ℕ → ℕ → Tally → Tally
after_front count byte t =
    if has_at (codes "checking ") count byte
    then if nat_lt (count + 1) 9
    then record t { place = Front (count + 1) }
    else record t { checks = one_more t.checks; place = Check 0 }
    else record t { place = Other }

-- The tally after a byte in a line of a check that ends with so many bytes of the mark now. (own)
abbrev pub after_marked : ℕ → Tally → Tally
after_marked count t =
    if nat_lt count 9
    then record t { place = Check count }
    else record t { cached = one_more t.cached; place = Other }

-- The tally after a byte that ends no line, by the place. (own)
abbrev pub after_inside : LinePlace → ℕ → Tally → Tally
after_inside (Front count) byte t = after_front count byte t
after_inside (Check count) byte t = after_marked (matched (codes "(cached) ") count byte) t
after_inside Other byte t = t

-- The tally after one more byte. (own)
unfoldable pub after_byte : Tally → ℕ → Tally
after_byte t byte = if byte == 10 then record t { place = Front 0 } else after_inside t.place byte t

-- The tally after a text that follows. (own)
abbrev pub after_text : Tally → List ℕ → Tally
after_text t text = fold after_byte t text
