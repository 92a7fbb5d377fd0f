-- Bare text that has no effect. (POSIX shell, "Token Recognition": blanks, and comments from a `#` that begins a word)
use Rattle.std.specs.Prelude.{ℕ, Bool, true, false, not, ◌==◌, List, [], ◌∷◌, Option, Some, None, Result, Ok, Err, if◌then◌else◌}
use Rattle.m4quote.specs.declared.fault.QuoteFault.{QuoteFault}
use Rattle.m4quote.specs.Scan.{bare_value_of}
use Rattle.text_cut.specs.Cuts.{is_blank}

-- Whether a comment is open after a byte, or nothing if the byte is neither a blank nor in a comment; a comment ends
-- with its line. (POSIX shell, "Token Recognition")
abbrev pub after_byte : Bool → ℕ → Option Bool
after_byte true b = Some (not (b == 10))
after_byte false b = if b == 35 then Some true else (if is_blank b then Some false else None)

-- The text has blanks and comments alone, given whether a comment is open before it. (own)
unfoldable pub is_idle_from : Bool → List ℕ → Bool
is_idle_from in_comment [] = true
is_idle_from in_comment (b ∷ bs) = elim (after_byte in_comment b) [ Some comment ↦ is_idle_from comment bs | None ↦ false ]

-- The value can be read, and has blanks and comments alone. (own)
abbrev pub is_idle_value : Result (List ℕ) QuoteFault → Bool
is_idle_value (Ok value) = is_idle_from false value
is_idle_value (Err f) = false

-- The value of the bare text has blanks and comments alone. (own)
unfoldable pub is_idle : List ℕ → Bool
is_idle text = is_idle_value (bare_value_of text)
