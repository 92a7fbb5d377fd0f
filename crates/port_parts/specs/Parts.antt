-- What ends a part of a compound statement of a shell. The offsets are those of the text.
use Rattle.std.specs.Prelude.{◌≡◌, ◌⊎◌, ℕ, ◌-◌, ◌+◌, ◌<◌, ◌≤◌, ◌==◌, Bool, false, List, [], ◌∷◌, length, slice_range, slice_index}
use Rattle.std.specs.List.{list_any}
use Rattle.m4quote.specs.ItemValue.{bare}
use Rattle.m4quote.specs.Spelling.{IsSpelling}
use Rattle.port_parts.specs.Places.{AreBlank, AreSpaces, BeginsStatement, EndsStatement, HasDnl, HasNoHash, IsWord, KeepsNewline}

-- The byte is a newline. (own)
abbrev pub is_newline : ℕ → Bool
is_newline b = b == 10

-- The newline at this offset ends a comment of a shell, if there is one. m4 drops a newline after `dnl`, and a comment would go on in the next
-- line: so m4 keeps it, or no `#` is before it from `start` on. (own)
unfoldable pub EndsLine : List ℕ → ℕ → ℕ → Type 0
EndsLine text start newline = KeepsNewline text start newline ⊎ HasNoHash (slice_range text start newline)

-- A line begins at this offset: the text begins there, or the newline before it ends a comment.
abbrev pub BeginsLine : List ℕ → ℕ → Type 0
BeginsLine text at = (at ≡ 0) ⊎ ((0 < at) × (slice_index text (at - 1) ≡ 10) × EndsLine text 0 (at - 1))

-- From the start of some line on, the text has neither a `#` nor `dnl`. (own)
pub record HasPlainEnd (text : List ℕ) : Type 0 where
  pub line : ℕ
  pub within : line ≤ length text
  pub begins : BeginsLine text line
  pub no_comment : HasNoHash (slice_range text line (length text))
  pub no_dnl : HasDnl (slice_range text line (length text)) → ⊥

-- No backslash is right before this offset. After one, what follows would be a part of the word. (POSIX shell, 2.2.1)
abbrev pub IsNotEscaped : List ℕ → ℕ → Type 0
IsNotEscaped text at = slice_index text (at - 1) ≡ 92 → ⊥

-- Between these offsets are spaces, a `;` or a newline, and blanks: the end of a list of commands. No backslash is before it. (POSIX shell,
-- 2.9.3)
pub record IsListEnd (text : List ℕ) (start end : ℕ) : Type 0 where
  pub at : ℕ
  pub order : (start ≤ at) × (at < end)
  pub not_escaped : IsNotEscaped text start
  pub spaces : AreSpaces text start at
  pub is : (slice_index text at ≡ 59) ⊎ (slice_index text at ≡ 10)
  pub blanks : AreBlank text (at + 1) end

-- Between these offsets are spaces, a `;`, and spaces. No backslash is before them. (POSIX shell, 2.9.3)
pub record IsSemicolon (text : List ℕ) (start end : ℕ) : Type 0 where
  pub at : ℕ
  pub order : (start ≤ at) × (at < end)
  pub not_escaped : IsNotEscaped text start
  pub before : AreSpaces text start at
  pub is : slice_index text at ≡ 59
  pub after : AreSpaces text (at + 1) end

-- The last line of the text before `end` has nothing but spaces. Neither a backslash nor a comment joins it to the line before. (POSIX shell,
-- 2.2.1 and 2.3)
pub record IsAtLineStart (text : List ℕ) (start end : ℕ) : Type 0 where
  pub newline : ℕ
  pub order : (start ≤ newline) × (newline < end)
  pub is : slice_index text newline ≡ 10
  pub not_joined : slice_index text (newline - 1) ≡ 92 → ⊥
  pub ends : EndsLine text start newline
  pub spaces : AreSpaces text (newline + 1) end

-- A `;` is after a body, whose last line has neither a `#` nor `dnl`. (POSIX shell, 2.9.3)
pub record IsBeforeSemicolon (text : List ℕ) (from to end : ℕ) : Type 0 where
  pub after : IsSemicolon text to end
  pub last : HasPlainEnd (slice_range text from to)

-- The last body before `fi` or `esac`, or the one before another keyword of an `if`, ends in the newline of its last line, or before a `;`.
abbrev pub EndsLast : List ℕ → ℕ → ℕ → ℕ → Type 0
EndsLast text from to end = ((to ≡ end) × IsAtLineStart text from to) ⊎ IsBeforeSemicolon text from to end

-- Between two offsets is this body, which ends so.
pub record IsBodyOf (Ends : List ℕ → ℕ → ℕ → ℕ → Type 0) (text : List ℕ) (start end : ℕ) (body : List ℕ) : Type 0 where
  pub from : ℕ
  pub to : ℕ
  pub order : (start ≤ from) × (from ≤ to) × (to ≤ end)
  pub before : AreSpaces text start from
  pub ends : Ends text from to end
  pub is : body ≡ slice_range text from to

-- The text is on one line, and has no `#`. m4 finds neither a macro nor `dnl` in it. (own)
pub record IsPlainLine (part : List ℕ) : Type 0 where
  pub one_line : list_any is_newline part ≡ false
  pub no_comment : HasNoHash part
  pub plain : IsSpelling 0 part (bare part 0 ∷ [])

-- From `start` to `end` a statement of its own may be, which ends in this word.
pub record IsStatement (text : List ℕ) (start : ℕ) (last : List ℕ) (at end : ℕ) : Type 0 where
  pub word : IsWord text at last end
  pub begins : BeginsStatement text start
  pub ends : EndsStatement text end
