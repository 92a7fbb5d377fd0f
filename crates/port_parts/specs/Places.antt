-- Places of a text. The offsets are those of the text. All of this is own.
use Rattle.std.specs.Prelude.{◌≡◌, ◌⊎◌, ℕ, ◌-◌, ◌+◌, ◌<◌, ◌≤◌, ◌==◌, ◌||◌, Bool, true, false, List, length, slice_range, slice_index, codes}
use Rattle.std.specs.List.{list_all, list_any}
pub use Rattle.text_cut.specs.Cuts.{is_space_or_return, is_blank_or_return}

-- Between these offsets there are blanks alone.
abbrev pub AreBlank : List ℕ → ℕ → ℕ → Type 0
AreBlank text start end = list_all is_blank_or_return (slice_range text start end) ≡ true

-- Between these offsets there are spaces alone.
abbrev pub AreSpaces : List ℕ → ℕ → ℕ → Type 0
AreSpaces text start end = list_all is_space_or_return (slice_range text start end) ≡ true

-- Between these offsets of the text is this word.
abbrev pub IsWord : List ℕ → ℕ → List ℕ → ℕ → Type 0
IsWord text start word end = (end ≤ length text) × (slice_range text start end ≡ word)

-- ---- lines, and what m4 and a shell make of their ends

-- A `#`, which may begin a comment.
abbrev pub is_hash : ℕ → Bool
is_hash b = b == 35

-- The text has no `#`.
abbrev pub HasNoHash : List ℕ → Type 0
HasNoHash text = list_any is_hash text ≡ false

-- The text has this word at some place.
abbrev pub Has : List ℕ → List ℕ → Type 0
Has word text = (at : ℕ) × (at < length text) × IsWord text at word (at + length word)

-- The text has `dnl` at some place.
abbrev pub HasDnl : List ℕ → Type 0
HasDnl text = Has (codes "dnl") text

-- The line that ends at this newline has no `dnl` from `start` on, so m4 keeps the newline.
pub record KeepsNewline (text : List ℕ) (start newline : ℕ) : Type 0 where
  pub line : ℕ
  pub order : (line ≤ newline) × (newline ≤ length text)
  pub begins : (line ≡ start) ⊎ (slice_index text (line - 1) ≡ 10)
  pub no_dnl : HasDnl (slice_range text line newline) → ⊥

-- The line at this offset begins with `dnl`.
pub record IsDnlLine (text : List ℕ) (line : ℕ) : Type 0 where
  pub at : ℕ
  pub order : line ≤ at
  pub spaces : AreSpaces text line at
  pub word : IsWord text at (codes "dnl") (at + 3)

-- The line between these offsets begins no comment of a shell: m4 drops it, or it has no `#`.
pub record AddsNoComment (text : List ℕ) (line newline : ℕ) : Type 0 where
  pub order : line ≤ newline
  pub none : IsDnlLine text line ⊎ HasNoHash (slice_range text line newline)

-- The newline at this offset ends a comment of a shell, if there is one: m4 keeps it, since its line has no `dnl`. Otherwise its line
-- begins no comment, and is the first one, or the newline before it ends a comment.
pub data EndsComment (text : List ℕ) : ℕ → Type 0 where
  kept : {newline : ℕ} → KeepsNewline text 0 newline → EndsComment text newline
  first : {newline : ℕ} → AddsNoComment text 0 newline → EndsComment text newline
  more : {newline : ℕ} (before : ℕ) → EndsComment text before → slice_index text before ≡ 10 → AddsNoComment text (before + 1) newline
      → EndsComment text newline

-- ---- what is before a statement, and after it

-- A statement may begin after this byte: a newline, a `;`, the bracket that an argument begins with, or the parenthesis after patterns.
abbrev pub begins_list : ℕ → Bool
begins_list b = b == 10 || b == 59 || b == 91 || b == 41

-- Such a byte is right before this offset. If it is a newline, it ends a comment, which would go on otherwise.
pub record IsAfterByte (text : List ℕ) (at : ℕ) : Type 0 where
  pub some : 0 < at
  pub begins : begins_list (slice_index text (at - 1)) ≡ true
  pub ends : slice_index text (at - 1) ≡ 10 → EndsComment text (at - 1)

-- A statement may begin at this offset: the text begins there, such a byte is before it, or `then` or `else`.
abbrev pub IsListStart : List ℕ → ℕ → Type 0
IsListStart text at =
    ((at ≡ 0) ⊎ IsAfterByte text at) ⊎ (IsWord text (at - 4) (codes "then") at ⊎ IsWord text (at - 4) (codes "else") at)

-- A statement begins at this offset: before it there are spaces alone, and before these a statement may begin.
pub record BeginsStatement (text : List ℕ) (start : ℕ) : Type 0 where
  pub from : ℕ
  pub order : from ≤ start
  pub begins : IsListStart text from
  pub spaces : AreSpaces text from start

-- A statement may end before this byte: a newline, a `;`, a `#`, or the bracket that an argument ends with.
abbrev pub ends_list : ℕ → Bool
ends_list b = b == 10 || b == 59 || b == 35 || b == 93

-- A statement ends at this offset: after it there are spaces alone, and then such a byte or the end of the text. A comment doesn't begin
-- right there, since a `#` in a word is none.
pub record EndsStatement (text : List ℕ) (end : ℕ) : Type 0 where
  pub to : ℕ
  pub order : (end ≤ to) × (to ≤ length text)
  pub no_comment : slice_index text end ≡ 35 → ⊥
  pub spaces : AreSpaces text end to
  pub ends : (to ≡ length text) ⊎ (ends_list (slice_index text to) ≡ true)
