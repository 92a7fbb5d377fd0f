-- Where statements may begin: outside quotes, substitutions, comments and here-documents, as `lint_marks` reads a list of statements. All of
-- this is own.
use Rattle.std.specs.Prelude.{◌≡◌, ℕ, ◌+◌, ◌-◌, ◌<◌, ◌≤◌, true, List, length, get_or, slice_index, Contains}
use Rattle.lint_text.specs.Parts.{part}
use Rattle.lint_marks.specs.Quotes.{is_text}
use Rattle.lint_marks.specs.Marks.{text_start, text_after, text_after_call, is_outside_all}
use Rattle.lint_marks.specs.declared.mark.TextScan.{TextScan}
use Rattle.ac_calls.specs.declared.call.CallAt.{CallAt}
use Rattle.ac_calls.specs.declared.call.Extent.{Extent}

-- The call of this index begins at this offset.
pub record BeginsCall (calls : List CallAt) (index at : ℕ) : Type 0 where
  pub call : CallAt
  pub within : index < length calls
  pub is_it : call ≡ get_or calls index call
  pub begins : call.start ≡ at

-- One of these calls begins at this offset, and ends at that one.
pub record IsCallAt (calls : List CallAt) (at end : ℕ) : Type 0 where
  pub call : CallAt
  pub is_there : Contains calls call
  pub begins : call.start ≡ at
  pub ends : call.end ≡ end

-- A list of statements: the whole text, or what is after the bracket with which an argument of one of these calls begins.
pub data IsList (text : List ℕ) (calls : List CallAt) (list : Extent) : Type 0 where
  whole : list.start ≡ 0 → list.end ≡ length text → IsList text calls list
  inner : (call : CallAt) (arg : Extent) → Contains calls call → Contains call.args.items arg → list.start ≡ arg.start + 1 → slice_index text arg.start ≡ 91
      → list.end ≤ arg.end → list.end ≤ length text → IsList text calls list

-- The list was read from its start up to this offset, where this is open. A call may be passed outside quotes and comments of m4, and all else
-- is read byte by byte.
pub data IsRead (text : List ℕ) (calls : List CallAt) (list : Extent) : ℕ → TextScan → Type 0 where
  begun : IsRead text calls list list.start text_start
  byte : {at : ℕ} {s : TextScan} → at < list.end → IsRead text calls list at s → IsRead text calls list (at + 1) (text_after s (part text at list.end))
  passed : {at : ℕ} {s : TextScan} (end : ℕ) → IsRead text calls list at s → IsCallAt calls at end → s.quotes.depth ≡ 0 → is_text s.quotes.part ≡ true
      → IsRead text calls list end (text_after_call (end - at) s)

-- Some list was read up to this offset in it, and no quote, no substitution, no comment and no here-document is open there, and no backslash is
-- before it.
pub record IsOutside (text : List ℕ) (calls : List CallAt) (at : ℕ) : Type 0 where
  pub list : Extent
  pub scan : TextScan
  pub is_list : IsList text calls list
  pub within : at < list.end
  pub is_read : IsRead text calls list at scan
  pub outside : is_outside_all scan ≡ true
