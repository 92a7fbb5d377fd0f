-- Which calls are statements: one is on a line of its own, or `;` separates it from the text before it, and `;` or a
-- comment from the text after it. (own; a shell separates commands in the same way)
use Rattle.std.specs.Prelude.{ℕ, ◌+◌, ◌-◌, Bool, true, not, ◌&&◌, ◌||◌, ◌==◌, List, [], ◌∷◌, length, reverse, slice_index, if◌then◌else◌}
use Rattle.std.specs.List.{prefix_len}
pub use Rattle.text_cut.specs.Cuts.{is_space}
use Rattle.m4quote.specs.ItemValue.{Span, ItemValue, call, bare}
use Rattle.ac_statement.specs.declared.placement.LineStart.{LineStart}
use Rattle.ac_statement.specs.Texts.{arg_at, is_all_blank}

-- Its leading spaces and tabs aside, the text begins with a newline, `;` or `#`, or is empty. (own)
abbrev pub begins_line : List ℕ → Bool
begins_line text =
    let n = prefix_len is_space text in
    n == length text || slice_index text n == 10 || slice_index text n == 59 || slice_index text n == 35

-- Its trailing spaces and tabs aside, the text ends with a newline or `;`, or is empty. (own)
abbrev pub ends_line : List ℕ → Bool
ends_line text =
    let n = prefix_len is_space (reverse text) in
    n == length text || slice_index text (length text - 1 - n) == 10 || slice_index text (length text - 1 - n) == 59

-- What an item is to a call after it: bare text with its offset and length, which a call may follow if the text is
-- blank or ends a line. A call may always follow a call. (own)
abbrev pub line_start_of : ItemValue → LineStart
line_start_of (call name args at) = record { at = 0; len = 0; free = true }
line_start_of (bare text at) = record { at = at; len = length text; free = is_all_blank text || ends_line text }

-- Nothing precedes the first item. (own)
abbrev pub no_line_start : LineStart
no_line_start = record { at = 0; len = 0; free = true }

-- The bare text extends to this offset: no dropped line is between. (own)
abbrev pub reaches : LineStart → ℕ → Bool
reaches line_start at = at - line_start.at == line_start.len

-- The call extends to this offset, with its closing parenthesis if it has one. (own)
abbrev pub call_reaches : List ℕ → List Span → ℕ → ℕ → Bool
call_reaches name args at to =
    if length args == 0 then to - at == length name
    else to - (arg_at args (length args - 1)).at == length (arg_at args (length args - 1)).text + 1

-- What follows the call is blank, or begins as a line may end, or comes after a dropped line. (own)
abbrev pub is_free_after : List ℕ → List Span → ℕ → List ItemValue → Bool
is_free_after name args at [] = true
is_free_after name args at (call name' args' to ∷ items) = true
is_free_after name args at (bare text to ∷ items) = not (call_reaches name args at to) || is_all_blank text || begins_line text

-- A call, between what precedes it and the items after it, is a statement. (own)
unfoldable pub is_statement : LineStart → List ℕ → List Span → ℕ → List ItemValue → Bool
is_statement line_start name args at after = (line_start.free || not (reaches line_start at)) && is_free_after name args at after
