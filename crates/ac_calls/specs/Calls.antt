-- The calls of a text, as a function of the text. `Standing` has the same as rules. All of this is own.
use Rattle.std.specs.Prelude.{ℕ, zero, suc, ◌+◌, ◌<◌, ◌≤◌, ◌^◌, Bool, List, [], ◌∷◌, ◌++◌, length, map, Option, Some, None, Result, Ok, Err, is_some, if◌then◌else◌, All}
use Rattle.std.specs.List.{flat_map}
use Rattle.m4quote.specs.ItemValue.{Span, ItemValue, call, bare}
use Rattle.m4quote.specs.Scan.{outcome}
use Rattle.m4quote.specs.declared.fault.QuoteFault.{QuoteFault}
use Rattle.ac_statement.specs.declared.fault.ParseFault.{ParseFault}
use Rattle.ac_statement.specs.Inside.{inside}
use Rattle.ac_macros.specs.declared.table.Row.{Row}
use Rattle.ac_macros.specs.Table.{row_named}
use Rattle.ac_calls.specs.declared.call.CallAt.{CallAt}
use Rattle.ac_calls.specs.declared.call.Extent.{Extent}
use Rattle.ac_macros.specs.Arguments.{holds_statements}

-- ---- a call

-- A call: the offset of its name, those after its name and after the call, its arguments, whether the table of macros has its name, and
-- the row that it has there.
pub record MacroCall : Type 0 where
  pub start : ℕ
  pub name_end : ℕ
  pub end : ℕ
  pub args : List Extent
  pub is_of_profile : Bool
  pub row : Option Row

-- The pure value of a call.
abbrev pub macro_call_of : CallAt → MacroCall
macro_call_of c = record { start = c.start; name_end = c.name_end; end = c.end; args = c.args.items; is_of_profile = c.is_of_profile; row = c.row }

-- Where an argument is.
abbrev pub extent_of : Span → Extent
extent_of arg = record { start = arg.at; end = arg.at + length arg.text }

-- The offset after the last of these arguments and its comma or parenthesis, or after the name if there is none.
abbrev pub end_after : ℕ → List Extent → ℕ
end_after name_end [] = name_end
end_after name_end (arg ∷ args) = end_after (arg.end + 1) args

-- The call of a macro with this name and these arguments at an offset.
abbrev pub call_at : List ℕ → List Span → ℕ → MacroCall
call_at name args at = record {
  start = at;
  name_end = at + length name;
  end = end_after (at + length name) (map extent_of args);
  args = map extent_of args;
  is_of_profile = is_some (row_named name);
  row = row_named name;
}

-- Each offset of the call is a number of the machine.
abbrev pub IsPlaced : List ℕ → List Span → ℕ → Type 0
IsPlaced name args at = (at + length name < 2 ^ 64) × (end_after (at + length name) (map extent_of args) < 2 ^ 64)

abbrev pub IsItemPlaced : ItemValue → Type 0
IsItemPlaced (call name args at) = IsPlaced name args at
IsItemPlaced (bare text at) = Unit {0}

-- Each offset of the items' calls is a number of the machine.
abbrev pub ArePlaced : List ItemValue → Type 0
ArePlaced items = All IsItemPlaced items

-- ---- the calls of a text

-- The calls of a statement argument.
abbrev pub Bodies : Type 0
Bodies = Span → List MacroCall

-- The calls of those arguments that hold statements, from the index on.
abbrev pub in_args : Bodies → (ℕ → Bool) → ℕ → List Span → List MacroCall
in_args bodies holds i [] = []
in_args bodies holds i (arg ∷ args) = (if holds i then bodies arg else []) ++ in_args bodies holds (i + 1) args

-- The calls in the arguments of a macro: none if the table doesn't have it.
abbrev pub in_macro : Bodies → Option Row → List Span → List MacroCall
in_macro bodies None args = []
in_macro bodies (Some row) args = in_args bodies (holds_statements row.named (length args)) 0 args

-- The calls of an item: a call is one, and those in its arguments come after it.
abbrev pub in_item : Bodies → ItemValue → List MacroCall
in_item bodies (bare text at) = []
in_item bodies (call name args at) = call_at name args at ∷ in_macro bodies (row_named name) args

-- The calls of items, in order.
abbrev pub in_items : Bodies → List ItemValue → List MacroCall
in_items bodies items = flat_map (in_item bodies) items

-- The items of a text, or none if its quotes have an error.
abbrev pub items_of : Result (List ItemValue) QuoteFault → List ItemValue
items_of (Ok items) = items
items_of (Err f) = []

-- The calls of a text at its offset.
abbrev pub in_text : Bodies → Span → List MacroCall
in_text bodies a = in_items bodies (items_of (outcome a.at a.text))

-- The calls of the text that an argument denotes, or none if it denotes none.
abbrev pub in_denoted : Bodies → Result Span ParseFault → List MacroCall
in_denoted bodies (Ok a) = in_text bodies a
in_denoted bodies (Err f) = []

-- The calls of a statement argument in which lists nest at most this deep, counting its own.
unfoldable pub in_argument : ℕ → Bodies
in_argument zero arg = []
in_argument (suc room) arg = in_denoted (in_argument room) (inside arg)

-- The calls of the items of a source, within whose own list others nest at most 31 deep.
abbrev pub calls_among : List ItemValue → List MacroCall
calls_among items = in_items (in_argument 31) items

-- The calls of a source.
unfoldable pub calls_in : List ℕ → List MacroCall
calls_in text = calls_among (items_of (outcome 0 text))

-- ---- the order of calls

-- Each call begins and ends between these offsets, and each after the first begins after the name of the one before it.
abbrev pub AreInOrder : ℕ → ℕ → List MacroCall → Type 0
AreInOrder low high [] = low ≤ high
AreInOrder low high (c ∷ cs) = (low ≤ c.start) × (c.start < c.name_end) × (c.name_end ≤ c.end) × (c.end ≤ high) × AreInOrder c.name_end high cs
