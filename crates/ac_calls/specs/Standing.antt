-- Which calls of a text are where a statement may be. There is no order of reading: there is a case for each place of a call.
use Rattle.std.specs.Prelude.{◌≡◌, ℕ, suc, ◌<◌, true, List, ◌∷◌, length, Some, slice_index_or}
use Rattle.m4quote.specs.ItemValue.{Span, ItemValue, call}
use Rattle.m4quote.specs.Spelling.{IsSpelling}
use Rattle.ac_statement.specs.Standing.{StandsFor}
use Rattle.ac_macros.specs.declared.table.Row.{Row}
use Rattle.ac_macros.specs.Table.{row_named}
use Rattle.ac_calls.specs.Calls.{MacroCall, call_at}
use Rattle.ac_macros.specs.Arguments.{holds_statements}

-- Items have this call, if other lists nest at most so deep in theirs: one of them is the call, or the table has the macro of one of
-- them, and an argument of it that holds statements denotes a text whose items have the call. So bare text, the other arguments of
-- a macro, and all arguments of a macro that the table doesn't have, have no call. (own)
pub data HasCall : ℕ → List ItemValue → MacroCall → Type 0 where
  here : {room at : ℕ} {name : List ℕ} {args : List Span} {items : List ItemValue} → HasCall room (call name args at ∷ items) (call_at name args at)
  within : {room at k : ℕ} {name : List ℕ} {args : List Span} {items inner : List ItemValue} {row : Row} {arg a : Span} {c : MacroCall}
      → row_named name ≡ Some row → k < length args → slice_index_or args k arg ≡ arg → holds_statements row.named (length args) k ≡ true
      → StandsFor arg a → IsSpelling a.at a.text inner → HasCall room inner c → HasCall (suc room) (call name args at ∷ items) c
  later : {room : ℕ} {item : ItemValue} {items : List ItemValue} {c : MacroCall} → HasCall room items c → HasCall room (item ∷ items) c

-- A source has this call where a statement may be: it spells items, and they have the call. Within its own list, others nest at most
-- 31 deep. If its quotes have an error, it spells no items, and has no call. (own)
pub record IsCallOf (text : List ℕ) (c : MacroCall) : Type 0 where
  pub items : List ItemValue
  pub spelled : IsSpelling 0 text items
  pub has : HasCall 31 items c
