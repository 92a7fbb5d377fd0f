-- Where the statements of a source begin that are found in it. All of this is own.
use Rattle.std.specs.Prelude.{◌≡◌, ℕ, List, map}
use Rattle.ac_calls.specs.Calls.{calls_in, macro_call_of}
use Rattle.ac_calls.specs.declared.call.CallAt.{CallAt}
use Rattle.port_places.specs.Outside.{IsOutside}
use Rattle.port_statements.specs.declared.cut.StatementCut.{StatementCut}
use Rattle.port_statements.specs.declared.cut.StatementCut.TheVariants.{If, Case, Guard, Default, For, Line}

-- The offset of the first byte of a statement.
abbrev pub start_of : StatementCut → ℕ
start_of (If cut) = cut.start
start_of (Case cut) = cut.start
start_of (Guard cut) = cut.start
start_of (Default cut) = cut.start
start_of (For cut) = cut.start
start_of (Line at) = at

-- By the calls of the text, this offset is outside quotes, substitutions, comments and here-documents.
pub record MayBegin (text : List ℕ) (at : ℕ) : Type 0 where
  pub calls : List CallAt
  pub are : map macro_call_of calls ≡ calls_in text
  pub outside : IsOutside text calls at

-- The statement begins at such an offset.
abbrev pub BeginsOutside : List ℕ → StatementCut → Type 0
BeginsOutside text cut = MayBegin text (start_of cut)
