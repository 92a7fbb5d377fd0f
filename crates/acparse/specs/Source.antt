-- The statements of a whole source, and the errors of one.
use Rattle.std.specs.Prelude.{◌≡◌, ℕ, List}
use Rattle.m4quote.specs.ItemValue.{ItemValue}
use Rattle.m4quote.specs.Faults.{IsFirstFault}
use Rattle.m4quote.specs.Spelling.{IsSpelling}
use Rattle.m4quote.specs.declared.fault.QuoteFault.{QuoteFault}
use Rattle.ac_statement.specs.declared.fault.ParseFault.{ParseFault}
use Rattle.ac_statement.specs.declared.fault.ParseFault.TheVariants.{NoInit, NoOutput}
use Rattle.ac_statement.specs.Reading.{quote_fault}
use Rattle.ac_statement.specs.Stand.{no_line_start}
use Rattle.ac_tree.specs.declared.declarations.Stage.TheVariants.{Before, Open, Ended}
use Rattle.ac_macros.specs.ListKind.{Top}
use Rattle.acparse.specs.Breaks.{Breaks, IsBroken}
use Rattle.ac_tree.specs.Lists.{start}
use Rattle.ac_tree.specs.Lists.{after_all}
use Rattle.ac_tree.specs.Script.{Script}
use Rattle.acparse.specs.Statements.{AreStatements, IsBody}

-- The text spells items, and these are their statements; within them, lists nest at most 31 deep. (own)
pub record IsList (text : List ℕ) (s : Script) : Type 0 where
  pub items : List ItemValue
  pub spelled : IsSpelling 0 text items
  pub statements : AreStatements Top (IsBody 31) start no_line_start items s

-- The source has these statements, from AC_INIT to AC_OUTPUT. (own)
pub record IsSource (text : List ℕ) (s : Script) : Type 0 where
  pub list : IsList text s
  pub ended : (after_all start s).stage ≡ Ended

-- The error names what is wrong at its offset, and everything before it is right. (own)
pub data IsSourceFault (text : List ℕ) : ParseFault → Type 0 where
  no_items : {q : QuoteFault} → IsFirstFault 0 text q → IsSourceFault text (quote_fault q)
  in_items : {items : List ItemValue} {f : ParseFault} → IsSpelling 0 text items → Breaks Top (IsBody 31) (IsBroken 31) start no_line_start items f → IsSourceFault text f
  no_init : {s : Script} → IsList text s → (after_all start s).stage ≡ Before → IsSourceFault text NoInit
  no_output : {s : Script} → IsList text s → (after_all start s).stage ≡ Open → IsSourceFault text NoOutput
