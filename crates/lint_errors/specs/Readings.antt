-- What a source is read as. All of this is own.
use Rattle.std.specs.Prelude.{◌≡◌, ℕ, List, map, Result, Ok, Err}
use Rattle.ac_statement.specs.declared.fault.ParseFault.{ParseFault}
use Rattle.ac_statement.specs.Reading.{quoted}
use Rattle.acparse.specs.Profile.{source_of, source_read}
use Rattle.ac_calls.specs.Calls.{calls_in, macro_call_of}
use Rattle.m4quote.specs.ItemValue.{ItemValue}
use Rattle.m4quote.specs.Scan.{outcome}
use Rattle.ac_tree.specs.declared.tree.Stmt.{Stmt}
use Rattle.ac_tree.specs.Script.{script_of}
use Rattle.lint_errors.specs.declared.reading.Reading.{Reading}

-- The source spells these items.
abbrev pub IsSpelled : List ℕ → List ItemValue → Type 0
IsSpelled text items = outcome 0 text ≡ Ok items

-- The source has this fault of its quotes.
abbrev pub IsUnspelled : List ℕ → ParseFault → Type 0
IsUnspelled text fault = quoted (outcome 0 text) ≡ Err fault

-- A source with these items has these statements, or this fault.
abbrev pub AreStatements : List ItemValue → Result (List Stmt) ParseFault → Type 0
AreStatements items (Ok statements) = source_read items ≡ Ok (script_of statements)
AreStatements items (Err fault) = source_read items ≡ Err fault

-- The source has these statements, or this fault.
abbrev pub IsRead : List ℕ → Result (List Stmt) ParseFault → Type 0
IsRead text (Ok statements) = source_of text ≡ Ok (script_of statements)
IsRead text (Err fault) = source_of text ≡ Err fault

-- The source has these statements, or this fault, and these calls.
pub record IsReading (text : List ℕ) (reading : Reading) : Type 0 where
  pub source : IsRead text reading.source
  pub calls : map macro_call_of reading.calls.items ≡ calls_in text
