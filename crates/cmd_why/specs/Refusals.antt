-- The line that says why `acrun why` prints nothing. All of this is own.
use Rattle.std.specs.Prelude.{◌≡◌, ◌⊎◌, ℕ, Bool, false, List, [], ◌∷◌, ◌++◌, Option, Some, None, codes}
use Rattle.file_disk.specs.Known.{Known}
use Rattle.cfglog.specs.Log.{is_log}
use Rattle.cmd_call.specs.Lines.{IsTold, error_line}
use Rattle.cmd_call.specs.Supplies.{ReadsWhole}
use Rattle.status_record.specs.FaultText.{fault_text}
use Rattle.status_record.specs.Reading.{Fails, record_in}
use Rattle.status_record.specs.declared.fault.RecordFault.{RecordFault}
use Rattle.status_record.specs.declared.fault.RecordFault.TheVariants.{OutOfMemory}
use Rattle.cmd_why.specs.Lines.{checks, is_run}
use Rattle.cmd_why.specs.Quoting.{arguments_in}
use Rattle.cmd_why.specs.Why.{lines_of_log, log_named}

-- A line of this kind was told.
abbrev pub Tells : {E : Type 0} → (E → Option (List ℕ)) → (E → Bool) → E → E → (List ℕ → Type 0) → Type 0
Tells contents has_failed old new is_so = (line : List ℕ) × is_so line × IsTold contents has_failed old new line

-- The line that memory ran out, or that standard output didn't take the text.
pub data IsLost : List ℕ → Type 0 where
  no_memory : IsLost (error_line (codes "memory") [])
  unwritten : IsLost (error_line (codes "file") (codes "standard output"))

-- The text is no log of a run: it is no log, or its lines have nothing of a run.
abbrev pub IsNoLog : List ℕ → Type 0
IsNoLog text = (is_log text ≡ false) ⊎ (is_run (checks (lines_of_log text)) (lines_of_log text) ≡ false)

-- The line for the log of this name with this text.
pub data IsSaidOfText (name text : List ℕ) : List ℕ → Type 0 where
  lost : {line : List ℕ} → IsLost line → IsSaidOfText name text line
  no_log : IsNoLog text → IsSaidOfText name text (error_line (codes "log") name)

-- The line for the log of this name: it can't be read, memory ran out, or the line for its text.
pub data IsSaidOfLog (files : Option Known) (name : List ℕ) : List ℕ → Type 0 where
  unread : ReadsWhole files name None → IsSaidOfLog files name (error_line (codes "file") name)
  unmade : {line : List ℕ} → IsLost line → IsSaidOfLog files name line
  of_text : {line : List ℕ} (text : List ℕ) → ReadsWhole files name (Some text) → IsSaidOfText name text line → IsSaidOfLog files name line

-- The line for a word, if a log is named: that for this log; and otherwise that of wrong words.
abbrev pub IsSaidForWord : Option Known → Option (List ℕ) → List ℕ → Type 0
IsSaidForWord files None line = line ≡ error_line (codes "usage") []
IsSaidForWord files (Some name) line = IsSaidOfLog files name line

-- The line of this fault of a record.
abbrev pub record_line : RecordFault → List ℕ
record_line OutOfMemory = error_line (codes "memory") []
record_line fault = error_line (codes "record " ++ fault_text fault) []

-- The line for the record in a text: it has this fault, or no arguments, or its line was lost.
pub data IsSaidOfRecord (text : List ℕ) : List ℕ → Type 0 where
  faulty : (fault : RecordFault) → Fails fault (record_in text) → IsSaidOfRecord text (record_line fault)
  no_arguments : arguments_in (record_in text) ≡ None → IsSaidOfRecord text (error_line (codes "record has no arguments") [])
  line_lost : {line : List ℕ} → IsLost line → IsSaidOfRecord text line

-- The line without a word: if config.status can't be read, that of wrong words; and otherwise that for its text, or memory ran out.
pub data IsSaidOfRun (files : Option Known) : List ℕ → Type 0 where
  no_record : ReadsWhole files (codes "config.status") None → IsSaidOfRun files (error_line (codes "usage") [])
  run_lost : {line : List ℕ} → IsLost line → IsSaidOfRun files line
  of_record : {line : List ℕ} (text : List ℕ) → ReadsWhole files (codes "config.status") (Some text) → IsSaidOfRecord text line → IsSaidOfRun files line

-- The line for these words after `why`.
abbrev pub IsSaid : Option Known → List (List ℕ) → List ℕ → Type 0
IsSaid files [] line = IsSaidOfRun files line
IsSaid files (word ∷ more) line = IsSaidForWord files (log_named more) line
