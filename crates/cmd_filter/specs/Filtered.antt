-- The result of the filter for its input.
use Rattle.std.specs.Prelude.{◌≡◌, ◌≢◌, ℕ, false, List, Ok, Err}
use Rattle.ac_statement.specs.declared.fault.ParseFault as parse_fault
use Rattle.ac_statement.specs.declared.fault.ParseFault.TheVariants as parse_faults
use Rattle.acparse.specs.Profile.{source_of}
use Rattle.acparse.specs.Source.{IsSource, IsSourceFault}
use Rattle.cfglog.specs.Texts.{messages_of}
use Rattle.deftable.specs.declared.note.Stream.TheVariants as streams
use Rattle.engine.specs.Configured.{artifacts}
use Rattle.engine_frame.specs.Given.{Starts}
use Rattle.engine_frame.specs.Told.{status_of}
use Rattle.engine_frame.specs.declared.starting.Start.{Start}
use Rattle.engine_frame.specs.declared.fault.Fault.TheVariants.{Parse}
use Rattle.engine_frame.specs.declared.report.Report.{Report}
use Rattle.file_texts.specs.Parted.{IsParted, HasNoMarker}
use Rattle.ac_tree.specs.Script.{Script}
use Rattle.cmd_filter.specs.Handed.{templates_of, judged_alone, first_text, IsNotRun}
use Rattle.cmd_filter.specs.Ran.{IsAlone}
use Rattle.cmd_filter.specs.declared.fault.FilterFault.{FilterFault}
use Rattle.cmd_filter.specs.declared.fault.FilterFault.TheVariants.{Read, Usage, Run, Write, OutOfMemory}

-- The text is what the filter runs of an input: the source before the marker, or all of it if it has no marker. (own)
pub data IsSourcePart (input : List ℕ) : List ℕ → Type 0 where
  before : {source template : List ℕ} → IsParted input source template → IsSourcePart input source
  whole : HasNoMarker input → IsSourcePart input input

-- The statements are run without arguments, environment and cache, with this template under the name of the first file's, and
-- with each start of a child refused. This is the text of the first file that the run hands over, what it prints on standard
-- error, and its exit status. (own)
pub record IsRun (s : Script) (template out errors : List ℕ) (status : ℕ) : Type 0 where
  pub start : Start
  pub accepted : judged_alone s (templates_of s template) ≡ Ok (Starts s start)
  pub report : Report
  pub alone : IsAlone s start report
  pub written : out ≡ first_text (artifacts s start (templates_of s template) report)
  pub told : errors ≡ messages_of streams.Err false report.messages
  pub exits : status ≡ status_of report.outcome

-- The input is a source and a template, and this is the text that its run writes, the text for standard error, and the
-- exit status. (own)
pub record IsFiltered (input out errors : List ℕ) (status : ℕ) : Type 0 where
  pub source : List ℕ
  pub template : List ℕ
  pub parted : IsParted input source template
  pub statements : Script
  pub is_source : IsSource source statements
  pub run : IsRun statements template out errors status

-- What is wrong with an input: it has no marker, or its source has this error, or the source is right, and is not run.
-- (own)
pub data IsInputFault (input : List ℕ) : FilterFault → Type 0 where
  usage : HasNoMarker input → IsInputFault input Usage
  parse : {source template : List ℕ} {f : parse_fault.ParseFault} → IsParted input source template → f ≢ parse_faults.OutOfMemory → source_of source ≡ Err f → IsSourceFault source f → IsInputFault input (Run (Parse f))
  not_run : {source template : List ℕ} {s : Script} {e : FilterFault} → IsParted input source template → IsSource source s → IsNotRun (judged_alone s (templates_of s template)) e → IsInputFault input e
  no_memory_to_parse : IsInputFault input OutOfMemory

-- Why the filter writes no text: the input has an error, or the text for it can't be written, or the input can't be
-- read, which the contract of a reader has no name for, or memory runs out. (own)
pub data IsRefused (input : List ℕ) : FilterFault → Type 0 where
  fault : {e : FilterFault} → IsInputFault input e → IsRefused input e
  unwritten : {out errors : List ℕ} {status : ℕ} → IsFiltered input out errors status → IsRefused input Write
  unread : IsRefused input Read
  memory : IsRefused input OutOfMemory
