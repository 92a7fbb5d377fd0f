-- What the filter gives a run, and what it takes of what the run hands over.
use Rattle.std.specs.Prelude.{◌≡◌, ℕ, Bool, true, false, List, [], ◌∷◌, Option, Some, None, Result, Ok, Err, find}
use Rattle.cfglog.specs.Texts.{messages_of}
use Rattle.deftable.specs.declared.note.Stream.TheVariants as streams
use Rattle.engine.specs.Configured.{artifacts}
use Rattle.engine_frame.specs.Faults.{◌>>=◌}
use Rattle.engine_frame.specs.Given.{Accepted, Shows, Starts, source_settings, accepted_after}
use Rattle.engine_frame.specs.Shown.{shown_report}
use Rattle.engine_frame.specs.Told.{status_of}
use Rattle.engine_frame.specs.declared.fault.Fault.{Fault}
use Rattle.engine_frame.specs.declared.report.Report.{Report}
use Rattle.output_list.specs.declared.output.Output.{Output}
use Rattle.output_put.specs.declared.artifact.Kind as kind
use Rattle.output_put.specs.declared.artifact.Kind.TheVariants as kinds
use Rattle.output_put.specs.declared.artifact.Artifact.{Artifact}
use Rattle.ac_tree.specs.Lists.{lists_of}
use Rattle.ac_tree.specs.Script.{Script}
use Rattle.cmd_filter.specs.Ran.{IsAlone}
use Rattle.cmd_filter.specs.declared.fault.FilterFault.{FilterFault}
use Rattle.cmd_filter.specs.declared.fault.FilterFault.TheVariants.{Run, OutOfMemory}

-- The templates that the filter has: this text, under the name of the first file's template. (own)
abbrev pub templates_for : List Output → List ℕ → List (List ℕ × List ℕ)
templates_for [] template = []
templates_for (file ∷ more) template = (file.template, template) ∷ []

-- The templates that the filter has for these statements. (own)
abbrev pub templates_of : Script → List ℕ → List (List ℕ × List ℕ)
templates_of s template = templates_for (lists_of s).files template

-- What follows from statements with these templates, without arguments, environment and cache. (own)
unfoldable pub judged_alone : Script → List (List ℕ × List ℕ) → Result Accepted Fault
judged_alone s templates = do
  settings ← source_settings [] [] s
  accepted_after [] None templates s settings

-- Why there is no report: what is given has a fault, or memory runs out. (own)
pub data IsNotRun (judged : Result Accepted Fault) : FilterFault → Type 0 where
  refused : {f : Fault} → judged ≡ Err f → IsNotRun judged (Run f)
  no_memory : IsNotRun judged OutOfMemory

-- The report of what is accepted, and what is handed over. (own)
abbrev pub IsReported : Result Accepted Fault → List (List ℕ × List ℕ) → Report → List Artifact → Type 0
IsReported (Ok (Starts script start)) templates report handed = IsAlone script start report × (handed ≡ artifacts script start templates report)
IsReported (Ok (Shows script settings)) templates report handed = report ≡ shown_report script settings
IsReported (Err f) templates report handed = ⊥

-- The kind is that of a file. (own)
abbrev pub is_file_kind : kind.Kind → Bool
is_file_kind kinds.File = true
is_file_kind other = false

-- The artifact is a file. (own)
abbrev pub is_file : Artifact → Bool
is_file artifact = is_file_kind artifact.kind

-- The text of an artifact, and none if there is no artifact. (own)
abbrev pub text_of : Option Artifact → List ℕ
text_of None = []
text_of (Some artifact) = artifact.text

-- The text of the first file among these artifacts, and none if there is no file. (own)
abbrev pub first_text : List Artifact → List ℕ
first_text artifacts = text_of (find is_file artifacts)

-- What the filter takes of what follows from what is given: the text of the first file that is handed over, what the report has for
-- standard error, and the exit status. (own)
pub record IsTaken (judged : Result Accepted Fault) (templates : List (List ℕ × List ℕ)) (out errors : List ℕ) (status : ℕ) : Type 0 where
  pub report : Report
  pub handed : List Artifact
  pub reported : IsReported judged templates report handed
  pub written : out ≡ first_text handed
  pub told : errors ≡ messages_of streams.Err false report.messages
  pub exits : status ≡ status_of report.outcome
