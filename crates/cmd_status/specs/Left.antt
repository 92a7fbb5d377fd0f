-- What a run leaves in files.
use Rattle.std.specs.Prelude.{◌≡◌, ℕ, Bool, true, false, List, [], ◌∷◌, ◌++◌, Option, Some, None, Result, Ok, Err, IfSome, codes}
use Rattle.cfglog.specs.Texts.{log_of}
use Rattle.cmd_status.specs.Happened.{after_fault}
use Rattle.cmd_status.specs.Printed.{Written, only_lines}
use Rattle.cmd_status.specs.Reasons.{run_line, written_after}
use Rattle.cmd_status.specs.declared.happened.Happened.{Happened}
use Rattle.cmd_status.specs.declared.happened.Happened.TheVariants.{Ran}
use Rattle.cmd_status.specs.declared.happened.RunLeft.{RunLeft}
use Rattle.file_disk.specs.Known.{Known, Deed}
use Rattle.file_texts.specs.Done.{AreDone}
use Rattle.file_texts.specs.Held.{Held}
use Rattle.file_texts.specs.Steps.{IsReplaced}
use Rattle.file_texts.specs.declared.places.Guard.{Guard}
use Rattle.file_texts.specs.declared.places.FilePlace.{FilePlace}
use Rattle.engine_frame.specs.Told.{status_of}
use Rattle.engine_frame.specs.declared.fault.Fault.{Fault}
use Rattle.engine_frame.specs.declared.fault.Fault.TheVariants.{PutRefused}
use Rattle.engine_frame.specs.declared.report.Report.{Report}
use Rattle.cmd_call.specs.Logged.{IsHeld, HasLogged, HasNoLog}
use Rattle.output_put.specs.declared.artifact.Artifact.{Artifact}

-- If files are known before and after, what is under their names is the same function of what was done
-- to them. (own)
abbrev pub AreSameFiles : Option Known → Option Known → Type 0
AreSameFiles old new = IfSome old (λ before. IfSome new (λ now. now.files ≡ before.files))

-- All that was done to files is what was done for these artifacts, none of which was refused, with
-- these lines, while these names were guarded; and then the log was written, with this text. (own)
pub record IsLeft (k : Known) (guards : List Guard) (artifacts : List Artifact) (lines log : List ℕ) : Type 0 where
  pub places : List FilePlace
  pub before : List Deed
  pub logged : List Deed
  pub deeds : k.deeds ≡ before ++ logged
  pub done : AreDone k.files guards artifacts 0 lines places before
  pub written : IsReplaced (record { deeds = before; files = k.files }) (codes "config.log") log logged

-- After a run with this report the log was written. (own)
pub record Logs {D : Type 0} (known : D → Option Known) (old new : Held D) (report : Report) : Type 0 where
  pub held : IsHeld known old
  pub log : HasLogged known old new (log_of report.log)

-- After a run with this report, of which this put was refused, if one was, this is left: the status is
-- that of its outcome, and the log was written, or was begun at most, and nothing else was done to
-- files. (own)
pub record IsReported {D : Type 0} (known : D → Option Known) (old new : Held D) (report : Report) (refused : Option ℕ) (left : RunLeft) : Type 0 where
  pub held : IsHeld known old
  pub exits : left.status ≡ status_of report.outcome
  pub refuses : left.refused ≡ refused
  pub logged : left.is_logged ≡ true → HasLogged known old new (log_of report.log)
  pub unlogged : left.is_logged ≡ false → HasNoLog known old new

-- What happened if a run was to be made of a source with these precious variables, and this was
-- returned of it, and what is written: it left this, also if a put was refused; or it has a fault, or
-- memory ran out, and nothing more was done. (own)
abbrev pub IsFinished : {D : Type 0} → (D → Option Known) → Bool → Held D → Held D → List (List ℕ) → Result Report Fault → Happened → Written → Type 0
IsFinished known quiet old new precious (Ok report) happened written = (left : RunLeft) × (happened ≡ Ran left) × IsReported known old new report None left × (written ≡ written_after quiet report old.lines left)
IsFinished known quiet old new precious (Err (PutRefused number report)) happened written = (left : RunLeft) × (happened ≡ Ran left) × IsReported known old new report (Some number) left × (written ≡ written_after quiet report old.lines left)
IsFinished known quiet old new precious (Err f) happened written = (happened ≡ after_fault f) × (new ≡ old) × (written ≡ only_lines (run_line (Some precious) f ∷ []))
