-- What follows from a whole run for the program.
use Rattle.std.proofs.Common.{◌≡◌, ℕ, ◌+◌, Bool, true, false, List, [], ◌++◌, Option, Some, None, Result, Ok, Err, refl, sym, subst, ap, ◌∙◌}
use Rattle.std.specs.Prelude.{IfOk, IfSome, codes, option_map}
use Rattle.std.proofs.lemmas.List.{append-nil}
use Rattle.acparse.specs.Profile.{source_of}
use Rattle.crew_trait.specs.Events.{Account}
use Rattle.cfglog.specs.Texts.{log_of}
use Rattle.options_line.specs.Srcdir.{srcdir_of}
use Rattle.cmd_status.specs.Left.{AreSameFiles, IsLeft, Logs}
use Rattle.cmd_status.proofs.Remakes.{done_apart, guarded_before, nothing_refused, unguarded_too}
use Rattle.file_disk.specs.Known.{Known, Deed, Does}
use Rattle.file_texts.specs.Done.{IsDoneApart}
use Rattle.file_texts.specs.Held.{Held, AreUnguarded, IsUnused, receipt_of, closings}
use Rattle.file_texts.proofs.Unused.{unused_receipt}
use Rattle.file_texts.specs.Lines.{AreLines}
use Rattle.file_texts.specs.Steps.{IsReplaced}
use Rattle.file_texts.specs.declared.places.Guard.{Guard}
use Rattle.file_texts.specs.declared.places.FilePlace.{FilePlace}
use Rattle.engine.specs.Configured.{IsAnswer, IfStarts, IfReport, IsMeant, artifacts}
use Rattle.engine.specs.Remaking.{Remakes}
use Rattle.engine_frame.specs.Faults.{◌>>=◌}
use Rattle.engine_frame.specs.Given.{Accepted, Starts, shows, started}
use Rattle.engine_frame.specs.Handing.{IfCompleted}
use Rattle.engine_frame.specs.Judging.{RunsBelow, judgement, judged_of}
use Rattle.engine_frame.specs.Needed.{Needed, script_in}
use Rattle.engine_frame.specs.Shown.{shown_report, shown_text}
use Rattle.engine_frame.specs.declared.starting.Start.{Start}
use Rattle.engine_frame.specs.declared.fault.Fault.{Fault}
use Rattle.engine_frame.specs.declared.fault.Fault.TheVariants.{OutOfMemory}
use Rattle.engine_frame.specs.declared.judging.Judged.{Judged as Found}
use Rattle.engine_frame.specs.declared.judging.Judged.TheVariants as founds
use Rattle.engine_frame.specs.declared.report.Report.{Report}
use Rattle.engine_frame.specs.Told.{status_of}
use Rattle.engine_frame.proofs.Judgements.{runs_as, shows_as}
use Rattle.options.specs.declared.settings.Settings.{Settings}
use Rattle.output_put.specs.Receipt.{Receipt, with_artifacts}
use Rattle.output_put.specs.declared.artifact.Artifact.{Artifact}
use Rattle.ac_tree.specs.Script.{Script}
use Rattle.cmd_status.specs.Printed.{printed}
use Rattle.cmd_configure.specs.Configures.{IsAsked, IsCacheApart, IsConfigured, IsRun, ReadsSource, shown, ran}
use Rattle.cmd_call.specs.Errors.{errors_of}
use Rattle.cmd_call.specs.Lines.{SaysLines}
use Rattle.cmd_status.specs.Reasons.{unwritten}
use Rattle.cmd_call.specs.Guarded.{AreGuarded, inputs_of}
use Rattle.cmd_call.specs.Supplies.{AreGiven}

-- ---- a text that is shown

shown_out : (script : Script) (settings : Settings) → printed false (shown_report script settings).messages [] ≡ shown_text script settings
unfolding shown_report
shown_out script settings = append-nil (shown_text script settings ++ []) ∙ append-nil (shown_text script settings)

shown_silent : (script : Script) (settings : Settings) → errors_of (shown_report script settings).messages ≡ []
unfolding shown_report
shown_silent script settings = refl

-- A report that shows a text has no messages for standard error.
shows_silent : (a : List (List ℕ)) (e : List (List ℕ × List ℕ)) (script : Script) (found : Found) (report : Report)
    → judgement a e script ≡ Ok (judged_of found) → found ≡ founds.Shows report → errors_of report.messages ≡ []
shows_silent a e script found report is kind =
    let s = shows_as a e script found report is kind in
    ap (λ (r : Report). errors_of r.messages) s.is ∙ shown_silent script s.settings

-- So only what standard output didn't take is said.
pub shown_said : {E : Type 0} (contents : E → Option (List ℕ)) (has_failed : E → Bool) (old new : E) (is_asked : Bool) (a : List (List ℕ)) (e : List (List ℕ × List ℕ)) (script : Script) (found : Found) (report : Report) (lines : List (List ℕ))
    → judgement a e script ≡ Ok (judged_of found) → found ≡ founds.Shows report
    → SaysLines contents has_failed old new is_asked (errors_of report.messages ++ lines) → SaysLines contents has_failed old new is_asked lines
shown_said contents has_failed old new is_asked a e script found report lines is kind said =
    subst (λ ms. SaysLines contents has_failed old new is_asked (ms ++ lines)) (shows_silent a e script found report is kind) said

-- If standard output took the text, only the messages are said, of which there are none.
pub shown_alone : {E : Type 0} (contents : E → Option (List ℕ)) (has_failed : E → Bool) (old new : E) (is_asked is_printed : Bool) (messages : List (List ℕ)) → is_printed ≡ true
    → SaysLines contents has_failed old new is_asked (messages ++ unwritten (codes "standard output") is_printed) → SaysLines contents has_failed old new is_asked messages
shown_alone contents has_failed old new is_asked is_printed messages is said =
    subst (SaysLines contents has_failed old new is_asked) (ap (λ b. messages ++ unwritten (codes "standard output") b) is ∙ append-nil messages) said

-- What is printed of a text that is shown.
pub shown_printed : (a : List (List ℕ)) (e : List (List ℕ × List ℕ)) (script : Script) (found : Found) (report : Report) (is : judgement a e script ≡ Ok (judged_of found)) (kind : found ≡ founds.Shows report)
    → printed false report.messages [] ≡ shown_text script (shows_as a e script found report is kind).settings
shown_printed a e script found report is kind =
    let s = shows_as a e script found report is kind in
    ap (λ (r : Report). printed false r.messages []) s.is ∙ shown_out script s.settings

-- What was shown, by what was judged.
pub is_shown : (window : ℕ) (a : List (List ℕ)) (e : List (List ℕ × List ℕ)) (now : Account) (old new : Option Known) (source : List ℕ) (script : Script) (found : Found) (report : Report) (status : ℕ)
    → ReadsSource old a source → source_of source ≡ Ok script → judgement a e script ≡ Ok (judged_of found) → found ≡ founds.Shows report → new ≡ old → status ≡ 0
    → IsConfigured window a e now now old new (printed false report.messages []) (errors_of report.messages) status
is_shown window a e now old new source script found report status reads read is kind same zero =
    let s = shows_as a e script found report is kind in
    let out : printed false report.messages [] ≡ shown_text script s.settings = ap (λ (r : Report). printed false r.messages []) s.is ∙ shown_out script s.settings in
    let said : errors_of report.messages ≡ [] = shows_silent a e script found report is kind in
    subst (λ n. IsConfigured window a e now now old new (printed false report.messages []) (errors_of report.messages) n) (sym zero)
    (shown source script s.settings reads (record { read = read; settles = s.asks }) s.shows_it refl same out said)

-- A run that was made, by what was judged.
pub is_run : (window : ℕ) (a : List (List ℕ)) (e : List (List ℕ × List ℕ)) (before now : Account) (old new : Option Known) (out : List ℕ) (said : List (List ℕ)) (source : List ℕ) (script : Script) (found : Found) (n : Needed) (status : ℕ)
    → ReadsSource old a source → source_of source ≡ Ok script → judgement a e script ≡ Ok (judged_of found) → found ≡ founds.Runs n → RunsBelow (srcdir_of a) found
    → IsRun window n.arguments (script_in n) n.settings before now old new out said status → IsConfigured window a e before now old new out said status
is_run window a e before now old new out said source script found n status reads read is kind below made =
    let s = runs_as a e script found n is kind in
    ran source script n.settings reads (record { read = read; settles = s.asks }) s.runs (subst (RunsBelow (srcdir_of a)) kind below)
    (subst (λ x. IsRun window a x n.settings before now old new out said status) (sym s.script_is)
    (subst (λ x. IsRun window x (script_in n) n.settings before now old new out said status) (sym s.arguments) made))

-- The statements of what is needed are those of the source.
pub is_read : (a : List (List ℕ)) (e : List (List ℕ × List ℕ)) (source : List ℕ) (script : Script) (found : Found) (n : Needed) → source_of source ≡ Ok script → judgement a e script ≡ Ok (judged_of found) → found ≡ founds.Runs n
    → (text : List ℕ) × (source_of text ≡ Ok (script_in n))
is_read a e source script found n read is kind = (source, read ∙ ap Ok (runs_as a e script found n is kind).script_is)

-- ---- a run that returned a report

-- What is left in files by a run that handed over these artifacts, and by its log.
left_by : (mid fin : Option Known) (guards : List Guard) (artifacts : List Artifact) (lines log : List ℕ) (places : List FilePlace) → IfSome mid (λ k. IsDoneApart k guards artifacts 0 lines places)
    → Does mid fin (λ k deeds. IsReplaced k (codes "config.log") log deeds) → IfSome fin (λ k. IsLeft k guards artifacts lines log)
left_by None None guards artifacts lines log places done logged = tt
left_by None (Some new) guards artifacts lines log places done logged = absurd logged
left_by (Some old) None guards artifacts lines log places done logged = tt
left_by (Some old) (Some new) guards artifacts lines log places done logged =
    subst (λ k. IsLeft k guards artifacts lines log) (sym logged.1) (record { places = places; before = old.deeds; logged = logged.0; deeds = refl; done = done; written = logged.2 })

-- What is under names is as it was: no put changes that, nor does the log.
pub same_by : (old mid fin : Option Known) (P : Known → List Deed → Type 0) → option_map (λ k. k.files) mid ≡ option_map (λ k. k.files) old → Does mid fin P → AreSameFiles old fin
same_by None mid fin P kept logged = tt
same_by (Some old) mid None P kept logged = tt
same_by (Some old) None (Some new) P kept logged = absurd logged
same_by (Some old) (Some mid) (Some new) P kept logged =
    let files : mid.files ≡ old.files = cc in
    ap (λ k. k.files) logged.1 ∙ files

abbrev pub going_by : Script → Result Start Fault → Result Accepted Fault
going_by script r = r >>= λ start. Ok (Starts script start)

-- What holds after a call of `go` over a receiver `before`, which is `mid` then, and `fin` after the
-- log was written.
end_of : {D : Type 0} (known : D → Option Known) (d : D) (before_puts mid fin : Held D) (r : Result Start Fault) (window : ℕ) (a : List (List ℕ)) (script : Script) (settings : Settings) (c : Option (List ℕ)) (t : List (List ℕ × List ℕ)) (before now : Account) (report : Report)
    → IsUnused before_puts → before_puts.disk ≡ d → AreGuarded (known before_puts.disk) before_puts.guards (inputs_of settings.srcdir t) → mid.guards ≡ before_puts.guards → option_map (λ k. k.files) (known mid.disk) ≡ option_map (λ k. k.files) (known before_puts.disk) → AreGiven (known d) script settings.cache_name settings.srcdir settings.no_create c t → IsCacheApart (known d) settings.cache_name
    → started a c t script settings ≡ r → IsAnswer (going_by script r) (Ok report) → IfStarts (going_by script r) (λ script start. IsMeant window script start before now report)
    → IfStarts (going_by script r) (λ script start. receipt_of mid ≡ with_artifacts (receipt_of before_puts) (artifacts script start t report))
    → IfStarts (going_by script r) (λ script start. IfCompleted report.outcome (Remakes script start t report)) → Logs known mid fin report
    → IsRun window a script settings before now (known d) (known fin.disk) (printed settings.quiet report.messages mid.lines) (errors_of report.messages) (status_of report.outcome)
end_of known d before_puts mid fin (Err OutOfMemory) window a script settings c t before now report new disk guarded same_guards same_files given apart is answer meant handed again logs = absurd (cc)
end_of known d before_puts mid fin (Err f) window a script settings c t before now report new disk guarded same_guards same_files given apart is answer meant handed again logs = absurd (cc)
end_of known d before_puts mid fin (Ok start) window a script settings c t before now report new disk guarded same_guards same_files given apart is answer meant handed again logs =
    let empty : receipt_of before_puts ≡ record { handed = []; failures = 0 } = unused_receipt before_puts new in
    let all : mid.handed ≡ artifacts script start t report = ap (λ (r : Receipt). r.handed) handed ∙ ap (λ (r : Receipt). r.handed ++ artifacts script start t report) empty in
    let counted : mid.failures + closings mid.closed ≡ 0 = ap (λ (r : Receipt). r.failures) handed ∙ ap (λ (r : Receipt). r.failures) empty in
    let none = nothing_refused mid.failures mid.closed counted in
    let done = done_apart (known mid.disk) mid.guards before_puts.guards mid.handed (artifacts script start t report) mid.failures mid.lines mid.lines mid.places same_guards all none.0 refl (logs.held.done none.1) in
    record {
      cache = c;
      templates = t;
      start = start;
      report = report;
      lines = mid.lines;
      given = given;
      apart = apart;
      starts = is;
      meant = meant;
      are_lines = subst (λ l. AreLines l mid.lines) all logs.held.lines;
      guards = before_puts.guards;
      guarded = guarded_before known d before_puts.disk before_puts.guards (inputs_of settings.srcdir t) disk guarded;
      remakes = again;
      unguarded = unguarded_too mid.guards before_puts.guards mid.handed (artifacts script start t report) same_guards all logs.held.unguarded;
      same = same_by (known d) (known mid.disk) (known fin.disk) (λ k more. IsReplaced k (codes "config.log") (log_of report.log) more)
          (same_files ∙ ap (λ x. option_map (λ k. k.files) (known x)) disk) logs.log;
      left = left_by (known mid.disk) (known fin.disk) before_puts.guards (artifacts script start t report) mid.lines (log_of report.log) mid.places done logs.log;
      prints = refl;
      says = refl;
      exits = refl;
    }

-- The same after a call of `go` that returned this report.
pub run_done : {D : Type 0} (known : D → Option Known) (d : D) (before_puts mid fin : Held D) (window : ℕ) (a : List (List ℕ)) (script : Script) (settings : Settings) (c : Option (List ℕ)) (t : List (List ℕ × List ℕ)) (before now : Account) (answer : Result Report Fault) (report : Report) (quiet : Settings) (status : ℕ)
    → IsUnused before_puts → before_puts.disk ≡ d → AreGuarded (known before_puts.disk) before_puts.guards (inputs_of settings.srcdir t) → mid.guards ≡ before_puts.guards → option_map (λ k. k.files) (known mid.disk) ≡ option_map (λ k. k.files) (known before_puts.disk) → AreGiven (known d) script settings.cache_name settings.srcdir settings.no_create c t → IsCacheApart (known d) settings.cache_name
    → IsAnswer (going_by script (started a c t script settings)) answer → IfStarts (going_by script (started a c t script settings)) (λ script start. IfReport answer (IsMeant window script start before now))
    → IfStarts (going_by script (started a c t script settings)) (λ script start. IfOk answer (λ report. receipt_of mid ≡ with_artifacts (receipt_of before_puts) (artifacts script start t report)))
    → IfStarts (going_by script (started a c t script settings)) (λ script start. IfReport answer (λ report. IfCompleted report.outcome (Remakes script start t report)))
    → quiet ≡ settings → answer ≡ Ok report → status ≡ status_of report.outcome → Logs known mid fin report
    → IsRun window a script settings before now (known d) (known fin.disk) (printed quiet.quiet report.messages mid.lines) (errors_of report.messages) status
run_done known d before_puts mid fin window a script settings c t before now answer report quiet status new disk guarded same_guards same_files given apart accepted meant handed again same is status_is logs =
    let r = started a c t script settings in
    let done = end_of known d before_puts mid fin r window a script settings c t before now report new disk guarded same_guards same_files given apart refl (subst (IsAnswer (going_by script r)) is accepted)
    (subst (λ x. IfStarts (going_by script r) (λ script start. IfReport x (IsMeant window script start before now))) is meant)
    (subst (λ x. IfStarts (going_by script r) (λ script start. IfOk x (λ report. receipt_of mid ≡ with_artifacts (receipt_of before_puts) (artifacts script start t report)))) is handed)
    (subst (λ x. IfStarts (going_by script r) (λ script start. IfReport x (λ report. IfCompleted report.outcome (Remakes script start t report)))) is again) logs in
    subst (λ n. IsRun window a script settings before now (known d) (known fin.disk) (printed quiet.quiet report.messages mid.lines) (errors_of report.messages) n) (sym status_is)
    (subst (λ (q : Settings). IsRun window a script settings before now (known d) (known fin.disk) (printed q.quiet report.messages mid.lines) (errors_of report.messages) (status_of report.outcome)) (sym same) done)
