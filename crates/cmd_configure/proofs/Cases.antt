-- What happened, from what is known of a source and of a record.
use Rattle.std.proofs.Common.{◌≡◌, ℕ, Bool, true, false, List, [], ◌∷◌, ◌++◌, Option, Some, None, Result, Ok, Err, refl, sym, subst, ap, ◌∙◌}
use Rattle.std.specs.Prelude.{codes}
use Rattle.ac_statement.specs.declared.fault.ParseFault.{ParseFault}
use Rattle.ac_statement.specs.declared.fault.ParseFault.TheVariants as parses
use Rattle.ac_statement.specs.Reading as reading
use Rattle.acparse.specs.Profile.{source_of}
use Rattle.ac_tree.specs.Script.{Script}
use Rattle.crew_trait.specs.Events.{Account}
use Rattle.options_line.specs.Srcdir.{srcdir_of}
use Rattle.options.specs.declared.settings.Settings.{Settings}
use Rattle.cmd_status.specs.Happened.{after_fault, after_record, is_all_done, is_output_cut, shown_status}
use Rattle.cmd_status.specs.declared.happened.Happened.{Happened}
use Rattle.cmd_status.specs.declared.happened.Happened.TheVariants.{NotRead, NotRecorded, OutOfMemory, Refused, Shown}
use Rattle.cmd_status.proofs.Happenings.{only_said, unfinished}
use Rattle.cmd_status.specs.Printed.{IsWritten, Written, only_lines, printed}
use Rattle.cmd_status.specs.Reasons.{memory_line, unwritten}
use Rattle.fault_spots.specs.FaultLines.{fault_line, remake_line}
use Rattle.cmd_call.specs.Lines.{IsTold, SaysLines, error_line}
use Rattle.cmd_call.proofs.Pages.{says_line}
use Rattle.file_disk.specs.Known.{Known}
use Rattle.engine_frame.specs.Faults.{◌>>=◌, Fails, FailsAgain, named, of_parse}
use Rattle.engine_frame.specs.Given.{source_settings}
use Rattle.engine_frame.specs.Judging.{Judged, RunsBelow, judged_with, judgement, judged_of}
use Rattle.engine_frame.specs.Needed.{Needed, script_in}
use Rattle.engine_frame.specs.Rechecked.{rechecked}
use Rattle.engine_frame.specs.declared.fault.Fault.{Fault}
use Rattle.engine_frame.specs.declared.fault.Fault.TheVariants as faults
use Rattle.engine_frame.specs.declared.fault.RemakeFault.{RemakeFault}
use Rattle.engine_frame.specs.declared.fault.RemakeFault.TheVariants as again
use Rattle.engine_frame.specs.declared.judging.Judged.{Judged as Found}
use Rattle.engine_frame.specs.declared.judging.Judged.TheVariants as founds
use Rattle.engine_frame.specs.declared.report.Report.{Report}
use Rattle.engine_frame.proofs.Judgements.{runs_as, shows_as}
use Rattle.cmd_call.specs.Supplies.{ReadsLimited, ReadsWhole, path_of}
use Rattle.cmd_configure.proofs.Done.{shown_printed}
use Rattle.cmd_configure.specs.Configures.{ReadsSource}
use Rattle.cmd_configure.specs.Ended.{HasHappened, HasHappenedAgain, IsRunEnd, source_path, not_read, bad_source, bad_arguments, no_memory, shown, run, no_record, bad_record, no_memory_again}

-- ---- what is not all done

-- After a fault not all is done.
pub never_done : (f : Fault) (happened : Happened) (P : Type 0) → happened ≡ after_fault f → is_all_done happened ≡ true → P
never_done f happened P is done =
    let no : false ≡ true = sym (unfinished f) ∙ ap is_all_done (sym is) ∙ done in
    absurd (cc)

pub never_done_again : (f : RemakeFault) (happened : Happened) (P : Type 0) → happened ≡ after_record f → is_all_done happened ≡ true → P
never_done_again again.OutOfMemory happened P is done = let no : false ≡ true = ap is_all_done (sym is) ∙ done in absurd (cc)
never_done_again f happened P is done = let no : false ≡ true = ap is_all_done (sym is) ∙ done in absurd (cc)

pub never_memory : (happened : Happened) (P : Type 0) → happened ≡ OutOfMemory → is_all_done happened ≡ true → P
never_memory happened P is done = let no : false ≡ true = ap is_all_done (sym is) ∙ done in absurd (cc)

pub never_read : (happened : Happened) (P : Type 0) → happened ≡ NotRead → is_all_done happened ≡ true → P
never_read happened P is done = let no : false ≡ true = ap is_all_done (sym is) ∙ done in absurd (cc)

-- The exit status after a text that was shown is 0.
pub zero_if : (is_printed : Bool) → is_printed ≡ true → shown_status is_printed ≡ 0
zero_if true e = refl
zero_if false e = absurd (cc)

-- ---- a source

-- Memory ran out.
pub has_no_memory : (window : ℕ) (a : List (List ℕ)) (e : List (List ℕ × List ℕ)) (before now : Account) (old new : Option Known) (happened : Happened)
    → happened ≡ OutOfMemory → now ≡ before → new ≡ old → HasHappened window a e before now old new happened (only_lines (memory_line ∷ []))
has_no_memory window a e before now old new happened is same_crew same = subst (λ h. HasHappened window a e before now old new h (only_lines (memory_line ∷ []))) (sym is) (no_memory same_crew same)

-- The source was not read.
pub has_no_source : {D : Type 0} (known : D → Option Known) (d lent : D) (window : ℕ) (a : List (List ℕ)) (e : List (List ℕ × List ℕ)) (now : Account) (srcdir path name : List ℕ) (read : Option (List ℕ))
    → lent ≡ d → name ≡ path → path ≡ srcdir ++ 47 ∷ codes "configure.ac" → srcdir ≡ srcdir_of a → read ≡ None
    → ReadsLimited (known lent) name read → HasHappened window a e now now (known d) (known d) NotRead (only_lines (error_line (codes "file") (source_path a) ∷ []))
has_no_source known d lent window a e now srcdir path name read same name_is path_is srcdir_is is h =
    not_read
    (subst (λ x. ReadsLimited (known x) (source_path a) None) same
    (subst (λ (n : List ℕ). ReadsLimited (known lent) n None) (name_is ∙ path_is ∙ ap (λ s. path_of s (codes "configure.ac")) srcdir_is)
    (subst (λ (o : Option (List ℕ)). ReadsLimited (known lent) name o) is h)))
    refl refl

-- The line of a file was told, by the name that it has.
pub file_said : {E : Type 0} (contents : E → Option (List ℕ)) (has_failed : E → Bool) (old new : E) (is_asked : Bool) (path name : List ℕ) → name ≡ path
    → SaysLines contents has_failed old new is_asked (error_line (codes "file") name ∷ []) → SaysLines contents has_failed old new is_asked (error_line (codes "file") path ∷ [])
file_said contents has_failed old new is_asked path name is told =
    subst (λ (p : List ℕ). SaysLines contents has_failed old new is_asked (error_line (codes "file") p ∷ [])) is told

-- A line was told, and nothing is printed.
pub line_written : {W E : Type 0} (taken : W → Option (List ℕ)) (is_full : W → Bool) (said : E → Option (List ℕ)) (has_failed : E → Bool) (output : W) (old new : E) (is_asked : Bool) (happened : Happened) (line : List ℕ)
    → happened ≡ OutOfMemory → IsTold said has_failed old new line → IsWritten taken is_full said has_failed output output old new is_asked (is_output_cut happened) (only_lines (line ∷ []))
line_written taken is_full said has_failed output old new is_asked happened line is told =
    only_said taken is_full said has_failed output old new is_asked (is_output_cut happened) (line ∷ []) (ap is_output_cut is) (says_line said has_failed old new is_asked line told)

-- What happened after a fault, and its line, by another one that it is.
after_so : (window : ℕ) (a : List (List ℕ)) (e : List (List ℕ × List ℕ)) (before now : Account) (old new : Option Known) (f other : Fault) (happened : Happened)
    → happened ≡ after_fault f → f ≡ other → HasHappened window a e before now old new (after_fault other) (only_lines (fault_line other ∷ []))
    → HasHappened window a e before now old new happened (only_lines (fault_line f ∷ []))
after_so window a e before now old new f other happened is same h =
    subst (λ x. HasHappened window a e before now old new x (only_lines (fault_line f ∷ []))) (sym is)
    (subst (λ (x : Fault). HasHappened window a e before now old new (after_fault x) (only_lines (fault_line x ∷ []))) (sym same) h)

-- The source has a fault.
pub has_bad_source : (p : ParseFault) (window : ℕ) (a : List (List ℕ)) (e : List (List ℕ × List ℕ)) (before now : Account) (old new : Option Known) (source : List ℕ) (f : Fault) (happened : Happened)
    → ReadsSource old a source → reading.Fails p (source_of source) → f ≡ of_parse p → happened ≡ after_fault f → now ≡ before → new ≡ old
    → HasHappened window a e before now old new happened (only_lines (fault_line f ∷ []))
has_bad_source parses.OutOfMemory window a e before now old new source f happened reads fails fault_is is same_crew same =
    after_so window a e before now old new f faults.OutOfMemory happened is fault_is (no_memory same_crew same)
has_bad_source p window a e before now old new source f happened reads fails fault_is is same_crew same =
    after_so window a e before now old new f (of_parse p) happened is fault_is (bad_source source reads (ap (named of_parse) fails) same_crew same)

fails_first : (a : List (List ℕ)) (script : Script) (r : Result Settings Fault) (f : Fault) → (r >>= λ settings. Ok (judged_with a script settings)) ≡ Err f → r ≡ Err f
fails_first a script (Ok settings) f e = absurd (cc)
fails_first a script (Err g) f e = cc

fails_asking : (a : List (List ℕ)) (e : List (List ℕ × List ℕ)) (script : Script) (f : Fault) → judgement a e script ≡ Err f → source_settings a e script ≡ Err f
unfolding judgement
fails_asking a e script f is = fails_first a script (source_settings a e script) f is

-- The arguments have a fault, or the source is too long.
pub has_bad_arguments : (f : Fault) (window : ℕ) (a : List (List ℕ)) (e : List (List ℕ × List ℕ)) (before now : Account) (old new : Option Known) (source : List ℕ) (script : Script) (happened : Happened)
    → ReadsSource old a source → source_of source ≡ Ok script → Fails f (judgement a e script) → happened ≡ after_fault f → now ≡ before → new ≡ old
    → HasHappened window a e before now old new happened (only_lines (fault_line f ∷ []))
has_bad_arguments faults.OutOfMemory window a e before now old new source script happened reads read fails is same_crew same =
    after_so window a e before now old new faults.OutOfMemory faults.OutOfMemory happened is refl (no_memory same_crew same)
has_bad_arguments f window a e before now old new source script happened reads read fails is same_crew same =
    after_so window a e before now old new f f happened is refl (bad_arguments source script reads read (fails_asking a e script _ fails) same_crew same)

-- A text was shown.
pub has_shown : (window : ℕ) (a : List (List ℕ)) (e : List (List ℕ × List ℕ)) (now : Account) (old new : Option Known) (source : List ℕ) (script : Script) (found : Found) (report : Report) (is_printed : Bool)
    → ReadsSource old a source → source_of source ≡ Ok script → judgement a e script ≡ Ok (judged_of found) → found ≡ founds.Shows report → new ≡ old
    → HasHappened window a e now now old new (Shown is_printed) (record { out = printed false report.messages []; lines = unwritten (codes "standard output") is_printed })
has_shown window a e now old new source script found report is_printed reads read is kind same =
    let s = shows_as a e script found report is kind in
    subst (λ t. HasHappened window a e now now old new (Shown is_printed) (record { out = t; lines = unwritten (codes "standard output") is_printed })) (sym (shown_printed a e script found report is kind))
    (shown source script s.settings reads (record { read = read; settles = s.asks }) s.shows_it refl same)

-- The source was to be run.
pub has_run : (window : ℕ) (a : List (List ℕ)) (e : List (List ℕ × List ℕ)) (before now : Account) (old new : Option Known) (source : List ℕ) (script : Script) (found : Found) (n : Needed) (happened : Happened) (said : Written)
    → ReadsSource old a source → source_of source ≡ Ok script → judgement a e script ≡ Ok (judged_of found) → found ≡ founds.Runs n → RunsBelow (srcdir_of a) found
    → IsRunEnd window n.arguments (script_in n) n.settings before now old new happened said → HasHappened window a e before now old new happened said
has_run window a e before now old new source script found n happened said reads read is kind below ended =
    let s = runs_as a e script found n is kind in
    run source script n.settings reads (record { read = read; settles = s.asks }) s.runs (subst (RunsBelow (srcdir_of a)) kind below)
    (subst (λ x. IsRunEnd window a x n.settings before now old new happened said) (sym s.script_is)
    (subst (λ x. IsRunEnd window x (script_in n) n.settings before now old new happened said) (sym s.arguments) ended))

-- ---- a record

pub has_no_memory_again : (e : List (List ℕ × List ℕ)) (before now : Account) (old new : Option Known) (happened : Happened)
    → happened ≡ OutOfMemory → now ≡ before → new ≡ old → HasHappenedAgain e before now old new happened (only_lines (memory_line ∷ []))
has_no_memory_again e before now old new happened is same_crew same = subst (λ h. HasHappenedAgain e before now old new h (only_lines (memory_line ∷ []))) (sym is) (no_memory_again same_crew same)

-- The record was not read.
pub has_no_record : {D : Type 0} (known : D → Option Known) (d lent : D) (e : List (List ℕ × List ℕ)) (now : Account) (read : Option (List ℕ))
    → lent ≡ d → read ≡ None → ReadsWhole (known lent) (codes "config.status") read → HasHappenedAgain e now now (known d) (known d) NotRead (only_lines (error_line (codes "file") (codes "config.status") ∷ []))
has_no_record known d lent e now read same is h =
    no_record
    (subst (λ x. ReadsWhole (known x) (codes "config.status") None) same (subst (λ (o : Option (List ℕ)). ReadsWhole (known lent) (codes "config.status") o) is h))
    refl refl

-- The record has a fault.
pub has_bad_record : (f : RemakeFault) (e : List (List ℕ × List ℕ)) (before now : Account) (old new : Option Known) (text : List ℕ) (happened : Happened)
    → ReadsWhole old (codes "config.status") (Some text) → FailsAgain f (rechecked text) → happened ≡ after_record f → now ≡ before → new ≡ old
    → HasHappenedAgain e before now old new happened (only_lines (remake_line f ∷ []))
has_bad_record again.OutOfMemory e before now old new text happened reads fails is same_crew same =
    subst (λ h. HasHappenedAgain e before now old new h (only_lines (remake_line again.OutOfMemory ∷ []))) (sym is) (no_memory_again same_crew same)
has_bad_record f e before now old new text happened reads fails is same_crew same =
    subst (λ h. HasHappenedAgain e before now old new h (only_lines (remake_line f ∷ []))) (sym is) (bad_record text reads fails same_crew same)

-- After a fault of the record nothing is printed.
pub uncut_record : (f : RemakeFault) (happened : Happened) → happened ≡ after_record f → is_output_cut happened ≡ false
uncut_record again.OutOfMemory happened is = ap is_output_cut is
uncut_record f happened is = ap is_output_cut is
