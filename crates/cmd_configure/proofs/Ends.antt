-- What follows from a run for the program, however it ended.
use Rattle.std.proofs.Common.{arith, ◌≡◌, ℕ, ◌+◌, ◌<◌, Bool, true, false, List, [], ◌∷◌, ◌++◌, Option, Some, None, Result, Ok, Err, refl, sym, subst, ap, ◌∙◌, length, take}
use Rattle.std.specs.Prelude.{IfOk, IfSome, codes, option_map, if◌then◌else◌}
use Rattle.crew_trait.specs.Events.{Account}
use Rattle.cfglog.specs.Texts.{log_of}
use Rattle.cachefile.specs.declared.fault.CacheFault.{CacheFault}
use Rattle.cachefile.specs.declared.fault.CacheFault.TheVariants as caches
use Rattle.options.specs.Precious.{checked}
use Rattle.options.specs.declared.fault.PreciousFault.{PreciousFault}
use Rattle.options.specs.declared.fault.PreciousFault.TheVariants as preciouses
use Rattle.options.specs.declared.settings.Settings.{Settings}
use Rattle.cmd_status.proofs.Remakes.{guarded_before}
use Rattle.cmd_status.specs.Happened.{after_fault}
use Rattle.cmd_status.specs.Left.{AreSameFiles, IsFinished, IsReported}
use Rattle.cmd_status.specs.Printed.{Written, only_lines}
use Rattle.cmd_status.specs.Reasons.{memory_line, run_line, written_after}
use Rattle.cmd_status.specs.declared.happened.Happened.{Happened}
use Rattle.cmd_status.specs.declared.happened.Happened.TheVariants.{OutOfMemory, Ran, Refused}
use Rattle.cmd_status.specs.declared.happened.RunLeft.{RunLeft}
use Rattle.file_disk.specs.Known.{Known, Deed, Does}
use Rattle.file_texts.specs.Done.{IsDoneApart}
use Rattle.file_texts.specs.Held.{Held, AreUnguarded, IsUnused, receipt_of, closings}
use Rattle.file_texts.proofs.Unused.{unused_receipt}
use Rattle.file_texts.specs.Steps.{IsBegun, IsReplaced}
use Rattle.file_texts.specs.declared.places.Guard.{Guard}
use Rattle.file_texts.specs.declared.places.FilePlace.{FilePlace}
use Rattle.engine.specs.Configured.{HasRunPart, IsAnswer, IsCut, IsNotRun, IfPutRefused, IfReport, IfStarts, IsMeant, artifacts}
use Rattle.engine.specs.Remaking.{Remakes}
use Rattle.engine_frame.specs.Faults.{◌>>=◌, named, of_cache, of_precious}
use Rattle.engine_frame.specs.Given.{none_missing, old_of, present, started}
use Rattle.engine_frame.specs.Handing.{IfCompleted}
use Rattle.engine_frame.specs.declared.starting.Start.{Start}
use Rattle.engine_frame.specs.declared.fault.Fault.{Fault}
use Rattle.engine_frame.specs.declared.fault.Fault.TheVariants as faults
use Rattle.engine_frame.specs.declared.report.Report.{Report}
use Rattle.output_list.specs.declared.output.Output.{Output}
use Rattle.output_make.specs.Choice.{missing}
use Rattle.output_put.specs.Receipt.{Receipt, with_artifacts}
use Rattle.output_put.specs.declared.artifact.Artifact.{Artifact}
use Rattle.ac_tree.specs.Lists.{lists_of}
use Rattle.ac_tree.specs.Script.{Script}
use Rattle.cmd_call.specs.Guarded.{AreGuarded, inputs_of}
use Rattle.cmd_call.specs.Supplies.{AreGiven}
use Rattle.cmd_configure.specs.Configures.{IsCacheApart}
use Rattle.cmd_configure.proofs.Done.{going_by, same_by}
use Rattle.cmd_configure.specs.Ended.{AreTaken, everything, only_first, refusals_of, IsLeftSo, IsRunLeft, IsRunEnd, refused, unstarted, cut_off, ran}

-- ---- what was taken

-- What a receiver took that had taken nothing before, and how many puts it refused.
record Took {D : Type 0} (all : List Artifact) (mid : Held D) (number : Option ℕ) : Type 0 where
  are_taken : AreTaken all mid.handed number
  counted : mid.failures + closings mid.closed ≡ refusals_of number

took_all : {D : Type 0} (before_puts mid : Held D) (all : List Artifact) → IsUnused before_puts → receipt_of mid ≡ with_artifacts (receipt_of before_puts) all → Took all mid None
took_all before_puts mid all new is =
    let empty : receipt_of before_puts ≡ record { handed = []; failures = 0 } = unused_receipt before_puts new in
    let handed : mid.handed ≡ all = ap (λ (r : Receipt). r.handed) is ∙ ap (λ (r : Receipt). r.handed ++ all) empty in
    record {
      are_taken = subst (λ (t : List Artifact). AreTaken all t None) (sym handed) everything;
      counted = ap (λ (r : Receipt). r.failures) is ∙ ap (λ (r : Receipt). r.failures) empty;
    }

took_first : {D : Type 0} (before_puts mid : Held D) (all : List Artifact) (number : ℕ) (report : Report) → IsUnused before_puts → IsCut all (receipt_of before_puts) (receipt_of mid) number report → Took all mid (Some number)
took_first before_puts mid all number report new is =
    let empty : receipt_of before_puts ≡ record { handed = []; failures = 0 } = unused_receipt before_puts new in
    let cut = is.cut in
    let handed : mid.handed ≡ take cut.first all = ap (λ (r : Receipt). r.handed) cut.receipt ∙ ap (λ (r : Receipt). r.handed ++ take cut.first all) empty in
    record {
      are_taken = subst (λ (t : List Artifact). AreTaken all t (Some number)) (sym handed)
          (subst (λ (n : ℕ). AreTaken all (take cut.first all) (Some n)) (sym cut.number) (only_first cut.first cut.within));
      counted = ap (λ (r : Receipt). r.failures) cut.receipt ∙ ap (λ (r : Receipt). r.failures + 1) empty;
    }

-- If it isn't closed, it refused as many puts as it counts.
all_counted : (failures refusals : ℕ) (closed : Bool) → closed ≡ false → failures + closings closed ≡ refusals → failures ≡ refusals
all_counted failures refusals false opened h = omega (arith, h)
all_counted failures refusals true opened h = absurd (cc)

-- ---- what is left in files

abbrev Writes : List ℕ → Known → List Deed → Type 0
Writes log k more = IsReplaced k (codes "config.log") log more

abbrev Begins : Known → List Deed → Type 0
Begins k more = IsBegun k (codes "config.log") more

-- What is left by a run whose puts are known, and by its log.
left_so : (mid fin : Option Known) (guards : List Guard) (taken : List Artifact) (refusals : ℕ) (lines log : List ℕ) (places : List FilePlace) (is_logged : Bool)
    → IfSome mid (λ k. IsDoneApart k guards taken refusals lines places) → (is_logged ≡ true → Does mid fin (Writes log)) → (is_logged ≡ false → Does mid fin Begins)
    → IfSome fin (λ k. IsLeftSo k guards taken refusals lines log is_logged)
left_so mid None guards taken refusals lines log places is_logged done wrote began = tt
left_so None (Some new) guards taken refusals lines log places true done wrote began = absurd (wrote refl)
left_so None (Some new) guards taken refusals lines log places false done wrote began = absurd (began refl)
left_so (Some old) (Some new) guards taken refusals lines log places true done wrote began =
    let w = wrote refl in
    subst (λ k. IsLeftSo k guards taken refusals lines log true) (sym w.1)
    (record { places = places; before = old.deeds; logged = w.0; deeds = refl; done = done; written = λ e. w.2; unwritten = λ (e : true ≡ false). absurd (cc) })
left_so (Some old) (Some new) guards taken refusals lines log places false done wrote began =
    let w = began refl in
    subst (λ k. IsLeftSo k guards taken refusals lines log false) (sym w.1)
    (record { places = places; before = old.deeds; logged = w.0; deeds = refl; done = done; written = λ (e : false ≡ true). absurd (cc); unwritten = λ e. w.2 })

same_left : (old mid fin : Option Known) (log : List ℕ) (is_logged : Bool) → option_map (λ k. k.files) mid ≡ option_map (λ k. k.files) old
    → (is_logged ≡ true → Does mid fin (Writes log)) → (is_logged ≡ false → Does mid fin Begins) → AreSameFiles old fin
same_left old mid fin log true kept wrote began = same_by old mid fin (Writes log) kept (wrote refl)
same_left old mid fin log false kept wrote began = same_by old mid fin Begins kept (began refl)

-- What is left of a run that has this report.
run_left : {D : Type 0} (known : D → Option Known) (d : D) (before_puts mid fin : Held D) (window : ℕ) (a : List (List ℕ)) (script : Script) (settings : Settings) (c : Option (List ℕ)) (t : List (List ℕ × List ℕ)) (start : Start) (before now : Account) (report : Report) (number : Option ℕ) (left : RunLeft) (written : Written)
    → before_puts.disk ≡ d → mid.closed ≡ false → AreGuarded (known before_puts.disk) before_puts.guards (inputs_of settings.srcdir t) → mid.guards ≡ before_puts.guards → option_map (λ k. k.files) (known mid.disk) ≡ option_map (λ k. k.files) (known before_puts.disk)
    → AreGiven (known d) script settings.cache_name settings.srcdir settings.no_create c t → IsCacheApart (known d) settings.cache_name → started a c t script settings ≡ Ok start
    → IsMeant window script start before now report → Took (artifacts script start t report) mid number → IfCompleted report.outcome (Remakes script start t report) → IsReported known mid fin report number left → written ≡ written_after settings.quiet report mid.lines left
    → IsRunLeft window a script settings before now (known d) (known fin.disk) left written
run_left known d before_puts mid fin window a script settings c t start before now report number left written disk opened guarded same_guards same_files given apart is meant took again told writes =
    record {
      cache = c;
      templates = t;
      start = start;
      report = report;
      given = given;
      apart = apart;
      starts = is;
      meant = meant;
      remakes = again;
      exits = told.exits;
      taken = mid.handed;
      are_taken = subst (λ (o : Option ℕ). AreTaken (artifacts script start t report) mid.handed o) (sym told.refuses) took.are_taken;
      lines = mid.lines;
      are_lines = told.held.lines;
      writes = writes;
      guards = before_puts.guards;
      guarded = guarded_before known d before_puts.disk before_puts.guards (inputs_of settings.srcdir t) disk guarded;
      unguarded = subst (λ (gs : List Guard). AreUnguarded gs mid.handed) same_guards told.held.unguarded;
      same = same_left (known d) (known mid.disk) (known fin.disk) (log_of report.log) left.is_logged (same_files ∙ ap (λ x. option_map (λ k. k.files) (known x)) disk) told.logged told.unlogged;
      done =
          subst (λ n. IfSome (known fin.disk) (λ k. IsLeftSo k before_puts.guards mid.handed n mid.lines (log_of report.log) left.is_logged))
          (all_counted mid.failures (refusals_of left.refused) mid.closed opened (subst (λ (o : Option ℕ). mid.failures + closings mid.closed ≡ refusals_of o) (sym told.refuses) took.counted))
          (left_so (known mid.disk) (known fin.disk) before_puts.guards mid.handed mid.failures mid.lines (log_of report.log) mid.places left.is_logged
          (subst (λ (gs : List Guard). IfSome (known mid.disk) (λ k. IsDoneApart k gs mid.handed mid.failures mid.lines mid.places)) same_guards (told.held.done opened)) told.logged told.unlogged);
    }

-- ---- what is given has no fault of a put

abbrev IsNoPut : Fault → Type 0
IsNoPut (faults.PutRefused number report) = ⊥
IsNoPut f = Unit {0}

data HasNoPut {X : Type 0} : Result X Fault → Type 0 where
  value : {x : X} → HasNoPut (Ok x)
  fault : {f : Fault} → IsNoPut f → HasNoPut (Err f)

no_put_of : {X : Type 0} (f : Fault) → HasNoPut {X = X} (Err f) → IsNoPut f
no_put_of f (fault i) = i

then_no_put : {A B : Type 0} (r : Result A Fault) (f : A → Result B Fault) → HasNoPut r → ((x : A) → HasNoPut (f x)) → HasNoPut (r >>= f)
then_no_put (Ok x) f h k = k x
then_no_put (Err e) f h k = fault (no_put_of e h)

cache_no_put : {X : Type 0} (r : Result X CacheFault) → HasNoPut (named of_cache r)
cache_no_put (Ok x) = value
cache_no_put (Err caches.OutOfMemory) = fault tt
cache_no_put (Err f) = fault tt

precious_no_put : {X : Type 0} (r : Result X PreciousFault) → HasNoPut (named of_precious r)
precious_no_put (Ok x) = value
precious_no_put (Err preciouses.OutOfMemory) = fault tt
precious_no_put (Err f) = fault tt

old_no_put : (name text : Option (List ℕ)) → HasNoPut (old_of name text)
old_no_put None text = value
old_no_put (Some name) None = value
old_no_put (Some name) (Some text) = cache_no_put _

missing_no_put : (o : Option Output) → HasNoPut (none_missing o)
missing_no_put None = value
missing_no_put (Some output) = fault tt

unless_no_put : (b : Bool) (r : Result (Unit {0}) Fault) → HasNoPut r → HasNoPut (if b then Ok tt else r)
unless_no_put true r h = value
unless_no_put false r h = h

present_no_put : (no_create : Bool) (templates : List (List ℕ × List ℕ)) (files headers : List Output) → HasNoPut (present no_create templates files headers)
unfolding present
present_no_put no_create templates files headers =
    unless_no_put no_create (none_missing (missing templates files []) >>= λ x. none_missing (missing templates headers []))
    (then_no_put (none_missing (missing templates files [])) (λ x. none_missing (missing templates headers [])) (missing_no_put (missing templates files [])) (λ x. missing_no_put (missing templates headers [])))

started_no_put : (a : List (List ℕ)) (c : Option (List ℕ)) (t : List (List ℕ × List ℕ)) (script : Script) (settings : Settings) → HasNoPut (started a c t script settings)
unfolding started
started_no_put a c t script settings =
    then_no_put _ _ (old_no_put settings.cache_name c)
    (λ old. then_no_put _ _ (precious_no_put (checked (lists_of script).precious settings.vars old))
    (λ result. then_no_put _ _ (present_no_put settings.no_create t (lists_of script).files (lists_of script).headers) (λ x. value)))

-- ---- however it ended

-- What is known of a call of `go` over a receiver `before_puts`, which is `mid` then, and `fin` after
-- what follows from the call was written.
pub record IsGone {D : Type 0} (known : D → Option Known) (d : D) (before_puts mid fin : Held D) (r : Result Start Fault) (window : ℕ) (a : List (List ℕ)) (script : Script) (settings : Settings) (c : Option (List ℕ)) (t : List (List ℕ × List ℕ)) (before now : Account) (answer : Result Report Fault) : Type 0 where
  pub new : IsUnused before_puts
  pub disk : before_puts.disk ≡ d
  pub guarded : AreGuarded (known before_puts.disk) before_puts.guards (inputs_of settings.srcdir t)
  pub same_guards : mid.guards ≡ before_puts.guards
  pub same_closed : mid.closed ≡ before_puts.closed
  pub same_files : option_map (λ k. k.files) (known mid.disk) ≡ option_map (λ k. k.files) (known before_puts.disk)
  pub given : AreGiven (known d) script settings.cache_name settings.srcdir settings.no_create c t
  pub apart : IsCacheApart (known d) settings.cache_name
  pub is : started a c t script settings ≡ r
  pub accepted : IsAnswer (going_by script r) answer
  pub untouched : IsNotRun (going_by script r) → (now ≡ before) × (mid ≡ before_puts)
  pub meaning : IfStarts (going_by script r) (λ script start. IfReport answer (IsMeant window script start before now))
  pub handed : IfStarts (going_by script r) (λ script start. IfOk answer (λ report. receipt_of mid ≡ with_artifacts (receipt_of before_puts) (artifacts script start t report)))
  pub cut : IfStarts (going_by script r) (λ script start. IfPutRefused answer (λ number report. IsCut (artifacts script start t report) (receipt_of before_puts) (receipt_of mid) number report))
  pub remakes : IfStarts (going_by script r) (λ script start. IfReport answer (λ report. IfCompleted report.outcome (Remakes script start t report)))
  pub begun : IfStarts (going_by script r) (λ script start. answer ≡ Err faults.OutOfMemory → HasRunPart window script start before now)
  pub memory : answer ≡ Err faults.OutOfMemory → mid ≡ before_puts

-- Nothing was done, if the receiver is as it was.
nothing_done : {D : Type 0} (known : D → Option Known) (d : D) (before_puts mid fin : Held D) → before_puts.disk ≡ d → mid ≡ before_puts → fin ≡ mid → known fin.disk ≡ known d
nothing_done known d before_puts mid fin disk same told = ap (λ o. known o.disk) (told ∙ same) ∙ ap known disk

abbrev IsFault : Result Report Fault → Fault → Type 0
IsFault r f = r ≡ Err f

same_fault : (a b : Fault) → IsFault (Err a) b → a ≡ b
same_fault a b e = cc

-- The same end, by what is equal.
ends_as : (window : ℕ) (a : List (List ℕ)) (script : Script) (settings : Settings) (before now : Account) (old new : Option Known) (happened other : Happened) (said lines : Written)
    → happened ≡ other → said ≡ lines → IsRunEnd window a script settings before now old new other lines → IsRunEnd window a script settings before now old new happened said
ends_as window a script settings before now old new happened other said lines is says h =
    subst (λ x. IsRunEnd window a script settings before now old new x said) (sym is) (subst (λ ls. IsRunEnd window a script settings before now old new other ls) (sym says) h)

pub run_ended : {D : Type 0} (known : D → Option Known) (d : D) (before_puts mid fin : Held D) (r : Result Start Fault) (window : ℕ) (a : List (List ℕ)) (script : Script) (settings : Settings) (c : Option (List ℕ)) (t : List (List ℕ × List ℕ)) (before now : Account) (precious : List (List ℕ)) (quiet : Settings) (answer : Result Report Fault) (happened : Happened) (said : Written)
    → IsGone known d before_puts mid fin r window a script settings c t before now answer → precious ≡ (lists_of script).precious → quiet ≡ settings → IsFinished known quiet.quiet mid fin precious answer happened said
    → IsRunEnd window a script settings before now (known d) (known fin.disk) happened said
run_ended known d before_puts mid fin (Ok start) window a script settings c t before now precious quiet (Ok report) happened said g names same f =
    subst (λ h. IsRunEnd window a script settings before now (known d) (known fin.disk) h said) (sym f.1)
    (ran (run_left known d before_puts mid fin window a script settings c t start before now report None f.0 said g.disk (g.same_closed ∙ g.new.opened) g.guarded g.same_guards g.same_files g.given g.apart g.is
    g.meaning (took_all before_puts mid (artifacts script start t report) g.new g.handed) g.remakes f.2 (f.3 ∙ ap (λ (s : Settings). written_after s.quiet report mid.lines f.0) same)))
run_ended known d before_puts mid fin (Ok start) window a script settings c t before now precious quiet (Err (faults.PutRefused number report)) happened said g names same f =
    subst (λ h. IsRunEnd window a script settings before now (known d) (known fin.disk) h said) (sym f.1)
    (ran (run_left known d before_puts mid fin window a script settings c t start before now report (Some number) f.0 said g.disk (g.same_closed ∙ g.new.opened) g.guarded g.same_guards g.same_files g.given g.apart g.is
    g.meaning (took_first before_puts mid (artifacts script start t report) number report g.new g.cut) g.remakes f.2 (f.3 ∙ ap (λ (s : Settings). written_after s.quiet report mid.lines f.0) same)))
run_ended known d before_puts mid fin (Ok start) window a script settings c t before now precious quiet (Err faults.OutOfMemory) happened said g names same f =
    ends_as window a script settings before now (known d) (known fin.disk) happened OutOfMemory said (only_lines (memory_line ∷ [])) f.0 f.2
    (cut_off c t start g.given g.is (g.begun refl) (nothing_done known d before_puts mid fin g.disk (g.memory refl) f.1))
run_ended known d before_puts mid fin (Ok start) window a script settings c t before now precious quiet (Err other) happened said g names same f = absurd g.accepted
run_ended known d before_puts mid fin (Err first) window a script settings c t before now precious quiet (Ok report) happened said g names same f = let e : Ok report ≡ Err first = g.accepted in absurd (cc)
run_ended known d before_puts mid fin (Err first) window a script settings c t before now precious quiet (Err faults.OutOfMemory) happened said g names same f =
    ends_as window a script settings before now (known d) (known fin.disk) happened OutOfMemory said (only_lines (memory_line ∷ [])) f.0 f.2
    (unstarted (g.untouched tt).0 (nothing_done known d before_puts mid fin g.disk (g.untouched tt).1 f.1))
run_ended known d before_puts mid fin (Err first) window a script settings c t before now precious quiet (Err (faults.PutRefused number report)) happened said g names same f =
    absurd (no_put_of (faults.PutRefused number report) (subst HasNoPut (g.is ∙ ap Err (sym (same_fault _ _ g.accepted))) (started_no_put a c t script settings)))
run_ended known d before_puts mid fin (Err first) window a script settings c t before now precious quiet (Err other) happened said g names same f =
    ends_as window a script settings before now (known d) (known fin.disk) happened _ said _ f.0 (f.2 ∙ ap (λ p. only_lines (run_line (Some p) other ∷ [])) names)
    (refused c t g.given (g.is ∙ ap Err (sym (same_fault _ _ g.accepted))) (g.untouched tt).0 (nothing_done known d before_puts mid fin g.disk (g.untouched tt).1 f.1))
