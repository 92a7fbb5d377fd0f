-- What follows from all of a call, clause by clause.
use Rattle.std.proofs.Common.{◌≡◌, ℕ, Bool, true, false, List, Option, Some, None, length, Result, Ok, Err, refl, sym, subst, ap, ◌∙◌}
use Rattle.std.specs.Prelude.{IfOk, IsErrAnd, if◌then◌else◌}
use Rattle.output_put.specs.Receipt.{Receipt, with_artifacts}
use Rattle.acparse.specs.Profile.{source_of}
use Rattle.crew_trait.specs.Events.{Account}
use Rattle.options.specs.declared.settings.Settings.{Settings}
use Rattle.ac_tree.specs.Commands.{HasCommands}
use Rattle.ac_tree.specs.Script.{Script}
use Rattle.ac_tree.specs.TestNames.{HasTestNames}
use Rattle.engine_frame.specs.Faults.{Fails, ◌>>=◌, named, of_parse}
use Rattle.engine.specs.Judged.{going, acceptance}
use Rattle.engine_frame.specs.Given.{Accepted, Shows, Starts, accepted_after, source_settings, shows, started}
use Rattle.engine_frame.specs.Needed.{Needed, script_in}
use Rattle.engine_frame.specs.Judging.{judged_with, judgement, judged_of}
use Rattle.engine_frame.proofs.Judgements.{runs_as, shows_as}
use Rattle.engine.specs.Configured.{IsWhole, refused, memory, shown, ran, IsAnswer, IsNotRun, IfStarts, IfReport, IfPutRefused, IsMeant, IsDone, IsCut, HasRunPart, not_begun, artifacts, record_after}
use Rattle.engine.specs.Kept.{IsKept}
use Rattle.engine.specs.Remaking.{Remakes}
use Rattle.engine.proofs.Keeping.{kept_if_named}
use Rattle.engine.proofs.Remakings.{remakes_completed}
use Rattle.engine_frame.specs.Handing.{IfCompleted, ReadsBack, IfNamed, CacheReadsBack}
use Rattle.engine_frame.specs.Shown.{shown_report}
use Rattle.engine_frame.specs.declared.starting.Start.{Start}
use Rattle.engine_frame.specs.declared.judging.Judged.{Judged as Found}
use Rattle.engine_frame.specs.declared.judging.Judged.TheVariants as founds
use Rattle.engine_frame.specs.declared.fault.Fault.{Fault}
use Rattle.engine_frame.specs.declared.fault.Fault.TheVariants.{OutOfMemory, PutRefused}
use Rattle.engine_frame.specs.declared.report.Report.{Report}

-- ---- what is judged, from its parts

-- after the source
abbrev pub after_source : List (List ℕ) → List (List ℕ × List ℕ) → Option (List ℕ) → List (List ℕ × List ℕ) → Script → Result Accepted Fault
after_source a e c t script = source_settings a e script >>= accepted_after a c t script

pub judged_first : (s : List ℕ) (a : List (List ℕ)) (e : List (List ℕ × List ℕ)) (c : Option (List ℕ)) (t : List (List ℕ × List ℕ)) → acceptance s a e c t ≡ (named of_parse (source_of s) >>= after_source a e c t)
unfolding acceptance
judged_first s a e c t = refl

judged_second : (s : List ℕ) (a : List (List ℕ)) (e : List (List ℕ × List ℕ)) (c : Option (List ℕ)) (t : List (List ℕ × List ℕ)) (script : Script) → named of_parse (source_of s) ≡ Ok script → acceptance s a e c t ≡ after_source a e c t script
judged_second s a e c t script is = judged_first s a e c t ∙ ap (λ r. r >>= after_source a e c t) is

bind_ok : {A B F : Type 0} (r : Result A F) (f : A → Result B F) (y : B) → (r >>= f) ≡ Ok y → (x : A) × ((r ≡ Ok x) × (f x ≡ Ok y))
bind_ok (Ok x) f y e = (x, (refl, e))
bind_ok (Err g) f y e = absurd cc

named_ok : {A E F : Type 0} (fault : E → F) (r : Result A E) (x : A) → named fault r ≡ Ok x → r ≡ Ok x
named_ok fault (Ok y) x e = let same : y ≡ x = cc in ap Ok same
named_ok fault (Err f) x e = absurd cc

abbrev chosen : List (List ℕ) → Option (List ℕ) → List (List ℕ × List ℕ) → Script → Settings → Bool → Result Accepted Fault
chosen a c t script settings b = if b then Ok (Shows script settings) else (started a c t script settings >>= λ start. Ok (Starts script start))

is_answered : (a : List (List ℕ)) (c : Option (List ℕ)) (t : List (List ℕ × List ℕ)) (script : Script) (settings : Settings) → accepted_after a c t script settings ≡ chosen a c t script settings (shows settings)
unfolding accepted_after
is_answered a c t script settings = refl

same_begun : (a : List (List ℕ)) (c : Option (List ℕ)) (t : List (List ℕ × List ℕ)) (read script : Script) (settings : Settings) (start : Start) → (started a c t read settings >>= λ at. Ok (Starts read at)) ≡ Ok (Starts script start) → read ≡ script
same_begun a c t read script settings start is =
    let begins = bind_ok (started a c t read settings) (λ at. Ok (Starts read at)) (Starts script start) is in
    let same : Ok (Starts read begins.0) ≡ Ok (Starts script start) = begins.1.1 in cc

same_chosen : (a : List (List ℕ)) (c : Option (List ℕ)) (t : List (List ℕ × List ℕ)) (read script : Script) (settings : Settings) (start : Start) (b : Bool) → chosen a c t read settings b ≡ Ok (Starts script start) → read ≡ script
same_chosen a c t read script settings start true is = absurd cc
same_chosen a c t read script settings start false is = same_begun a c t read script settings start is

-- The statements of a run are those of the source.
source_is : (s : List ℕ) (a : List (List ℕ)) (e : List (List ℕ × List ℕ)) (c : Option (List ℕ)) (t : List (List ℕ × List ℕ)) (script : Script) (start : Start) → acceptance s a e c t ≡ Ok (Starts script start) → source_of s ≡ Ok script
source_is s a e c t script start is =
    let read = bind_ok (named of_parse (source_of s)) (after_source a e c t) (Starts script start) (sym (judged_first s a e c t) ∙ is) in
    let asks = bind_ok (source_settings a e read.0) (accepted_after a c t read.0) (Starts script start) read.1.1 in
    named_ok of_parse (source_of s) read.0 read.1.0
    ∙ ap Ok (same_chosen a c t read.0 script asks.0 start (shows asks.0) (sym (is_answered a c t read.0 asks.0) ∙ asks.1.1))

-- What every source keeps.
pub record Forms (script : Script) : Type 0 where
  pub commands : HasCommands script
  pub names : HasTestNames script

pub judged_forms : (s : List ℕ) (a : List (List ℕ)) (e : List (List ℕ × List ℕ)) (c : Option (List ℕ)) (t : List (List ℕ × List ℕ))
    → ((script : Script) → source_of s ≡ Ok script → HasCommands script) → ((script : Script) → source_of s ≡ Ok script → HasTestNames script)
    → (script : Script) (start : Start) → acceptance s a e c t ≡ Ok (Starts script start) → Forms script
judged_forms s a e c t commands names script start is =
    let source = source_is s a e c t script start is in
    record { commands = commands script source; names = names script source }

pub going_forms : (n : Needed) (c : Option (List ℕ)) (t : List (List ℕ × List ℕ)) → HasCommands (script_in n) → HasTestNames (script_in n) → (script : Script) (start : Start) → going n c t ≡ Ok (Starts script start) → Forms script
going_forms n c t commands names script start is =
    subst Forms (same_begun n.arguments c t (script_in n) script n.settings start is) (record { commands = commands; names = names })

-- ---- what a function judged

unasked : (a : List (List ℕ)) (e : List (List ℕ × List ℕ)) (script : Script) (f : Fault) → judgement a e script ≡ Err f → source_settings a e script ≡ Err f
unfolding judgement
unasked a e script f is = by_asked (source_settings a e script) is
  where
    by_asked : (r : Result Settings Fault) → (r >>= λ settings. Ok (judged_with a script settings)) ≡ Err f → r ≡ Err f
    by_asked (Ok settings) is = absurd cc
    by_asked (Err g) is = let same : g ≡ f = cc in ap Err same

fails_asked : (a : List (List ℕ)) (e : List (List ℕ × List ℕ)) (script : Script) (f : Fault) → Fails f (judgement a e script) → Fails f (source_settings a e script)
fails_asked a e script OutOfMemory h = tt
fails_asked a e script f h = unasked a e script f h

-- A source that is to be run.
pub judged_runs : (s : List ℕ) (a : List (List ℕ)) (e : List (List ℕ × List ℕ)) (c : Option (List ℕ)) (t : List (List ℕ × List ℕ)) (script : Script) (found : Found) (n : Needed)
    → named of_parse (source_of s) ≡ Ok script → judgement a e script ≡ Ok (judged_of found) → found ≡ founds.Runs n → acceptance s a e c t ≡ going n c t
judged_runs s a e c t script found n read is kind =
    let runs = runs_as a e script found n is kind in
    judged_second s a e c t script read ∙ ap (λ r. r >>= accepted_after a c t script) runs.asks ∙ is_answered a c t script n.settings ∙ ap (chosen a c t script n.settings) runs.runs
    ∙ ap (λ x. started x c t script n.settings >>= λ start. Ok (Starts script start)) runs.arguments
    ∙ ap (λ x. started n.arguments c t x n.settings >>= λ start. Ok (Starts x start)) runs.script_is

-- ---- the exits

-- a fault of a part, where the whole has the part first
pub fails_first : {Y : Type 0} (f : Fault) (part : Result Y Fault) (same : Type 0) (window : ℕ) (j : Result Accepted Fault) (k : Y → Result Accepted Fault) (templates : List (List ℕ × List ℕ)) (before now : Account) (old new : Receipt) (result : Result Report Fault)
    → j ≡ (part >>= k) → Fails f part → IsErrAnd result (λ e. e ≡ f) → same → IsWhole same window j templates before now old new result
fails_first f part same window j k templates before now old new (Ok x) is gives h s = absurd h
fails_first OutOfMemory part same window j k templates before now old new (Err e) is gives h s = subst (λ e. IsWhole same window j templates before now old new (Err e)) (sym h) (memory s)
fails_first f part same window j k templates before now old new (Err e) is gives h s =
    subst (λ e. IsWhole same window j templates before now old new (Err e)) (sym h) (refused (is ∙ ap (λ r. r >>= k) gives) s)

-- a fault of the last part
pub fails_last : (f : Fault) (part : Result Accepted Fault) (same : Type 0) (window : ℕ) (j : Result Accepted Fault) (templates : List (List ℕ × List ℕ)) (before now : Account) (old new : Receipt) (result : Result Report Fault)
    → j ≡ part → Fails f part → IsErrAnd result (λ e. e ≡ f) → same → IsWhole same window j templates before now old new result
fails_last f part same window j templates before now old new (Ok x) is gives h s = absurd h
fails_last OutOfMemory part same window j templates before now old new (Err e) is gives h s = subst (λ e. IsWhole same window j templates before now old new (Err e)) (sym h) (memory s)
fails_last f part same window j templates before now old new (Err e) is gives h s =
    subst (λ e. IsWhole same window j templates before now old new (Err e)) (sym h) (refused (is ∙ gives) s)

-- a fault of the plan or of the arguments
pub fails_judged : (s : List ℕ) (a : List (List ℕ)) (e : List (List ℕ × List ℕ)) (c : Option (List ℕ)) (t : List (List ℕ × List ℕ)) (script : Script) (f : Fault) (same : Type 0) (window : ℕ) (templates : List (List ℕ × List ℕ)) (before now : Account) (old new : Receipt) (result : Result Report Fault)
    → named of_parse (source_of s) ≡ Ok script → Fails f (judgement a e script) → IsErrAnd result (λ e. e ≡ f) → same → IsWhole same window (acceptance s a e c t) templates before now old new result
fails_judged s a e c t script f same window templates before now old new result read gives h u =
    fails_first f (source_settings a e script) same window (acceptance s a e c t) (accepted_after a c t script) templates before now old new result (judged_second s a e c t script read) (fails_asked a e script f gives) h u

-- a text is shown
pub shows_text : (s : List ℕ) (a : List (List ℕ)) (e : List (List ℕ × List ℕ)) (c : Option (List ℕ)) (t : List (List ℕ × List ℕ)) (script : Script) (found : Found) (report : Report) (same : Type 0) (window : ℕ) (templates : List (List ℕ × List ℕ)) (before now : Account) (old new : Receipt)
    → named of_parse (source_of s) ≡ Ok script → judgement a e script ≡ Ok (judged_of found) → found ≡ founds.Shows report → same → IsWhole same window (acceptance s a e c t) templates before now old new (Ok report)
shows_text s a e c t script found report same window templates before now old new read is kind u =
    let told = shows_as a e script found report is kind in
    subst (λ r. IsWhole same window (acceptance s a e c t) templates before now old new (Ok r)) (sym told.is)
    (shown {script = script} {settings = told.settings}
    (judged_second s a e c t script read ∙ ap (λ r. r >>= accepted_after a c t script) told.asks ∙ is_answered a c t script told.settings ∙ ap (chosen a c t script told.settings) told.shows_it) u)

-- a run that starts
pub starts : (same : Type 0) (window : ℕ) (n : Needed) (c : Option (List ℕ)) (templates : List (List ℕ × List ℕ)) (before now : Account) (old new : Receipt) (start : Start) (result : Result Report Fault)
    → started n.arguments c templates (script_in n) n.settings ≡ Ok start → IsDone window (script_in n) start templates before now old new result → IsWhole same window (going n c templates) templates before now old new result
starts same window n c templates before now old new start result is done =
    ran {script = (script_in n)} {start = start} (ap (λ r. r >>= λ begun. Ok (Starts (script_in n) begun)) is) done

-- what was judged, written in another way
pub same_whole : (same : Type 0) (window : ℕ) (j k : Result Accepted Fault) (templates : List (List ℕ × List ℕ)) (before now : Account) (old new : Receipt) (result : Result Report Fault)
    → j ≡ k → IsWhole same window k templates before now old new result → IsWhole same window j templates before now old new result
same_whole same window j k templates before now old new result is whole = subst (λ x. IsWhole same window x templates before now old new result) (sym is) whole

-- memory ran out
pub fails_memory : (same : Type 0) (window : ℕ) (j : Result Accepted Fault) (templates : List (List ℕ × List ℕ)) (before now : Account) (old new : Receipt) (result : Result Report Fault)
    → IsErrAnd result (λ e. e ≡ OutOfMemory) → same → IsWhole same window j templates before now old new result
fails_memory same window j templates before now old new (Ok x) h s = absurd h
fails_memory same window j templates before now old new (Err e) h s = subst (λ e. IsWhole same window j templates before now old new (Err e)) (sym h) (memory s)

-- memory ran out in a run, or after it
pub unfinished : (window : ℕ) (script : Script) (start : Start) (templates : List (List ℕ × List ℕ)) (before now : Account) (old new : Receipt) (result : Result Report Fault)
    → IsErrAnd result (λ e. e ≡ OutOfMemory) → HasRunPart window script start before now → IsDone window script start templates before now old new result
unfinished window script start templates before now old new (Ok report) h part = absurd h
unfinished window script start templates before now old new (Err e) h part = subst (λ e. IsDone window script start templates before now old new (Err e)) (sym h) (refl, part)

-- ---- the clauses

all_starts : (Q : Script → Start → Type 0) (j : Result Accepted Fault) → ((script : Script) (start : Start) → Q script start) → IfStarts j Q
all_starts Q (Err f) all = tt
all_starts Q (Ok (Shows script settings)) all = tt
all_starts Q (Ok (Starts script start)) all = all script start

answer_refused : (f : Fault) → IsAnswer (Err f) (Err f)
answer_refused OutOfMemory = tt
answer_refused f = refl

answer_memory : (j : Result Accepted Fault) → IsAnswer j (Err OutOfMemory)
answer_memory (Err f) = tt
answer_memory (Ok (Shows script settings)) = tt
answer_memory (Ok (Starts script start)) = tt

answer_done : (window : ℕ) (script : Script) (start : Start) (templates : List (List ℕ × List ℕ)) (before now : Account) (old new : Receipt) (result : Result Report Fault)
    → IsDone window script start templates before now old new result → IsAnswer (Ok (Starts script start)) result
answer_done window script start templates before now old new (Ok report) done = tt
answer_done window script start templates before now old new (Err (PutRefused k report)) done = tt
answer_done window script start templates before now old new (Err OutOfMemory) done = tt
answer_done window script start templates before now old new (Err f) done = let is : f ≡ OutOfMemory = done.0 in absurd cc

pub is_answer : (same : Type 0) (window : ℕ) (j : Result Accepted Fault) (templates : List (List ℕ × List ℕ)) (before now : Account) (old new : Receipt) (result : Result Report Fault)
    → IsWhole same window j templates before now old new result → IsAnswer j result
is_answer same window j templates before now old new result (refused {f} is s) = subst (λ j. IsAnswer j (Err f)) (sym is) (answer_refused f)
is_answer same window j templates before now old new result (memory s) = answer_memory j
is_answer same window j templates before now old new result (shown {script} {settings} is s) = subst (λ j. IsAnswer j (Ok (shown_report script settings))) (sym is) refl
is_answer same window j templates before now old new result (ran {script} {start} is done) =
    subst (λ j. IsAnswer j result) (sym is) (answer_done window script start templates before now old new result done)

pub is_untouched : (same : Type 0) (window : ℕ) (j : Result Accepted Fault) (templates : List (List ℕ × List ℕ)) (before now : Account) (old new : Receipt) (result : Result Report Fault)
    → IsWhole same window j templates before now old new result → IsNotRun j → same
is_untouched same window j templates before now old new result (refused is s) h = s
is_untouched same window j templates before now old new result (memory s) h = s
is_untouched same window j templates before now old new result (shown is s) h = s
is_untouched same window j templates before now old new result (ran is done) h = absurd (subst IsNotRun is h)

-- What holds of each run that was accepted, if it holds of what is done, and if memory runs out.
pub when_starts : (Q : Script → Start → Type 0) (same : Type 0) (window : ℕ) (j : Result Accepted Fault) (templates : List (List ℕ × List ℕ)) (before now : Account) (old new : Receipt) (result : Result Report Fault)
    → IsWhole same window j templates before now old new result → ((script : Script) (start : Start) → IsDone window script start templates before now old new result → Q script start)
    → (result ≡ Err OutOfMemory → (script : Script) (start : Start) → Q script start) → IfStarts j Q
when_starts Q same window j templates before now old new result (refused is s) done none = subst (λ j. IfStarts j Q) (sym is) tt
when_starts Q same window j templates before now old new result (memory s) done none = all_starts Q j (none refl)
when_starts Q same window j templates before now old new result (shown is s) done none = subst (λ j. IfStarts j Q) (sym is) tt
when_starts Q same window j templates before now old new result (ran {script} {start} is d) done none = subst (λ j. IfStarts j Q) (sym is) (done script start d)

meant_done : (window : ℕ) (script : Script) (start : Start) (templates : List (List ℕ × List ℕ)) (before now : Account) (old new : Receipt) (result : Result Report Fault)
    → IsDone window script start templates before now old new result → IfReport result (IsMeant window script start before now)
meant_done window script start templates before now old new (Ok report) done = done.0
meant_done window script start templates before now old new (Err (PutRefused k report)) done = done.0
meant_done window script start templates before now old new (Err f) done = tt

handed_done : (window : ℕ) (script : Script) (start : Start) (templates : List (List ℕ × List ℕ)) (before now : Account) (old new : Receipt) (result : Result Report Fault)
    → IsDone window script start templates before now old new result → IfOk result (λ report. new ≡ with_artifacts old (artifacts script start templates report))
handed_done window script start templates before now old new (Ok report) done = done.1
handed_done window script start templates before now old new (Err f) done = tt

reported_done : (window : ℕ) (script : Script) (start : Start) (templates : List (List ℕ × List ℕ)) (before now : Account) (old new : Receipt) (result : Result Report Fault)
    → IsDone window script start templates before now old new result → IfOk result (λ report. report.handed ≡ length (artifacts script start templates report))
reported_done window script start templates before now old new (Ok report) done = done.2
reported_done window script start templates before now old new (Err f) done = tt

remade_done : (window : ℕ) (script : Script) (start : Start) (templates : List (List ℕ × List ℕ)) (before now : Account) (old new : Receipt) (result : Result Report Fault)
    → IsDone window script start templates before now old new result → IfReport result (λ report. IfCompleted report.outcome (ReadsBack (record_after script start report)))
remade_done window script start templates before now old new (Ok report) done = done.3
remade_done window script start templates before now old new (Err (PutRefused k report)) done = done.2
remade_done window script start templates before now old new (Err f) done = tt

cut_done : (window : ℕ) (script : Script) (start : Start) (templates : List (List ℕ × List ℕ)) (before now : Account) (old new : Receipt) (result : Result Report Fault)
    → IsDone window script start templates before now old new result → IfPutRefused result (λ number report. IsCut (artifacts script start templates report) old new number report)
cut_done window script start templates before now old new (Ok report) done = tt
cut_done window script start templates before now old new (Err (PutRefused k report)) done = done.1
cut_done window script start templates before now old new (Err f) done = tt

if_named : {P Q : Type 0} (name : Option (List ℕ)) → (P → Q) → IfNamed name P → IfNamed name Q
if_named None more p = tt
if_named (Some name) more p = more p

kept_done : (window : ℕ) (script : Script) (start : Start) (templates : List (List ℕ × List ℕ)) (before now : Account) (old new : Receipt) (result : Result Report Fault)
    → HasCommands script → HasTestNames script → IsDone window script start templates before now old new result → IfReport result (λ report. IfNamed start.cache_name (IsKept window script start before now report))
kept_done window script start templates before now old new (Ok report) commands names done = kept_if_named start.cache_name done.0 commands names done.4
kept_done window script start templates before now old new (Err (PutRefused k report)) commands names done = kept_if_named start.cache_name done.0 commands names done.3
kept_done window script start templates before now old new (Err f) commands names done = tt

read_done : (window : ℕ) (script : Script) (start : Start) (templates : List (List ℕ × List ℕ)) (before now : Account) (old new : Receipt) (result : Result Report Fault)
    → IsDone window script start templates before now old new result → IfReport result (λ report. IfNamed start.cache_name (CacheReadsBack report.vars))
read_done window script start templates before now old new (Ok report) done = if_named start.cache_name (λ cache. cache.reads_back) done.4
read_done window script start templates before now old new (Err (PutRefused k report)) done = if_named start.cache_name (λ cache. cache.reads_back) done.3
read_done window script start templates before now old new (Err f) done = tt

remakes_done : (window : ℕ) (script : Script) (start : Start) (templates : List (List ℕ × List ℕ)) (before now : Account) (old new : Receipt) (result : Result Report Fault)
    → IsDone window script start templates before now old new result → IfReport result (λ report. IfCompleted report.outcome (Remakes script start templates report))
remakes_done window script start templates before now old new (Ok report) done = remakes_completed script start templates report done.3
remakes_done window script start templates before now old new (Err (PutRefused k report)) done = remakes_completed script start templates report done.2
remakes_done window script start templates before now old new (Err f) done = tt

begun_done : (window : ℕ) (script : Script) (start : Start) (templates : List (List ℕ × List ℕ)) (before now : Account) (old new : Receipt) (result : Result Report Fault)
    → IsDone window script start templates before now old new result → result ≡ Err OutOfMemory → HasRunPart window script start before now
begun_done window script start templates before now old new (Ok report) done is = absurd cc
begun_done window script start templates before now old new (Err (PutRefused k report)) done is = absurd cc
begun_done window script start templates before now old new (Err f) done is = done.1

pub is_meant : (same : Type 0) (window : ℕ) (j : Result Accepted Fault) (templates : List (List ℕ × List ℕ)) (before now : Account) (old new : Receipt) (result : Result Report Fault)
    → IsWhole same window j templates before now old new result → IfStarts j (λ script start. IfReport result (IsMeant window script start before now))
is_meant same window j templates before now old new result whole =
    when_starts (λ script start. IfReport result (IsMeant window script start before now)) same window j templates before now old new result whole
    (λ script start d. meant_done window script start templates before now old new result d)
    (λ e script start. subst (λ (r : Result Report Fault). IfReport r (IsMeant window script start before now)) (sym e) tt)

pub is_handed : (same : Type 0) (window : ℕ) (j : Result Accepted Fault) (templates : List (List ℕ × List ℕ)) (before now : Account) (old new : Receipt) (result : Result Report Fault)
    → IsWhole same window j templates before now old new result → IfStarts j (λ script start. IfOk result (λ report. new ≡ with_artifacts old (artifacts script start templates report)))
is_handed same window j templates before now old new result whole =
    when_starts (λ script start. IfOk result (λ report. new ≡ with_artifacts old (artifacts script start templates report))) same window j templates before now old new result whole
    (λ script start d. handed_done window script start templates before now old new result d)
    (λ e script start. subst (λ (r : Result Report Fault). IfOk r (λ report. new ≡ with_artifacts old (artifacts script start templates report))) (sym e) tt)

pub is_reported : (same : Type 0) (window : ℕ) (j : Result Accepted Fault) (templates : List (List ℕ × List ℕ)) (before now : Account) (old new : Receipt) (result : Result Report Fault)
    → IsWhole same window j templates before now old new result → IfStarts j (λ script start. IfOk result (λ report. report.handed ≡ length (artifacts script start templates report)))
is_reported same window j templates before now old new result whole =
    when_starts (λ script start. IfOk result (λ report. report.handed ≡ length (artifacts script start templates report))) same window j templates before now old new result whole
    (λ script start d. reported_done window script start templates before now old new result d)
    (λ e script start. subst (λ (r : Result Report Fault). IfOk r (λ report. report.handed ≡ length (artifacts script start templates report))) (sym e) tt)

pub is_remade : (same : Type 0) (window : ℕ) (j : Result Accepted Fault) (templates : List (List ℕ × List ℕ)) (before now : Account) (old new : Receipt) (result : Result Report Fault)
    → IsWhole same window j templates before now old new result → IfStarts j (λ script start. IfReport result (λ report. IfCompleted report.outcome (ReadsBack (record_after script start report))))
is_remade same window j templates before now old new result whole =
    when_starts (λ script start. IfReport result (λ report. IfCompleted report.outcome (ReadsBack (record_after script start report)))) same window j templates before now old new result whole
    (λ script start d. remade_done window script start templates before now old new result d)
    (λ e script start. subst (λ (r : Result Report Fault). IfReport r (λ report. IfCompleted report.outcome (ReadsBack (record_after script start report)))) (sym e) tt)

pub is_cut : (same : Type 0) (window : ℕ) (j : Result Accepted Fault) (templates : List (List ℕ × List ℕ)) (before now : Account) (old new : Receipt) (result : Result Report Fault)
    → IsWhole same window j templates before now old new result → IfStarts j (λ script start. IfPutRefused result (λ number report. IsCut (artifacts script start templates report) old new number report))
is_cut same window j templates before now old new result whole =
    when_starts (λ script start. IfPutRefused result (λ number report. IsCut (artifacts script start templates report) old new number report)) same window j templates before now old new result whole
    (λ script start d. cut_done window script start templates before now old new result d)
    (λ e script start. subst (λ (r : Result Report Fault). IfPutRefused r (λ number report. IsCut (artifacts script start templates report) old new number report)) (sym e) tt)

-- The cache of a run, if a cache is named.
abbrev kept_by : ℕ → Account → Account → Result Report Fault → Script → Start → Type 0
kept_by window before now result script start = IfReport result (λ report. IfNamed start.cache_name (IsKept window script start before now report))

-- It holds what was set, since each source that is read has its forms.
pub holds_set : (same : Type 0) (window : ℕ) (j : Result Accepted Fault) (templates : List (List ℕ × List ℕ)) (before now : Account) (old new : Receipt) (result : Result Report Fault)
    → ((script : Script) (start : Start) → j ≡ Ok (Starts script start) → Forms script) → IsWhole same window j templates before now old new result → IfStarts j (kept_by window before now result)
holds_set same window j templates before now old new result forms (refused is u) = subst (λ j. IfStarts j (kept_by window before now result)) (sym is) tt
holds_set same window j templates before now old new result forms (memory u) = all_starts (kept_by window before now result) j (λ script start. tt)
holds_set same window j templates before now old new result forms (shown is u) = subst (λ j. IfStarts j (kept_by window before now result)) (sym is) tt
holds_set same window j templates before now old new result forms (ran {script} {start} is done) =
    let has = forms script start is in
    subst (λ j. IfStarts j (kept_by window before now result)) (sym is) (kept_done window script start templates before now old new result has.commands has.names done)

pub reads_back : (same : Type 0) (window : ℕ) (j : Result Accepted Fault) (templates : List (List ℕ × List ℕ)) (before now : Account) (old new : Receipt) (result : Result Report Fault)
    → IsWhole same window j templates before now old new result → IfStarts j (λ script start. IfReport result (λ report. IfNamed start.cache_name (CacheReadsBack report.vars)))
reads_back same window j templates before now old new result whole =
    when_starts (λ script start. IfReport result (λ report. IfNamed start.cache_name (CacheReadsBack report.vars))) same window j templates before now old new result whole
    (λ script start d. read_done window script start templates before now old new result d)
    (λ e script start. subst (λ (r : Result Report Fault). IfReport r (λ report. IfNamed start.cache_name (CacheReadsBack report.vars))) (sym e) tt)

pub is_remakable : (same : Type 0) (window : ℕ) (j : Result Accepted Fault) (templates : List (List ℕ × List ℕ)) (before now : Account) (old new : Receipt) (result : Result Report Fault)
    → IsWhole same window j templates before now old new result → IfStarts j (λ script start. IfReport result (λ report. IfCompleted report.outcome (Remakes script start templates report)))
is_remakable same window j templates before now old new result whole =
    when_starts (λ script start. IfReport result (λ report. IfCompleted report.outcome (Remakes script start templates report))) same window j templates before now old new result whole
    (λ script start d. remakes_done window script start templates before now old new result d)
    (λ e script start. subst (λ (r : Result Report Fault). IfReport r (λ report. IfCompleted report.outcome (Remakes script start templates report))) (sym e) tt)

-- If memory ran out, this was done of the run.
abbrev run_part : ℕ → Account → Account → Result Report Fault → Script → Start → Type 0
run_part window before now result script start = result ≡ Err OutOfMemory → HasRunPart window script start before now

-- What was done before memory ran out, if `same` says that nothing was started.
pub has_run_part : (same : Type 0) (window : ℕ) (j : Result Accepted Fault) (templates : List (List ℕ × List ℕ)) (before now : Account) (old new : Receipt) (result : Result Report Fault)
    → IsWhole same window j templates before now old new result → (same → now ≡ before)
    → IfStarts j (λ script start. result ≡ Err OutOfMemory → HasRunPart window script start before now)
has_run_part same window j templates before now old new result (refused {f} is s) unstarted = subst (λ j. IfStarts j (run_part window before now result)) (sym is) tt
has_run_part same window j templates before now old new result (memory s) unstarted = all_starts (run_part window before now result) j (λ script start e. not_begun (unstarted s))
has_run_part same window j templates before now old new result (shown is s) unstarted = subst (λ j. IfStarts j (run_part window before now result)) (sym is) tt
has_run_part same window j templates before now old new result (ran {script} {start} is d) unstarted =
    subst (λ j. IfStarts j (run_part window before now result)) (sym is) (begun_done window script start templates before now old new result d)
