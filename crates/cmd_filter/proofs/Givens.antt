-- What follows from a source without arguments, environment and cache.
use Rattle.std.proofs.Common.{◌≡◌, ℕ, Bool, true, false, List, [], Result, Ok, Err, None, refl, sym, ap, ◌∙◌, subst}
use Rattle.std.specs.Prelude.{IfOk, IfErr, IsErrAnd, nat_le, if◌then◌else◌}
use Rattle.options_line.specs.Arguments.{settings_from}
use Rattle.engine.specs.Configured.{artifacts}
use Rattle.engine_frame.specs.Faults.{Fails, ◌>>=◌, wants}
use Rattle.engine.specs.Judged.{IsRead, going}
use Rattle.engine_frame.specs.Given.{Accepted, Shows, Starts, accepted_after, source_settings, shows, started}
use Rattle.engine_frame.specs.Judging.{judged_with, judgement, judged_of}
use Rattle.engine_frame.specs.Needed.{Needed, script_in}
use Rattle.engine_frame.specs.declared.judging.Judged.{Judged as Found}
use Rattle.engine_frame.specs.declared.judging.Judged.TheVariants as founds
use Rattle.engine_frame.proofs.Judgements.{runs_as, shows_as}
use Rattle.engine_frame.specs.declared.starting.Start.{Start}
use Rattle.engine_frame.specs.declared.fault.Fault.{Fault}
use Rattle.engine_frame.specs.declared.fault.Fault.TheVariants.{Plan, OutOfMemory}
use Rattle.engine_frame.specs.declared.report.Report.{Report}
use Rattle.options.specs.Opening.{opened_by, opening, run_settings, set_by, setters}
use Rattle.options.specs.Unrecognized.{notes_of}
use Rattle.options.specs.declared.settings.Settings.{Settings}
use Rattle.output_put.specs.declared.artifact.Artifact.{Artifact}
use Rattle.plan.specs.Weight.{heaviest, weight}
use Rattle.plan.specs.declared.fault.PlanFault.TheVariants.{TooLong}
use Rattle.ac_tree.specs.Lists.{lists_of}
use Rattle.ac_tree.specs.Script.{Script}
use Rattle.cmd_filter.specs.Faults.{of_run}
use Rattle.cmd_filter.specs.Filtered.{IsRun}
use Rattle.cmd_filter.proofs.Alone.{not_run_by}
use Rattle.cmd_filter.specs.Handed.{IsNotRun, IsReported, IsTaken, first_text, judged_alone, templates_of}
use Rattle.cmd_filter.specs.Ran.{IsAlone}
use Rattle.cmd_filter.specs.declared.fault.FilterFault.{FilterFault}

abbrev bare : Script → Settings
bare s = run_settings (lists_of s).precious (set_by (setters [] [])) [] []

-- without arguments no text is shown
asked_alone : (s : Script) → source_settings [] [] s ≡ (wants (nat_le (weight s) heaviest) (Plan TooLong) >>= λ _. Ok (bare s))
unfolding source_settings opening settings_from opened_by notes_of run_settings
asked_alone s = refl

answered_alone : (templates : List (List ℕ × List ℕ)) (s : Script) → accepted_after [] None templates s (bare s) ≡ (started [] None templates s (bare s) >>= λ start. Ok (Starts s start))
unfolding accepted_after run_settings
answered_alone templates s = refl

first_is : (templates : List (List ℕ × List ℕ)) (s : Script) (fits : Result (Unit {0}) Fault)
    → ((fits >>= λ _. Ok (bare s)) >>= λ settings. accepted_after [] None templates s settings) ≡ (fits >>= λ _. accepted_after [] None templates s (bare s))
first_is templates s (Ok u) = refl
first_is templates s (Err f) = refl

alone_by : (templates : List (List ℕ × List ℕ)) (s : Script) → judged_alone s templates ≡ (source_settings [] [] s >>= λ settings. accepted_after [] None templates s settings)
unfolding judged_alone
alone_by templates s = refl

judged_is : (templates : List (List ℕ × List ℕ)) (s : Script)
    → judged_alone s templates ≡ (wants (nat_le (weight s) heaviest) (Plan TooLong) >>= λ _. (started [] None templates s (bare s) >>= λ start. Ok (Starts s start)))
judged_is templates s =
    alone_by templates s ∙ ap (λ r. r >>= λ settings. accepted_after [] None templates s settings) (asked_alone s)
    ∙ first_is templates s (wants (nat_le (weight s) heaviest) (Plan TooLong))
    ∙ ap (λ a. wants (nat_le (weight s) heaviest) (Plan TooLong) >>= λ _. a) (answered_alone templates s)

answers : (templates : List (List ℕ × List ℕ)) (s : Script) (settings : Settings) (b : Bool) → b ≡ false
    → (if b then Ok (Shows s settings) else (started [] None templates s settings >>= λ start. Ok (Starts s start))) ≡ (started [] None templates s settings >>= λ start. Ok (Starts s start))
answers templates s settings true is = absurd cc
answers templates s settings false is = refl

going_on : (templates : List (List ℕ × List ℕ)) (s : Script) (settings : Settings) → shows settings ≡ false → accepted_after [] None templates s settings ≡ (started [] None templates s settings >>= λ start. Ok (Starts s start))
unfolding accepted_after
going_on templates s settings is = answers templates s settings (shows settings) is

-- What was judged of the statements is what they are run by.
pub alone_going : (templates : List (List ℕ × List ℕ)) (s : Script) (found : Found) (n : Needed) → judgement [] [] s ≡ Ok (judged_of found) → found ≡ founds.Runs n → judged_alone s templates ≡ going n None templates
alone_going templates s found n is kind =
    let runs = runs_as [] [] s found n is kind in
    alone_by templates s ∙ ap (λ r. r >>= λ settings. accepted_after [] None templates s settings) runs.asks ∙ going_on templates s n.settings runs.runs
    ∙ ap (λ x. started x None templates s n.settings >>= λ start. Ok (Starts s start)) runs.arguments
    ∙ ap (λ x. started n.arguments None templates x n.settings >>= λ start. Ok (Starts x start)) runs.script_is

answers_shown : (templates : List (List ℕ × List ℕ)) (s : Script) (settings : Settings) (b : Bool) → b ≡ true
    → (if b then Ok (Shows s settings) else (started [] None templates s settings >>= λ start. Ok (Starts s start))) ≡ Ok (Shows s settings)
answers_shown templates s settings true is = refl
answers_shown templates s settings false is = absurd cc

shown_by : (templates : List (List ℕ × List ℕ)) (s : Script) (settings : Settings) → shows settings ≡ true → accepted_after [] None templates s settings ≡ Ok (Shows s settings)
unfolding accepted_after
shown_by templates s settings is = answers_shown templates s settings (shows settings) is

-- A text that is shown.
pub shown_alone : (templates : List (List ℕ × List ℕ)) (s : Script) (found : Found) (report : Report) → judgement [] [] s ≡ Ok (judged_of found) → found ≡ founds.Shows report → IsReported (judged_alone s templates) templates report []
shown_alone templates s found report is kind =
    let told = shows_as [] [] s found report is kind in
    subst (λ j. IsReported j templates report [])
    (sym (alone_by templates s ∙ ap (λ r. r >>= λ settings. accepted_after [] None templates s settings) told.asks ∙ shown_by templates s told.settings told.shows_it)) told.is

-- What is taken of a run is what is taken of its statements.
pub taken_alone : {A : Type 0} (templates : List (List ℕ × List ℕ)) (s : Script) (found : Found) (n : Needed) (r : Result A FilterFault) (text errors : A → List ℕ) (status : A → ℕ) → judgement [] [] s ≡ Ok (judged_of found) → found ≡ founds.Runs n
    → IfOk r (λ a. IsTaken (going n None templates) templates (text a) (errors a) (status a)) → IfOk r (λ a. IsTaken (judged_alone s templates) templates (text a) (errors a) (status a))
taken_alone templates s found n (Ok a) text errors status is kind t = subst (λ j. IsTaken j templates (text a) (errors a) (status a)) (sym (alone_going templates s found n is kind)) t
taken_alone templates s found n (Err e) text errors status is kind t = tt

pub not_run_alone : {A : Type 0} (templates : List (List ℕ × List ℕ)) (s : Script) (found : Found) (n : Needed) (r : Result A FilterFault) → judgement [] [] s ≡ Ok (judged_of found) → found ≡ founds.Runs n
    → IfErr r (IsNotRun (going n None templates)) → IfErr r (IsNotRun (judged_alone s templates))
not_run_alone templates s found n (Ok x) is kind h = tt
not_run_alone templates s found n (Err e) is kind h = subst (λ j. IsNotRun j e) (sym (alone_going templates s found n is kind)) h

-- The statements of what is needed are those of the source.
pub alone_read : (s : Script) (found : Found) (n : Needed) → judgement [] [] s ≡ Ok (judged_of found) → found ≡ founds.Runs n → IsRead s → IsRead (script_in n)
alone_read s found n is kind read = subst IsRead (runs_as [] [] s found n is kind).script_is read

unasked : (templates : List (List ℕ × List ℕ)) (s : Script) (f : Fault) (r : Result Settings Fault) → (r >>= λ settings. Ok (judged_with [] s settings)) ≡ Err f → (r >>= λ settings. accepted_after [] None templates s settings) ≡ Err f
unasked templates s f (Ok settings) is = absurd cc
unasked templates s f (Err g) is = let same : g ≡ f = cc in ap Err same

not_alone : (templates : List (List ℕ × List ℕ)) (s : Script) (f : Fault) → judgement [] [] s ≡ Err f → judged_alone s templates ≡ Err f
unfolding judgement
not_alone templates s f is = alone_by templates s ∙ unasked templates s f (source_settings [] [] s) is

fails_alone : (templates : List (List ℕ × List ℕ)) (s : Script) (f : Fault) → Fails f (judgement [] [] s) → Fails f (judged_alone s templates)
fails_alone templates s OutOfMemory h = tt
fails_alone templates s f h = not_alone templates s f h

-- A fault of the plan.
pub not_judged : {A : Type 0} (templates : List (List ℕ × List ℕ)) (s : Script) (f : Fault) (r : Result A FilterFault) → Fails f (judgement [] [] s) → IsErrAnd r (λ e. e ≡ of_run f) → IfErr r (IsNotRun (judged_alone s templates))
not_judged templates s f r gives h = not_run_by f r (judged_alone s templates) (fails_alone templates s f gives) h

-- What a report is of, if no text can be shown.
record IsStarted (j : Result Accepted Fault) (s : Script) (templates : List (List ℕ × List ℕ)) (report : Report) (handed : List Artifact) : Type 0 where
  start : Start
  is : j ≡ Ok (Starts s start)
  alone : IsAlone s start report
  artifacts_are : handed ≡ artifacts s start templates report

is_started : (fits : Result (Unit {0}) Fault) (begun : Result Start Fault) (j : Result Accepted Fault) (s : Script) (templates : List (List ℕ × List ℕ)) (report : Report) (handed : List Artifact)
    → j ≡ (fits >>= λ _. (begun >>= λ start. Ok (Starts s start))) → IsReported j templates report handed → IsStarted j s templates report handed
is_started (Ok u) (Ok start) j s templates report handed is h =
    let k : IsReported (Ok (Starts s start)) templates report handed = subst (λ x. IsReported x templates report handed) is h in
    record { start = start; is = is; alone = k.0; artifacts_are = k.1 }
is_started (Ok u) (Err f) j s templates report handed is h = absurd (subst (λ x. IsReported x templates report handed) is h)
is_started (Err f) begun j s templates report handed is h = absurd (subst (λ x. IsReported x templates report handed) is h)

run_of : (template out errors : List ℕ) (status : ℕ) (s : Script) → IsTaken (judged_alone s (templates_of s template)) (templates_of s template) out errors status
    → IsRun s template out errors status
run_of template out errors status s t =
    let b = is_started _ _ _ s (templates_of s template) t.report t.handed (judged_is (templates_of s template) s) t.reported in
    record {
      start = b.start;
      accepted = b.is;
      report = t.report;
      alone = b.alone;
      written = t.written ∙ ap first_text b.artifacts_are;
      told = t.told;
      exits = t.exits;
    }

is_run : (template out errors : List ℕ) (status : ℕ) (s : Script) (templates : List (List ℕ × List ℕ)) → templates ≡ templates_of s template
    → IsTaken (judged_alone s templates) templates out errors status → IsRun s template out errors status
is_run template out errors status s templates are t =
    run_of template out errors status s (subst (λ (ts : List (List ℕ × List ℕ)). IsTaken (judged_alone s ts) ts out errors status) are t)

pub run_made : {A : Type 0} (template : List ℕ) (s : Script) (templates : List (List ℕ × List ℕ)) (r : Result A FilterFault) (text errors : A → List ℕ) (status : A → ℕ)
    → templates ≡ templates_of s template → IfOk r (λ a. IsTaken (judged_alone s templates) templates (text a) (errors a) (status a)) → IfOk r (λ a. IsRun s template (text a) (errors a) (status a))
run_made template s templates (Ok a) text errors status are t = is_run template (text a) (errors a) (status a) s templates are t
run_made template s templates (Err e) text errors status are t = tt

pub not_run_with : {A : Type 0} (s : Script) (templates given : List (List ℕ × List ℕ)) (r : Result A FilterFault) → templates ≡ given → IfErr r (IsNotRun (judged_alone s templates))
    → IfErr r (IsNotRun (judged_alone s given))
not_run_with s templates given (Ok x) are h = tt
not_run_with s templates given (Err e) are h = subst (λ (ts : List (List ℕ × List ℕ)). IsNotRun (judged_alone s ts) e) are h
