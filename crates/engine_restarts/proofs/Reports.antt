-- The second call ends as one run would.
use Rattle.std.proofs.Common.{◌≡◌, ℕ, List, [], Option, Some, None, Result, Ok, refl, sym, ap, ◌∙◌, subst}
use Rattle.std.specs.Prelude.{option_map}
use Rattle.cachefile.specs.Text.{saved_value}
use Rattle.deftable.specs.Table.{value_of, HasDistinctNames}
use Rattle.engine.specs.Configured.{artifacts}
use Rattle.engine.specs.Told.{outcome_of}
use Rattle.engine_frame.specs.Given.{Accepted, Starts}
use Rattle.engine_frame.specs.Handing.{run_record, artifacts_of}
use Rattle.engine_frame.specs.declared.starting.Start.{Start}
use Rattle.engine_frame.specs.declared.fault.Fault.{Fault}
use Rattle.engine_frame.specs.declared.report.Outcome.{Outcome}
use Rattle.engine_frame.specs.declared.report.Report.{Report}
use Rattle.meaning.specs.Play.{first_refused}
use Rattle.meaning.specs.State.{How, Stopped, Cut, opened}
use Rattle.output_put.specs.declared.artifact.Artifact.{Artifact}
use Rattle.proberun.specs.Outcomes as run
use Rattle.proberun.specs.Ran.{outcome_from}
use Rattle.meaning_resumption.specs.Asked.{AsksNoSaved}
use Rattle.meaning_resumption.specs.Plays.{played, WholeRunsResume}
use Rattle.meaning_resumption.specs.Poured.{Poured, poured}
use Rattle.ac_tree.specs.Script.{Script}
use Rattle.engine_restarts.specs.Calls.{replies_to, IsCutShort, Tells}
use Rattle.engine_restarts.specs.Second.{end_of}
use Rattle.engine_restarts.specs.Law.{joined, ReportsSo, ConfiguresResume}
use Rattle.engine_restarts.proofs.Distinct.{played_distinct}
use Rattle.engine_restarts.proofs.Judging.{HaveForms, way}
use Rattle.engine_restarts.proofs.Sorting.{same_text, same_record, same_artifacts}
use Rattle.engine_restarts.proofs.Starting.{start_distinct, second_call_starts}
use Rattle.engine_restarts.proofs.Tellings.{tells}

-- ---- outcomes

is_cut : (how : How) (refused : Option ℕ) (o : Outcome) → option_map outcome_of (outcome_from how refused) ≡ Some o → IsCutShort o → how ≡ Cut
is_cut Cut refused o e h = refl
is_cut (Stopped status) None o e h = let same : outcome_of (run.Stopped status) ≡ o = cc in absurd (subst IsCutShort (sym same) h)
is_cut _ None o e h = let same : outcome_of (run.Completed) ≡ o = cc in absurd (subst IsCutShort (sym same) h)
is_cut _ (Some k) o e h = cc

not_cut : (how : How) (refused : Option ℕ) (o : Outcome) → option_map outcome_of (outcome_from how refused) ≡ Some o → (IsCutShort o → ⊥) → how ≡ Cut → ⊥
not_cut Cut (Some k) o e h c = let same : outcome_of (run.CutShort k) ≡ o = cc in h (subst IsCutShort same tt)
not_cut _ _ o e h c = cc

none_refused : (how : How) (refused : Option ℕ) (o : Outcome) → option_map outcome_of (outcome_from how refused) ≡ Some o → (how ≡ Cut → ⊥) → refused ≡ None
none_refused how None o e h = refl
none_refused Cut (Some k) o e h = absurd (h refl)
none_refused _ (Some k) o e h = cc

same_outcome : (one other : Outcome) → Some one ≡ Some other → one ≡ other
same_outcome one other e = cc

same_second : (script : Script) (one other : Start) (r : Result Accepted Fault) → r ≡ Ok (Starts script one) → r ≡ Ok (Starts script other) → one ≡ other
same_second script one other r e h = cc

-- ---- the law

pub configures_resume : HaveForms → WholeRunsResume → AsksNoSaved → ConfiguresResume
configures_resume forms resume asks given cache script start second window other_window before now other_before other_now first report cut again =
    let saves = cut.saved in
    let source = (way given cache script start saves.accepted).source in
    let starts = second_call_starts forms given cache window script start before now first saves in
    let is : starts.second ≡ second = same_second script starts.second second _ starts.accepted again.accepted in
    let pours : Poured (end_of first) (opened start.vars) (opened second.vars) = subst (λ s. Poured (end_of first) (opened start.vars) (opened s.vars)) is starts.poured in
    let same : record second { vars = start.vars } ≡ start = subst (λ (s : Start). record s { vars = start.vars } ≡ start) is starts.same in
    let replies = replies_to before saves.meant in
    let more = replies_to other_before again.meant in
    let all = joined script start replies second more in
    let one = tells window script start before now first saves.meant in
    let two = tells other_window script second other_before other_now report again.meant in
    let p = played script (opened start.vars) all in
    let q = played script (opened second.vars) more in
    let uncut = not_cut q.how (first_refused more) report.outcome two.outcome again.uncut in
    let law = resume script (opened start.vars) (opened second.vars) replies more (record {
      resumable = saves.resumable;
      commands = forms.commands given.source script source;
      names = forms.names given.source script source;
      alone = cut.alone;
      cut = is_cut (played script (opened start.vars) replies).how (first_refused replies) first.outcome one.outcome cut.cut;
      enough = one.enough;
      poured = record {
        defs = refl;
        value = λ n. pours.value n ∙ ap (λ vs. poured (saved_value n (value_of vs n)) (value_of start.vars n)) one.vars;
      };
      uncut = uncut;
      enough_again = two.enough;
      same = again.same;
    }) in
    let outcome : option_map outcome_of (outcome_from p.how (first_refused all)) ≡ Some report.outcome =
    ap (λ h. option_map outcome_of (outcome_from h (first_refused all))) law.ends.how
    ∙ ap (λ r. option_map outcome_of (outcome_from q.how r)) (law.answered ∙ sym (none_refused q.how (first_refused more) report.outcome two.outcome uncut))
    ∙ two.outcome in
    let first_distinct = start_distinct given cache script start saves.accepted in
    let second_distinct = start_distinct given _ script second again.accepted in
    let like : (other : Report) → Tells script start all other → ReportsSo other report =
    λ other t. record {
      outcome = same_outcome other.outcome report.outcome (sym t.outcome ∙ outcome);
      defs = t.defs ∙ law.ends.defs ∙ sym two.defs;
      value = λ n. ap (λ vs. value_of vs n) t.vars ∙ law.ends.value n ∙ sym (ap (λ vs. value_of vs n) two.vars);
    } in (
      record {
        uncut = law.answered;
        one = record { outcome = report.outcome; vars = p.state.vars; defs = p.state.defs; messages = []; log = []; handed = 0 };
        tells = record { enough = law.enough; outcome = outcome; vars = refl; defs = refl };
        like = like;
        hands = λ other t.
            let so = like other t in
            let other_distinct = subst HasDistinctNames (sym t.vars) (played_distinct script start.vars all first_distinct) in
            let report_distinct = subst HasDistinctNames (sym two.vars) (played_distinct script second.vars more second_distinct) in
            let handed : Start → List Artifact = λ s. artifacts script s given.templates report in
            ap (λ o. artifacts_of start.cache_name start.no_create given.templates o other.vars (run_record script start.srcdir start.args other.vars other.defs)) so.outcome
            ∙ same_artifacts start.cache_name start.no_create given.templates report.outcome other.vars report.vars
            (run_record script start.srcdir start.args other.vars other.defs) (run_record script start.srcdir start.args report.vars report.defs)
            (same_text other.vars report.vars other_distinct report_distinct so.value)
            (ap (λ d. run_record script start.srcdir start.args other.vars d) so.defs ∙ same_record script start.srcdir start.args other.vars report.vars report.defs so.value)
            ∙ ap handed (sym same);
      },
      λ name value s k. asks script (end_of first) (opened start.vars) (opened second.vars) more name value pours s k,
    )
