-- The premises of the laws can be met: by a source with precious variables, whose first call is
-- cut at the test of a function. Of its two precious variables one is a mark of the other.
use Rattle.acparse.specs.Profile.{source_of}
use Rattle.cachefile.proofs.Orders.{Entries}
use Rattle.cachefile.specs.Cache.{vars_after, limit}
use Rattle.cachefile.specs.Line.{Setting}
use Rattle.cachefile.specs.Name.{is_mark}
use Rattle.cachefile.specs.Text.{is_saved, saved_value, line_for, saved_entries, cache_text_of}
use Rattle.cachefile.specs.Word.{word_of}
use Rattle.options_line.specs.Arguments.{value_in, rest_after as rest_of, switch_of, switches, install_directory_of, target_of, package_of, choice_of, said_with_value, dashed_of, read_argument, settings_from}
use Rattle.options_line.specs.CommandLine.{key_of, Switched}
use Rattle.options_line.specs.Directories.{directories, variable_of, default_of, directory_named}
use Rattle.options_line.specs.Kept.{kept_from, kept_args}
use Rattle.options_line.specs.Slashes.{unslashed, without_slashes}
use Rattle.options_line.specs.declared.argument.Switch.TheVariants.{ConfigCache}
use Rattle.crew_trait.specs.declared.reply.Reply.{Reply}
use Rattle.crew_trait.specs.declared.reply.Reply.TheVariants.{Answer, StartRefused}
use Rattle.conftest_source.specs.Sources.{ended, default_includes, header_source, function_source}
use Rattle.deftable.specs.CacheName.{has_cv, is_cache_name}
use Rattle.deftable.specs.NameList.{with_name, has_name}
use Rattle.deftable.specs.Table.{HasDistinctNames, value_of, with_entry, without_entry}
use Rattle.engine.specs.Judged.{acceptance}
use Rattle.engine_frame.specs.Faults.{of_parse, of_precious, named, ◌>>=◌, wants}
use Rattle.engine_frame.specs.Given.{Accepted, accepted_after, source_settings, old_of, present, started, Starts}
use Rattle.engine_frame.specs.declared.fault.Fault.{Fault}
use Rattle.engine_frame.specs.declared.fault.Fault.TheVariants.{Plan}
use Rattle.engine_frame.specs.declared.starting.Start.{Start}
use Rattle.crew_jobs.specs.Probe.{out_name, file_name, words_of, compile_words, link_words_with, conftest_text, run_of, job_of}
use Rattle.meaning.specs.Directories.{directories_of}
use Rattle.meaning.specs.Meaning.{effect, after_subject, is_taken, meaning, chosen}
use Rattle.meaning.specs.Package.{escaped, initialised}
use Rattle.meaning.specs.Play.{Played, play, whole}
use Rattle.meaning.specs.State.{State, How, opened, Goes_on, Completed, Cut, Run}
use Rattle.options.specs.Opening.{set_name, value_name, cache_named, source_directory, setters, set_by, with_unslashed, with_marks, marks_of, unmarked, marks_one, finished, is_declared, run_settings, opened_by, opening}
use Rattle.options.specs.Precious.{old_value, value_before, blanks_note, restored, restored_variable, restored_from, checked}
use Rattle.options.specs.declared.settings.Settings.{Settings}
use Rattle.options.proofs.Fresh.{fresh_runs_agree}
use Rattle.plan.specs.Weight.{heaviest, weight}
use Rattle.plan.specs.declared.fault.PlanFault.TheVariants.{TooLong}
use Rattle.options.specs.Unrecognized.{after_comma, listed, warning, notes_of}
use Rattle.cachefile.proofs.Texts.{setting_of, values_saved}
use Rattle.engine_restarts.specs.Calls.{replies_to, Given, follows, no_cache, Saved}
use Rattle.engine_restarts.specs.Law.{Again, joined, WasCut}
use Rattle.engine_restarts.proofs.Judging.{settled, comparison, start_of, AreThere, follows_so}
use Rattle.engine_restarts.proofs.Distinct.{finished_distinct, played_distinct}
use Rattle.engine_restarts.proofs.Settings.{over, value_over}
use Rattle.engine_restarts.proofs.Sorting.{saved_distinct}
use Rattle.engine_restarts.proofs.Marks.{SameMarks, same_checked}
use Rattle.engine_restarts.proofs.Starting.{old_again}
use Rattle.meaning_resumption.specs.Joint.{joint_plain, begins, scope_at, joint, joint_cases}
use Rattle.meaning_resumption.specs.Plays.{played}
use Rattle.shellword.specs.Truth.{truth}
use Rattle.shellword.specs.Value.{word_value}
use Rattle.shellword.specs.declared.part.Part.{Part}
use Rattle.std.proofs.Common.{false, ◌≡◌, ℕ, List, [], ◌∷◌, map, Some, None, Result, Ok, inl, refl, sym, ap, ◌∙◌, ◌<◌, length, arith, Bool, true}
use Rattle.std.specs.Prelude.{nat_le, if◌then◌else◌}
use Rattle.std.specs.List.{AllByRecursion}
use Rattle.std.specs.Prelude.{codes}
use Rattle.ac_tree.specs.Lists.{after}
use Rattle.ac_tree.specs.Resumable.{IsResumable}
use Rattle.ac_tree.specs.Script.{Script, Done, Then, Choice, No_case, Case}
use Rattle.ac_tree.specs.declared.listed.Listed.TheVariants.{Header, Function}
use Rattle.ac_tree.specs.declared.listed.Sought.TheVariants.{ListEntry}
use Rattle.ac_tree.specs.declared.statement.Declares.TheVariants as declares
use Rattle.ac_tree.specs.declared.statement.Effect.TheVariants.{Nothing, Assign, Package, Complete}
use Rattle.ac_tree.specs.declared.statement.Question.TheVariants.{Checks}
use Rattle.ac_tree.specs.declared.tree.Subject.TheVariants.{Asked}
use Rattle.ac_tree.specs.declared.tree.When.TheVariants.{Yes}
use Rattle.text_cut.specs.Cuts.{parts_by, parts, fields}
use Rattle.crew_trait.specs.Events.{Account}
use Rattle.crew_trait.specs.declared.event.CrewEvent.{CrewEvent}
use Rattle.crew_trait.specs.declared.event.CrewEvent.TheVariants.{Started, Ended}
use Rattle.engine.specs.Configured.{report_of}
use Rattle.engine_frame.specs.declared.report.Report.{Report}
use Rattle.crew_jobs.specs.declared.job.Job.{Job}
use Rattle.proberun.specs.Ran.{Ran, RunEnd, outcome_from}
use Rattle.meaning_resumption.specs.Same.{SameAgain, SameCases}
use Rattle.std.proofs.lemmas.Bool.Decides.{Decides-ltb}
use Rattle.proberun.specs.Outcomes as run
use Rattle.shellword.specs.declared.part.Part.TheVariants as parts

-- ---- runs of a crew that starts one child, which answers

abbrev good : Reply
good = Answer 0 []

abbrev pub none_yet : Account
none_yet = record { events = []; attempts = 0; failures = 0 }

abbrev events : Job → List CrewEvent
events job = Started 0 job 1 ∷ Ended 0 good 1 ∷ []

-- A second start is refused.
abbrev after_first : Job → Account
after_first job = record { events = events job; attempts = 2; failures = 1 }

abbrev after_second : Job → Account
after_second job = record { events = events job; attempts = 1; failures = 0 }

abbrev pub end_at : run.Outcome → Played → RunEnd
end_at outcome p = record { outcome = outcome; vars = p.state.vars; defs = p.state.defs; messages = p.state.messages; log = p.state.log }

-- Two groups of one job each, and one such group.
abbrev is_two : List (List Job) → Bool
is_two ((j ∷ []) ∷ (k ∷ []) ∷ []) = true
is_two groups = false

abbrev is_one : List (List Job) → Bool
is_one ((j ∷ []) ∷ []) = true
is_one groups = false

-- The first job.
abbrev first_job : List (List Job) → Job
first_job ((job ∷ more) ∷ groups) = job
first_job groups = record { words = []; file = None }

abbrev cut_ran : (r : Run) (how : How) (st : State) (groups : List (List Job)) → play r (good ∷ StartRefused ∷ []) ≡ record { how = how; state = st; groups = groups } → how ≡ Cut → is_two groups ≡ true
    → Ran 1 r none_yet (after_first (first_job groups)) (end_at (run.CutShort 2) (record { how = how; state = st; groups = groups }))
cut_ran r how st ((j ∷ []) ∷ (k ∷ []) ∷ []) e h two = record {
  since = events j;
  events = refl;
  groups = (j ∷ []) ∷ (k ∷ []) ∷ [];
  attempts = refl;
  starts = (omega arith, refl, tt);
  how = how;
  meaning = e;
  outcome = ap (λ x. outcome_from x (Some 2)) h;
  fills = (omega arith, (omega arith, inl (inl refl), tt));
  least = ((λ s k. absurd (omega (arith, k))), tt);
  failures = refl;
}
cut_ran r how st _ e h two = cc

abbrev whole_ran : (r : Run) (how : How) (st : State) (groups : List (List Job)) → play r (good ∷ []) ≡ record { how = how; state = st; groups = groups } → how ≡ Completed → is_one groups ≡ true
    → Ran 1 r none_yet (after_second (first_job groups)) (end_at run.Completed (record { how = how; state = st; groups = groups }))
whole_ran r how st ((j ∷ []) ∷ []) e h one = record {
  since = events j;
  events = refl;
  groups = (j ∷ []) ∷ [];
  attempts = refl;
  starts = (omega arith, refl, tt);
  how = how;
  meaning = e;
  outcome = ap (λ x. outcome_from x None) h;
  fills = (omega arith, (omega arith, inl (inl refl), tt));
  least = ((λ s k. absurd (omega (arith, k))), tt);
  failures = refl;
}
whole_ran r how st _ e h one = cc

-- ---- the source

abbrev text : List ℕ → List Part
text t = map parts.Plain t

abbrev sets : List ℕ → Script
sets name = Then declares.Nothing (Assign name (text (codes "1"))) Done

-- AC_INIT([a],[1]), AC_ARG_VAR([ac_cv_env_X_value],[help]), AC_ARG_VAR([X],[help]),
-- AC_CHECK_HEADER([a.h],[x=1]), AC_CHECK_FUNC([f],[y=1]) and AC_OUTPUT.
abbrev example : Script
example =
    Then declares.Begin (Package (codes "a") (codes "1") [] (codes "a") [])
    (Then (declares.Precious (codes "ac_cv_env_X_value") (codes "help")) Nothing
    (Then (declares.Precious (codes "X") (codes "help")) Nothing
    (Choice declares.Nothing (Asked (Checks (ListEntry Header) (codes "a.h") None)) (Case Yes (sets (codes "x")) No_case)
    (Choice declares.Nothing (Asked (Checks (ListEntry Function) (codes "f") None)) (Case Yes (sets (codes "y")) No_case) (Then declares.End Complete Done)))))

resumable : IsResumable example
unfolding has_cv is_cache_name
resumable = ((tt, (tt, tt)), ((tt, (tt, tt)), ((tt, (tt, tt)), ((tt, (tt, tt)), ((tt, (((tt, (inl refl, (tt, tt))), tt), tt)), ((tt, (tt, tt)), ((tt, (((tt, (inl refl, (tt, tt))), tt), tt)), ((tt, (tt, tt)), tt))))))))

-- ---- what a call is given; the text is any that is read as the source

abbrev environment : Entries
environment = (codes "CC", codes "cc") ∷ (codes "PATH", codes "/b") ∷ (codes "ac_cv_env_X_value", codes "p  q") ∷ []

abbrev call : List ℕ → Given
call source = record {
  source = source;
  arguments = codes "-C" ∷ [];
  environment = environment;
  templates = [];
}

abbrev begin_vars : Entries
begin_vars = finished (codes "ac_cv_env_X_value" ∷ codes "X" ∷ []) (set_by (setters environment (Switched ConfigCache ∷ [])))

abbrev start : Start
start = record { cache_name = Some (codes "config.cache"); srcdir = codes "."; no_create = false; args = codes "-C" ∷ []; vars = begin_vars; notes = [] }

first_accepted : (source : List ℕ) → source_of source ≡ Ok example → follows (call source) None ≡ Ok (Starts example start)
unfolding acceptance accepted_after source_settings present started value_before is_mark cache_named source_directory setters set_by with_unslashed with_marks marks_of unmarked marks_one finished is_declared run_settings opened_by opening old_value blanks_note restored restored_variable restored_from checked after_comma listed warning notes_of value_in rest_of switch_of switches install_directory_of target_of package_of choice_of said_with_value dashed_of read_argument settings_from key_of directories variable_of default_of directory_named kept_from unslashed without_slashes after value_of with_entry without_entry with_name has_name parts_by parts fields
first_accepted source read = ap (λ r. named of_parse r >>= λ script. source_settings (call source).arguments (call source).environment script >>= accepted_after (call source).arguments None [] script) read

-- What runs compute with.
on_values : Unit {0}
unfolding cache_named source_directory setters set_by with_unslashed with_marks marks_of unmarked marks_one finished is_declared run_settings opened_by opening directories variable_of default_of directory_named value_of with_entry without_entry effect after_subject is_taken meaning chosen directories_of out_name file_name words_of compile_words link_words_with conftest_text run_of job_of ended default_includes header_source function_source truth word_value parts_by parts fields escaped initialised is_mark has_cv is_cache_name line_for word_of
on_values = tt

-- ---- the first call

abbrev replies : List Reply
replies = good ∷ StartRefused ∷ []

abbrev first_run : Played
first_run = played example (opened begin_vars) replies

first_cut : (first_run.how ≡ Cut) × (is_two first_run.groups ≡ true)
unfolding on_values
first_cut = (refl, refl)

abbrev first_end : RunEnd
first_end = end_at (run.CutShort 2) first_run

abbrev first : Report
first = report_of start first_end 1

small : length (cache_text_of first_run.state.vars) < limit
unfolding on_values
small = (Decides-ltb (length (cache_text_of first_run.state.vars)) limit).0 refl

abbrev first_ran : Ran 1 (whole (meaning example (opened begin_vars))) none_yet (after_first (first_job first_run.groups)) first_end
first_ran = cut_ran (whole (meaning example (opened begin_vars))) first_run.how first_run.state first_run.groups refl first_cut.0 first_cut.1

abbrev saved : (source : List ℕ) → source_of source ≡ Ok example → Saved (call source) None 1 example start none_yet (after_first (first_job first_run.groups)) first
saved source read = record {
  accepted = first_accepted source read;
  meant = record { end = first_end; ran = first_ran; told = refl };
  resumable = resumable;
  named = refl;
  own = no_cache;
  small = (let few = small in omega (arith, few));
}

abbrev was_cut : (source : List ℕ) → source_of source ≡ Ok example → WasCut (call source) None 1 example start none_yet (after_first (first_job first_run.groups)) first
was_cut source read = record {
  saved = saved source read;
  cut = tt;
  alone = (tt, (tt, (tt, (((tt, ((tt, tt), tt)), tt), (((tt, ((tt, tt), tt)), tt), (tt, tt))))));
}

-- ---- the second call

abbrev second : Start
second = record start { vars = vars_after (map setting_of (saved_entries first_run.state.vars)) begin_vars }

abbrev settings : Settings
settings = record {
  vars = begin_vars;
  notes = [];
  cache_name = Some (codes "config.cache");
  srcdir = codes ".";
  quiet = false;
  no_create = false;
  help = false;
  version = false;
}

abbrev saved_settings : List Setting
saved_settings = map setting_of (saved_entries first_run.state.vars)

second_light : wants (nat_le (weight example) heaviest) (Plan TooLong) ≡ Ok tt
second_light = refl

second_settles : (source : List ℕ) → settled example (call source) ≡ Ok settings
unfolding cache_named source_directory setters set_by is_declared run_settings opened_by opening after_comma listed warning notes_of value_in rest_of switch_of switches install_directory_of target_of package_of choice_of said_with_value dashed_of read_argument settings_from key_of directories variable_of default_of directory_named after value_of with_entry with_name has_name unslashed without_slashes
second_settles source = refl

second_there : (source : List ℕ) → AreThere (call source) example settings
unfolding present after
second_there source = refl

second_reads : old_of settings.cache_name (Some (cache_text_of first_run.state.vars)) ≡ Ok saved_settings
second_reads = old_again settings.cache_name first_run.state.vars refl (let few = small in omega (arith, few))

-- A value that is as it was at first also is so after the settings of saved entries.
own_over : (is_mark is_saved : Bool) (value : List ℕ) → over is_mark (if is_saved then Some value else None) (Some value) ≡ Some value
own_over true true value = refl
own_over true false value = refl
own_over false true value = refl
own_over false false value = refl

stays : (vars below : Entries) (name value : List ℕ) → HasDistinctNames vars → value_of vars name ≡ Some value → value_of below name ≡ Some value → value_of (vars_after (map setting_of (saved_entries vars)) below) name ≡ value_of below name
stays vars below name value distinct now before =
    value_over (saved_entries vars) below name (saved_distinct vars)
    ∙ ap (λ x. over (is_mark name) x (value_of below name)) (values_saved vars name distinct ∙ ap (saved_value name) now) ∙ ap (over (is_mark name) (saved_value name (Some value))) before
    ∙ own_over (is_mark name) (is_saved (name, value)) value ∙ sym before

-- The four marks have these values.
abbrev AreSet : Entries → Type 0
AreSet vars = ((value_of vars (set_name (codes "ac_cv_env_X_value")) ≡ Some (codes "set")) × (value_of vars (value_name (codes "ac_cv_env_X_value")) ≡ Some (codes "p  q")))
    × ((value_of vars (set_name (codes "X")) ≡ Some []) × (value_of vars (value_name (codes "X")) ≡ Some []))

set_before : AreSet begin_vars
unfolding on_values
set_before = ((refl, refl), (refl, refl))

set_after : AreSet first_run.state.vars
unfolding on_values
set_after = ((refl, refl), (refl, refl))

all_stay : (vars below : Entries) → HasDistinctNames vars → AreSet vars → AreSet below → AllByRecursion (SameMarks (vars_after (map setting_of (saved_entries vars)) below) below) (codes "ac_cv_env_X_value" ∷ codes "X" ∷ [])
all_stay vars below distinct now before =
    let marked = codes "ac_cv_env_X_value" in
    let plain = codes "X" in (
      (stays vars below (set_name marked) (codes "set") distinct now.0.0 before.0.0, stays vars below (value_name marked) (codes "p  q") distinct now.0.1 before.0.1),
      ((stays vars below (set_name plain) [] distinct now.1.0 before.1.0, stays vars below (value_name plain) [] distinct now.1.1 before.1.1), tt),
    )

first_distinct : HasDistinctNames first_run.state.vars
first_distinct = played_distinct example begin_vars replies (finished_distinct (codes "ac_cv_env_X_value" ∷ codes "X" ∷ []) (setters environment (Switched ConfigCache ∷ [])))

same_marks : AllByRecursion (SameMarks (vars_after saved_settings begin_vars) begin_vars) (codes "ac_cv_env_X_value" ∷ codes "X" ∷ [])
same_marks = all_stay first_run.state.vars begin_vars first_distinct set_after set_before

second_compares : comparison example settings saved_settings ≡ Ok (begin_vars, [])
unfolding after with_name has_name
second_compares =
    let precious : List (List ℕ) = codes "ac_cv_env_X_value" ∷ codes "X" ∷ [] in
    ap (named of_precious) (same_checked precious begin_vars saved_settings [] same_marks ∙ fresh_runs_agree precious (set_by (setters environment (Switched ConfigCache ∷ []))))

second_keeps : kept_args (codes "-C" ∷ []) ≡ codes "-C" ∷ []
unfolding value_in rest_of switch_of switches install_directory_of target_of package_of choice_of said_with_value dashed_of read_argument key_of directory_named kept_from parts_by parts fields
second_keeps = refl

second_is : (source : List ℕ) → start_of (call source) settings saved_settings (begin_vars, []) ≡ second
second_is source = let with_args : List (List ℕ) → Start = λ args. record second { args = args } in ap with_args second_keeps

second_accepted : (source : List ℕ) → source_of source ≡ Ok example → follows (call source) (Some (cache_text_of first_run.state.vars)) ≡ Ok (Starts example second)
second_accepted source read =
    let answer : Start → Result Accepted Fault = λ begins. Ok (Starts example begins) in
    follows_so (call source) (Some (cache_text_of first_run.state.vars)) example settings saved_settings (begin_vars, []) read second_light (second_settles source) refl (second_there source) second_reads second_compares
    ∙ ap answer (second_is source)

abbrev second_run : Played
second_run = played example (opened second.vars) (good ∷ [])

second_whole : (second_run.how ≡ Completed) × (is_one second_run.groups ≡ true)
unfolding on_values
second_whole = (refl, refl)

abbrev second_end : RunEnd
second_end = end_at run.Completed second_run

abbrev second_ran : Ran 1 (whole (meaning example (opened second.vars))) none_yet (after_second (first_job second_run.groups)) second_end
second_ran = whole_ran (whole (meaning example (opened second.vars))) second_run.how second_run.state second_run.groups refl second_whole.0 second_whole.1

same_again : SameAgain example (record { first = opened begin_vars; replies = replies; second = opened second.vars; again = good ∷ [] })
unfolding on_values joint_plain begins scope_at joint joint_cases SameAgain SameCases
same_again = (tt, (tt, (tt, (((λ h k. let z : Some (codes "yes") ≡ None = k in cc, (tt, tt)), tt), (((λ h k. let z : Cut ≡ Goes_on = h in cc, tt), tt), tt)))))

abbrev report : Report
report = report_of second second_end 2

again : (source : List ℕ) (read : source_of source ≡ Ok example) → Again (call source) 1 example start second none_yet (after_second (first_job second_run.groups)) first report (replies_to none_yet (was_cut source read).saved.meant)
unfolding on_values
again source read = record {
  accepted = second_accepted source read;
  meant = record { end = second_end; ran = second_ran; told = refl };
  uncut = λ h. h;
  same = same_again;
}

-- The joint replies are both answers.
joined_is : joined example start replies second (good ∷ []) ≡ good ∷ good ∷ []
unfolding on_values joint_plain begins scope_at joint joint_cases
joined_is = refl
