-- A second call with the cache that a first one saved is accepted.
use Rattle.std.proofs.Common.{◌≡◌, ℕ, ◌≤◌, Bool, true, false, List, [], ◌∷◌, map, length, Option, Some, None, Result, Ok, Err, refl, sym, ap, ◌∙◌, subst, nat_lt}
use Rattle.std.specs.Prelude.{is_some, if◌then◌else◌}
use Rattle.std.specs.List.{AllByRecursion}
use Rattle.cachefile.specs.Cache.{limit, cache_of, vars_after}
use Rattle.cachefile.specs.Line.{Setting}
use Rattle.cachefile.specs.Name.{is_mark}
use Rattle.cachefile.specs.Text.{saved_value, saved_entries, cache_text_of}
use Rattle.cachefile.proofs.Grammar.{not_more}
use Rattle.cachefile.proofs.Orders.{Entries, AreSaved, all_saved_entries}
use Rattle.cachefile.specs.declared.fault.CacheFault.{CacheFault}
use Rattle.cachefile.specs.declared.fault.CacheFault.TheVariants.{TooLarge}
use Rattle.crew_trait.specs.Events.{Account}
use Rattle.deftable.specs.CacheName.{is_cache_name}
use Rattle.deftable.specs.Table.{value_of, HasDistinctNames}
use Rattle.deftable.proofs.Tables.{HasDistinctNames-[]}
use Rattle.engine_frame.specs.Faults.{of_option, of_cache, of_precious, named}
use Rattle.engine_frame.specs.Given.{Starts, old_of}
use Rattle.engine_frame.specs.declared.starting.Start.{Start}
use Rattle.engine_frame.specs.declared.report.Report.{Report}
use Rattle.meaning.specs.Meaning.{meaning}
use Rattle.meaning.specs.State.{opened}
use Rattle.options.specs.Opening.{opening, set_by, set_name, value_name, marks_one}
use Rattle.options.specs.Precious.{checked}
use Rattle.meaning_resumption.specs.Poured.{poured}
use Rattle.meaning_laws.proofs.Plays.{same_end, whole_enough}
use Rattle.meaning_resumption.proofs.Whole.{script_part}
use Rattle.ac_tree.specs.Lists.{lists_of}
use Rattle.ac_tree.specs.Script.{Script}
use Rattle.engine_restarts.specs.Calls.{Given, follows, replies_to, IsOwnCache, no_cache, saved_cache, Saved}
use Rattle.engine_restarts.specs.Second.{SecondCallStarts}
use Rattle.engine_restarts.proofs.Distinct.{finished_distinct, settings_distinct, played_distinct}
use Rattle.engine_restarts.proofs.Judging.{HaveForms, Way, way, named_ok, start_of, comparison}
use Rattle.engine_restarts.proofs.Marks.{is_mark-set_name, is_mark-value_name, IsMarked, AreOne, all_ones, finished_marked, SameMarks, same_checked, checked_leaves}
use Rattle.engine_restarts.proofs.Openings.{opening_finished}
use Rattle.engine_restarts.proofs.Settings.{over, value_over, saved_there, poured_again, mark_again}
use Rattle.engine_restarts.proofs.Sorting.{saved_distinct}
use Rattle.engine_restarts.proofs.Tellings.{tells}
use Rattle.cachefile.proofs.Texts.{setting_of, text_read, values_saved}

-- ---- the settings of a cache that was saved

within : (b : Bool) (r : Result (List Setting) CacheFault) (settings : List Setting) → (if b then Err TooLarge else r) ≡ Ok settings → b ≡ false
within true r settings e = absurd cc
within false r settings e = refl

pub read_within : (text : List ℕ) (settings : List Setting) → cache_of text ≡ Ok settings → length text ≤ limit
unfolding cache_of
read_within text settings e = not_more text (within (nat_lt limit (length text)) _ settings e)

-- The settings are those of saved entries.
record AreOfEntries (old : List Setting) : Type 0 where
  pub entries : Entries
  pub distinct : HasDistinctNames entries
  pub saved : AreSaved entries
  pub are : old ≡ map setting_of entries

no_entries : (old : List Setting) → old_of None None ≡ Ok old → AreOfEntries old
no_entries old e = record { entries = []; distinct = HasDistinctNames-[]; saved = tt; are = (let h : [] ≡ old = cc in sym h) }

old_entries : (name : Option (List ℕ)) (cache : Option (List ℕ)) (old : List Setting) → IsOwnCache cache → old_of name cache ≡ Ok old → AreOfEntries old
old_entries None None old no_cache e = no_entries old e
old_entries None (Some text) old (saved_cache vars) e = no_entries old e
old_entries (Some name) None old no_cache e = no_entries old e
old_entries (Some name) (Some text) old (saved_cache vars) e =
    let read : cache_of (cache_text_of vars) ≡ Ok old = named_ok of_cache (cache_of (cache_text_of vars)) old e in
    let same = sym (text_read vars (read_within (cache_text_of vars) old read)) ∙ read in
    record { entries = saved_entries vars; distinct = saved_distinct vars; saved = all_saved_entries vars; are = (let h : map setting_of (saved_entries vars) ≡ old = cc in sym h) }

pub old_again : (name : Option (List ℕ)) (vars : Entries) → is_some name ≡ true → length (cache_text_of vars) ≤ limit → old_of name (Some (cache_text_of vars)) ≡ Ok (map setting_of (saved_entries vars))
old_again None vars is_named small = cc
old_again (Some name) vars is_named small = ap (λ r. named of_cache r) (text_read vars small)

-- ---- the calls

-- No name has two entries in the variables with which a call starts.
pub start_distinct : (given : Given) (cache : Option (List ℕ)) (script : Script) (start : Start) → follows given cache ≡ Ok (Starts script start) → HasDistinctNames start.vars
start_distinct given cache script start e =
    let w = way given cache script start e in
    let lists = lists_of script in
    let settings = w.settings in
    let ready = opening_finished lists.features lists.packages lists.precious given.arguments given.environment settings (named_ok of_option (opening lists.features lists.packages lists.precious given.arguments given.environment) settings w.settles) in
    let opening_distinct : HasDistinctNames settings.vars = subst HasDistinctNames (sym ready.1) (finished_distinct lists.precious ready.0) in
    let left = checked_leaves lists.precious settings.vars w.old w.left (named_ok of_precious (checked lists.precious settings.vars w.old) w.left w.check) in
    subst HasDistinctNames (sym (ap (λ s. s.vars) w.is)) (settings_distinct w.old w.left.0 (left.distinct opening_distinct))

-- The first call: the entries of its own cache, and what it keeps.
record First (script : Script) (start : Start) (report : Report) (below : Entries) (old : List Setting) : Type 0 where
  pub own : AreOfEntries old
  pub begins : (q : List ℕ) → value_of start.vars q ≡ over (is_mark q) (value_of own.entries q) (value_of below q)
  pub distinct : HasDistinctNames report.vars
  pub keeps : (q v : List ℕ) → is_cache_name q ≡ true → value_of start.vars q ≡ Some v → value_of report.vars q ≡ Some v

first_call : HaveForms → (given : Given) (cache : Option (List ℕ)) (window : ℕ) (script : Script) (start : Start) (before now : Account) (report : Report) → Saved given cache window script start before now report
    → (w : Way given cache script start) → First script start report w.left.0 w.old
first_call forms given cache window script start before now report h w =
    let own = old_entries w.settings.cache_name cache w.old h.own w.read in
    let replies = replies_to before h.meant in
    let told = tells window script start before now report h.meant in
    let sets = (script_part script [] [] (λ n k. k) (forms.commands given.source script w.source) (forms.names given.source script w.source) h.resumable).sets (opened start.vars) replies (whole_enough (meaning script (opened start.vars)) replies told.enough) in
    record {
      own = own;
      begins = λ q. ap (λ s. value_of s.vars q) w.is ∙ ap (λ ss. value_of (vars_after ss w.left.0) q) own.are ∙ value_over own.entries w.left.0 q own.distinct;
      distinct = subst HasDistinctNames (sym told.vars) (played_distinct script start.vars replies (start_distinct given cache script start h.accepted));
      keeps = λ q v c e. ap (λ vs. value_of vs q) (told.vars ∙ (same_end (meaning script (opened start.vars)) 0 None replies).vars) ∙ sets.keeps q v c e;
    }

-- A mark that the opening sets has the same value over the first call's own cache and over the
-- saved one.
same_mark : (script : Script) (start : Start) (report : Report) (vars below : Entries) (old : List Setting) → (f : First script start report below old) → (q : List ℕ) → is_mark q ≡ true
    → is_some (value_of vars q) ≡ true → value_of below q ≡ value_of vars q
    → value_of (vars_after (map setting_of (saved_entries report.vars)) vars) q ≡ value_of (vars_after old vars) q
same_mark script start report vars below old f q m there same =
    let entries = f.own.entries in
    let s = value_of entries q in
    let r = value_of vars q in
    let o = value_of report.vars q in
    value_over (saved_entries report.vars) vars q (saved_distinct report.vars)
    ∙ ap (λ x. over (is_mark q) x r) (values_saved report.vars q f.distinct) ∙ ap (λ b. over b (saved_value q o) r) m
    ∙ mark_again q s r o there (λ v e. saved_there entries f.own.saved q v e)
    (λ v c e. f.keeps q v c (f.begins q ∙ ap (λ b. over b s (value_of below q)) m ∙ ap (over true s) same ∙ e))
    ∙ sym (ap (λ b. over b s r) m) ∙ sym (value_over entries vars q f.own.distinct) ∙ sym (ap (λ ss. value_of (vars_after ss vars) q) f.own.are)

same_marks : (script : Script) (start : Start) (report : Report) (vars below : Entries) (old : List Setting) → First script start report below old
    → (all : List (List ℕ)) → ((q : List ℕ) → marks_one all q ≡ true → value_of below q ≡ value_of vars q)
    → (precious : List (List ℕ)) → AllByRecursion (AreOne all) precious → AllByRecursion (IsMarked vars) precious
    → AllByRecursion (SameMarks (vars_after (map setting_of (saved_entries report.vars)) vars) (vars_after old vars)) precious
same_marks script start report vars below old f all value [] one h = tt
same_marks script start report vars below old f all value (name ∷ more) one h = (
  (
    same_mark script start report vars below old f (set_name name) (is_mark-set_name name) h.0.0 (value (set_name name) one.0.0),
    same_mark script start report vars below old f (value_name name) (is_mark-value_name name) h.0.1 (value (value_name name) one.0.1),
  ),
  same_marks script start report vars below old f all value more one.1 h.1,
)

pub second_call_starts : HaveForms → SecondCallStarts
second_call_starts forms given cache window script start before now report h =
    let w = way given cache script start h.accepted in
    let lists = lists_of script in
    let settings = w.settings in
    let below = w.left.0 in
    let f = first_call forms given cache window script start before now report h w in
    let ready = opening_finished lists.features lists.packages lists.precious given.arguments given.environment settings (named_ok of_option (opening lists.features lists.packages lists.precious given.arguments given.environment) settings w.settles) in
    let marked : AllByRecursion (IsMarked settings.vars) lists.precious = subst (λ vs. AllByRecursion (IsMarked vs) lists.precious) (sym ready.1) (finished_marked lists.precious (set_by ready.0)) in
    let left = checked_leaves lists.precious settings.vars w.old w.left (named_ok of_precious (checked lists.precious settings.vars w.old) w.left w.check) in
    let more = map setting_of (saved_entries report.vars) in
    let reads = old_again settings.cache_name report.vars (sym (ap (λ s. is_some s.cache_name) w.is) ∙ h.named) h.small in
    let marks = same_marks script start report settings.vars below w.old f lists.precious left.value lists.precious (all_ones lists.precious) marked in
    let checks : comparison script settings more ≡ Ok w.left = ap (named of_precious) (same_checked lists.precious settings.vars more w.old marks) ∙ w.check in
    let second = start_of given settings more w.left in
    let with_vars : Start → Start = λ s. record second { vars = s.vars } in
    record {
      second = second;
      accepted = w.again (Some (cache_text_of report.vars)) more w.left reads checks;
      same = ap with_vars w.is ∙ sym w.is;
      poured = record {
        defs = refl;
        value = λ q.
            let s = value_of f.own.entries q in
            let r = value_of below q in
            let o = value_of report.vars q in
            value_over (saved_entries report.vars) below q (saved_distinct report.vars)
            ∙ ap (λ x. over (is_mark q) x r) (values_saved report.vars q f.distinct)
            ∙ poured_again (is_mark q) q s (saved_value q o) r o refl (λ v e. saved_there f.own.entries f.own.saved q v e) (λ v c e. f.keeps q v c (f.begins q ∙ e))
            ∙ ap (poured (saved_value q o)) (sym (f.begins q));
      };
    }
