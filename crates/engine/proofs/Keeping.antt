-- What the cache of a run holds.
use Rattle.std.proofs.Common.{◌≡◌, ℕ, Bool, true, false, cond, List, Option, Some, None, inr, refl, sym, ap, subst, ◌∙◌}
use Rattle.std.specs.Prelude.{◌&&◌}
use Rattle.crew_trait.specs.Events.{Account}
use Rattle.deftable.specs.CacheName.{is_cache_name}
use Rattle.deftable.specs.Table.{value_of}
use Rattle.meaning_laws.specs.Deeds.{deeds, Accounts}
use Rattle.meaning_laws.proofs.Accounting.{deeds_account}
use Rattle.meaning_laws.proofs.TestedNames.{tested_names_are_cached}
use Rattle.meaning.specs.Meaning.{meaning}
use Rattle.meaning.specs.Play.{Played, play, whole}
use Rattle.meaning.specs.State.{opened}
use Rattle.ac_tree.specs.Commands.{HasCommands}
use Rattle.ac_tree.specs.Script.{Script}
use Rattle.ac_tree.specs.TestNames.{HasTestNames}
use Rattle.engine_frame.specs.Handing.{IfNamed, IsCacheOf, is_one_line, saved_value}
use Rattle.engine_frame.specs.declared.starting.Start.{Start}
use Rattle.engine_frame.specs.declared.report.Report.{Report}
use Rattle.engine.specs.Configured.{IsMeant}
use Rattle.engine.specs.Kept.{replies_of, WasSet, IsThere, IsKept}

some_is : (a b : List ℕ) → Some a ≡ Some b → a ≡ b
some_is a b e = cc

-- A value that is saved is that of a cache name, and has no newline.
saved_is : (name value : List ℕ) (now : Option (List ℕ)) → saved_value name now ≡ Some value
    → (is_cache_name name ≡ true) × (now ≡ Some value) × (is_one_line value ≡ true)
saved_is name value None e = absurd cc
saved_is name value (Some v) e = by_tests (is_cache_name name) (is_one_line v) refl refl e
  where
    by_tests : (named one_line : Bool) → is_cache_name name ≡ named → is_one_line v ≡ one_line → cond (named && one_line) (Some v) None ≡ Some value
        → (is_cache_name name ≡ true) × (Some v ≡ Some value) × (is_one_line value ≡ true)
    by_tests true true named one_line e = (named, e, subst (λ w. is_one_line w ≡ true) (some_is v value e) one_line)
    by_tests true false named one_line e = absurd cc
    by_tests false one_line named line e = absurd cc

-- A value of a cache name without a newline is saved.
is_saved_value : (name value : List ℕ) → is_cache_name name ≡ true → is_one_line value ≡ true → saved_value name (Some value) ≡ Some value
is_saved_value name value named one_line =
    ap (λ b. cond (b && is_one_line value) (Some value) None) named ∙ ap (λ b. cond b (Some value) None) one_line

-- The deeds of a run account for the variables of its report.
accounted : {window : ℕ} {script : Script} {start : Start} {before now : Account} {report : Report} (meant : IsMeant window script start before now report)
    → HasCommands script → Accounts start.vars (deeds script (opened start.vars) (replies_of meant)) report.vars
accounted {window} {script} {start} {before} {now} {report} meant commands =
    let played : Played = play (whole (meaning script (opened start.vars))) (replies_of meant) in
    let at_end : played.state.vars ≡ report.vars = ap (λ p. p.state.vars) meant.ran.meaning ∙ sym (ap (λ r. r.vars) meant.told) in
    subst (λ vars. Accounts start.vars (deeds script (opened start.vars) (replies_of meant)) vars) at_end
    (deeds_account script (opened start.vars) (replies_of meant) commands)

pub is_kept : {window : ℕ} {script : Script} {start : Start} {before now : Account} {report : Report} (meant : IsMeant window script start before now report)
    → HasCommands script → HasTestNames script → IsCacheOf report.vars → IsKept window script start before now report
is_kept {window} {script} {start} {before} {now} {report} meant commands names cache =
    let accounts = accounted meant commands in
    let text = cache.is_text in
    let all : (name : List ℕ) → WasSet script start (replies_of meant) name → is_cache_name name ≡ true → IsThere report.vars text.entries name =
    λ name was_set named.
    let at_end = accounts.all name was_set in
    (at_end.0, at_end.1, λ one_line. text.values name ∙ ap (saved_value name) at_end.1 ∙ is_saved_value name at_end.0 named one_line) in
    record {
      meant = meant;
      holds = record {
        entries = text.entries;
        in_order = text.in_order;
        lines = text.lines;
        only = λ name value e.
            let saved = saved_is name value (value_of report.vars name) (sym (text.values name) ∙ e) in
            (accounts.only name (value, saved.1), saved.0, saved.1, saved.2);
        all = all;
        tested = λ name was_tested.
            let named = tested_names_are_cached script (opened start.vars) (replies_of meant) name commands names was_tested in
            (named, all name (inr (inr was_tested)) named);
      };
    }

-- The same, if a cache is named.
pub kept_if_named : {window : ℕ} {script : Script} {start : Start} {before now : Account} {report : Report} (name : Option (List ℕ))
    → IsMeant window script start before now report → HasCommands script → HasTestNames script → IfNamed name (IsCacheOf report.vars)
    → IfNamed name (IsKept window script start before now report)
kept_if_named None meant commands names cache = tt
kept_if_named (Some name) meant commands names cache = is_kept meant commands names cache
