-- What follows from what was judged of a source.
use Rattle.std.proofs.Common.{◌≡◌, ℕ, Bool, true, false, List, Result, Ok, Err, refl, sym, ap, ◌∙◌}
use Rattle.std.specs.Prelude.{if◌then◌else◌}
use Rattle.options.specs.declared.settings.Settings.{Settings}
use Rattle.ac_tree.specs.Script.{Script}
use Rattle.engine_frame.specs.Faults.{◌>>=◌}
use Rattle.engine_frame.specs.Given.{source_settings, shows}
use Rattle.engine_frame.specs.Judging.{Judged, Shows, Runs, judged_with, judgement, judged_of}
use Rattle.engine_frame.specs.Needed.{Needed, script_in}
use Rattle.engine_frame.specs.Shown.{shown_report}
use Rattle.engine_frame.specs.declared.fault.Fault.{Fault}
use Rattle.engine_frame.specs.declared.judging.Judged.{Judged as Found}
use Rattle.engine_frame.specs.declared.judging.Judged.TheVariants as founds
use Rattle.engine_frame.specs.declared.report.Report.{Report}

record Asked (a : List (List ℕ)) (e : List (List ℕ × List ℕ)) (script : Script) (judged : Judged) : Type 0 where
  settings : Settings
  asks : source_settings a e script ≡ Ok settings
  is : judged_with a script settings ≡ judged

asks_by : (a : List (List ℕ)) (script : Script) (judged : Judged) (r : Result Settings Fault) → (r >>= λ settings. Ok (judged_with a script settings)) ≡ Ok judged
    → (settings : Settings) × ((r ≡ Ok settings) × (judged_with a script settings ≡ judged))
asks_by a script judged (Ok settings) is = (settings, (refl, cc))
asks_by a script judged (Err f) is = absurd cc

asks_it : (a : List (List ℕ)) (e : List (List ℕ × List ℕ)) (script : Script) (judged : Judged) → judgement a e script ≡ Ok judged → Asked a e script judged
unfolding judgement
asks_it a e script judged is =
    let by = asks_by a script judged (source_settings a e script) is in
    record { settings = by.0; asks = by.1.0; is = by.1.1 }

abbrev judged_by : List (List ℕ) → Script → Settings → Bool → Judged
judged_by a script settings b = if b then Shows (shown_report script settings) else Runs script a settings

record RunsBy (a other_a : List (List ℕ)) (script other_script : Script) (settings other_settings : Settings) (b : Bool) : Type 0 where
  arguments : a ≡ other_a
  script_is : script ≡ other_script
  settings_are : settings ≡ other_settings
  runs : b ≡ false

runs_by : (a other_a : List (List ℕ)) (script other_script : Script) (settings other_settings : Settings) (b : Bool) → judged_by a script settings b ≡ Runs other_script other_a other_settings
    → RunsBy a other_a script other_script settings other_settings b
runs_by a other_a script other_script settings other_settings true is = absurd cc
runs_by a other_a script other_script settings other_settings false is = record { arguments = cc; script_is = cc; settings_are = cc; runs = refl }

shows_by : (a : List (List ℕ)) (script : Script) (settings : Settings) (b : Bool) (report : Report) → judged_by a script settings b ≡ Shows report → (report ≡ shown_report script settings) × (b ≡ true)
shows_by a script settings true report is = (cc, refl)
shows_by a script settings false report is = absurd cc

-- What a run needs is what the source asks for.
pub record RunsAs (a : List (List ℕ)) (e : List (List ℕ × List ℕ)) (script : Script) (n : Needed) : Type 0 where
  pub asks : source_settings a e script ≡ Ok n.settings
  pub arguments : a ≡ n.arguments
  pub script_is : script ≡ script_in n
  pub runs : shows n.settings ≡ false

pub runs_as : (a : List (List ℕ)) (e : List (List ℕ × List ℕ)) (script : Script) (found : Found) (n : Needed) → judgement a e script ≡ Ok (judged_of found) → found ≡ founds.Runs n → RunsAs a e script n
runs_as a e script found n is kind =
    let by = asks_it a e script (Runs (script_in n) n.arguments n.settings) (is ∙ ap (λ f. Ok (judged_of f)) kind) in
    let runs = runs_by a n.arguments script (script_in n) by.settings n.settings (shows by.settings) by.is in
    record {
      asks = by.asks ∙ ap Ok runs.settings_are;
      arguments = runs.arguments;
      script_is = runs.script_is;
      runs = ap shows (sym runs.settings_are) ∙ runs.runs;
    }

-- The text that is shown is that of the source's settings.
pub record ShowsAs (a : List (List ℕ)) (e : List (List ℕ × List ℕ)) (script : Script) (report : Report) : Type 0 where
  pub settings : Settings
  pub asks : source_settings a e script ≡ Ok settings
  pub shows_it : shows settings ≡ true
  pub is : report ≡ shown_report script settings

pub shows_as : (a : List (List ℕ)) (e : List (List ℕ × List ℕ)) (script : Script) (found : Found) (report : Report) → judgement a e script ≡ Ok (judged_of found) → found ≡ founds.Shows report → ShowsAs a e script report
shows_as a e script found report is kind =
    let by = asks_it a e script (Shows report) (is ∙ ap (λ f. Ok (judged_of f)) kind) in
    let told = shows_by a script by.settings (shows by.settings) report by.is in
    record { settings = by.settings; asks = by.asks; shows_it = told.1; is = told.0 }
