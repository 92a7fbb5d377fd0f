-- With what variables a run is opened: the precious ones are marked.
use Rattle.std.proofs.Common.{◌≡◌, ℕ, List, None, Ok, sym, ap}
use Rattle.cachefile.proofs.Orders.{Entries}
use Rattle.options_line.specs.Arguments.{settings_from}
use Rattle.options_line.specs.CommandLine.{Setting}
use Rattle.options.specs.Opening.{setters, set_by, finished, run_settings, opened_by, opening}
use Rattle.options.specs.declared.settings.Settings.{Settings}
use Rattle.engine_restarts.proofs.Judging.{bind_ok}

-- The variables are what these setters make, finished.
abbrev pub AreFinished : List (List ℕ) → Entries → Type 0
AreFinished precious vars = (es : Entries) × (vars ≡ finished precious (set_by es))

opened : (features packages precious : List (List ℕ)) (environment : Entries) (ss : List Setting) (settings : Settings) → opened_by features packages precious environment ss ≡ Ok settings → AreFinished precious settings.vars
unfolding opened_by run_settings
opened features packages precious environment ss settings e =
    let notes = bind_ok _ (λ notes. Ok (run_settings precious (set_by (setters environment ss)) ss notes)) settings e in
    let is : run_settings precious (set_by (setters environment ss)) ss notes.0 ≡ settings = let h = notes.1.1 in cc in
    (setters environment ss, ap (λ s. s.vars) (sym is))

pub opening_finished : (features packages precious arguments : List (List ℕ)) (environment : Entries) (settings : Settings) → opening features packages precious arguments environment ≡ Ok settings → AreFinished precious settings.vars
unfolding opening
opening_finished features packages precious arguments environment settings e =
    let ss = bind_ok (settings_from None 0 arguments) (opened_by features packages precious environment) settings e in
    opened features packages precious environment ss.0 settings ss.1.1
