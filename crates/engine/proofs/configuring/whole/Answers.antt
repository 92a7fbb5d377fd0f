use Rattle.std.proofs.Common.{refl}
use Rattle.engine.proofs.Wholes.{judged_first, judged_runs, fails_first, fails_judged, same_whole, shows_text}
use Rattle.engine.proofs.configuring.whole.Goals as goal

pub returns-in_err-source-clause-whole : goal.returns-in_err-source-clause-whole
returns-in_err-source-clause-whole g c =
    fails_first _ _ _ _ _ _ _ _ _ _ _ _ (judged_first _ _ _ _ _) c.in_err-source.ensures.exact c.from_residual.ensures.1 (refl, refl)

pub returns-in_err-report-clause-whole : goal.returns-in_err-report-clause-whole
returns-in_err-report-clause-whole g c =
    fails_judged _ _ _ _ _ _ _ _ _ _ _ _ _ _ _ c.in_ok-source.ensures.exact c.in_err-report.ensures.exact c.from_residual-in_err-report.ensures.1 (refl, refl)

pub returns-in-Shows-clause-whole : goal.returns-in-Shows-clause-whole
returns-in-Shows-clause-whole g c =
    shows_text _ _ _ _ _ _ _ _ _ _ _ _ _ _ _ c.in_ok-source.ensures.exact c.in_ok-report.ensures.exact c.in-Shows.is (refl, refl)

pub returns-clause-whole : goal.returns-clause-whole
returns-clause-whole g c =
    same_whole _ _ _ _ _ _ _ _ _ _ (judged_runs _ _ _ _ _ _ _ c.in-Runs.needs c.in_ok-source.ensures.exact c.in_ok-report.ensures.exact c.in-Runs.is) c.gone.ensures.whole
