use Rattle.std.proofs.Common.{arith, subst, sym, []}
use Rattle.lint_sources.specs.Shown.{AreShown}
use Rattle.lint_sources.specs.Shown as specs
use Rattle.lint_sources.proofs.Pages.{all_shown, one_shown}
use Rattle.lint_sources.proofs.showing.first_page.Goals as goal

pub findings-init : goal.findings-init
findings-init g c = subst (AreShown (g.S.Shower.shows c.args.shower.now) c.args.linted.now c.args.sheets.now []) (sym c.new-page.ensures.items) specs.AreShown.none

pub findings-preserved : goal.findings-preserved
findings-preserved g c =
    one_shown (g.S.Shower.shows c.args.shower.now) c.args.linted.now c.args.sheets.now c.args.findings.now c.findings.finding-index c.finding-item.result _ _ _ _
    c.findings-test.true c.finding-item.is c.findings.invariant c.in_ok-text.ensures c.as_slice.ensures c.in_ok-extend_from_slice.ensures.items

pub returns : goal.returns
returns g c = all_shown (g.S.Shower.shows c.args.shower.now) c.args.linted.now c.args.sheets.now c.args.findings.now c.findings.finding-index _ (omega (arith, c.findings-test.false)) c.findings.invariant
