use Rattle.std.proofs.Common.{arith, subst, sym, []}
use Rattle.lint_sources.specs.Differing.{ArePrinted}
use Rattle.lint_sources.specs.Differing as specs
use Rattle.lint_sources.proofs.Printed.{all_printed, one_printed}
use Rattle.lint_sources.proofs.differing.page_of_differences.Goals as goal

pub findings-init : goal.findings-init
findings-init c = subst (ArePrinted []) (sym c.new-page.ensures.items) specs.ArePrinted.none

pub findings-preserved : goal.findings-preserved
findings-preserved c =
    one_printed c.args.found.now c.findings.finding-index c.finding-item.result _ _ c.findings-test.true c.finding-item.is c.findings.invariant c.in_ok-put_difference.ensures

pub returns : goal.returns
returns c = all_printed c.args.found.now c.findings.finding-index _ (omega (arith, c.findings-test.false)) c.findings.invariant
