use Rattle.std.proofs.Common.{subst}
use Rattle.lint_sources.specs.Shown.{IsPage}
use Rattle.lint_sources.proofs.showing.shown_page.Goals as goal

pub returns-clause-page : goal.returns-clause-page
returns-clause-page g c = record {
  found = c.in_ok-found.found.findings.items;
  sheets = c.in_ok-found.found.sheets;
  listed = c.in_ok-found.ensures.listed;
  is = subst (λ list. IsPage (g.S.Shower.shows c.args.shower.now) c.args.linted.now c.in_ok-found.found.sheets list c.in_ok-page.page.items) c.as_slice-findings.ensures.value c.in_ok-page.ensures;
}
