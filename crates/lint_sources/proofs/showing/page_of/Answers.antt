use Rattle.std.proofs.Common.{refl}
use Rattle.lint_sources.proofs.Pages.{paged}
use Rattle.lint_sources.proofs.showing.page_of.Goals as goal

pub returns : goal.returns
returns g c =
    paged (g.S.Shower.shows c.args.shower.now) c.args.linted.now c.args.sheets.now c.args.findings.now _ _ _ _
    c.first_of.ensures c.in_ok-page.ensures refl c.in_ok-put_rest.ensures.added c.in_ok-put_rest.ensures.few
