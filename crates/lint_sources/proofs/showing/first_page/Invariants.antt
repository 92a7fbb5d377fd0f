use Rattle.std.proofs.Common.{take}
use Rattle.lint_sources.specs.Shown.{AreShown}
use Rattle.lint_sources.proofs.showing.first_page.Given as goal

abbrev pub invariant-findings : goal.invariant-findings
invariant-findings g l = AreShown (g.S.Shower.shows l.shower) l.linted l.sheets (take l.finding-index l.findings) l.page.items
