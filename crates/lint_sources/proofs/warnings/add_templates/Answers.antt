use Rattle.lint_sources.proofs.Parts.{one_template}
use Rattle.lint_sources.proofs.warnings.add_templates.Goals as goal

pub sheets-preserved : goal.sheets-preserved
sheets-preserved g c = λ old first. one_template (g.W.Warner.finds c.args.warner.now c.args.text.now c.args.reading.now c.args.sheets.now c.args.given.now) old c.sheets.out.items c.warn.new.out.items c.sheets.index
    (c.sheets.invariant old first) c.in_ok-warn.ensures
