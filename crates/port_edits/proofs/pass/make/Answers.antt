use Rattle.std.proofs.Common.{sym, ◌∙◌}
use Rattle.port_edits.specs.Edits as specs
use Rattle.port_edits.proofs.Steps.{made_step, on_ok}
use Rattle.port_edits.proofs.pass.make.Goals as goal

pub returns-then-not-fits : goal.returns-then-not-fits
returns-then-not-fits c = specs.IsStep.left (sym c.fits.ensures ∙ c.if-not-fits.true)

pub returns : goal.returns
returns c =
    on_ok (made_step c.args.text.now c.args.pass.now.at c.args.pass.now.out.items (specs.change_of c.args.edit.now) _ _ _ (sym c.fits.ensures ∙ c.if-not-fits.false) c.as_slice.ensures.value)
    c.write_change.result c.write_change.ensures
