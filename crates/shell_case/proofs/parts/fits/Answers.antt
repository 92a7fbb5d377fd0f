use Rattle.std.proofs.Common.{sym, ◌∙◌, arith}
use Rattle.shell_case.proofs.Groups.{fits_short}
use Rattle.shell_case.proofs.parts.fits.Goals as goal

pub returns-then-i-text : goal.returns-then-i-text
returns-then-i-text c = sym (fits_short c.loop-i.i c.args.pieces.now c.args.text.now c.loop-i-test.true (omega (arith, c.if-i-text.true))) ∙ c.loop-i.invariant
