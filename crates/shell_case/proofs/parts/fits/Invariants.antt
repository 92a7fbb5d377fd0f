use Rattle.std.proofs.Common.{◌≡◌, drop}
use Rattle.shell_case.specs.Parts.{fits}
use Rattle.shell_case.proofs.parts.fits.Given as goal

abbrev pub invariant-loop-i : goal.invariant-loop-i
invariant-loop-i l = fits (drop l.i l.pieces) (drop l.i l.text) ≡ fits l.pieces l.text
