use Rattle.std.proofs.Common.{◌≡◌, None, codes, drop}
use Rattle.options_line.specs.Srcdir.{srcdir_from}
use Rattle.options_line.proofs.srcdir.srcdir_named.Given as goal

abbrev pub invariant-loop-argument : goal.invariant-loop-argument
invariant-loop-argument l =
    srcdir_from l.awaited l.srcdir (drop l.argument-index l.args) ≡ srcdir_from None (codes ".") l.args
