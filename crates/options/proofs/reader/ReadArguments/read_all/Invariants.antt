use Rattle.std.proofs.Common.{◌≡◌, drop}
use Rattle.options.specs.Stepwise.{with_arguments}
use Rattle.options.proofs.reader.ReadArguments.read_all.Given as goal

abbrev pub invariant-loop-i : goal.invariant-loop-i
invariant-loop-i l = with_arguments l.features l.packages l.i l.self (drop l.i l.args) ≡ with_arguments l.features l.packages 0 l.fn.self l.args
