-- The texts so far, and those from here on, are those of the list.
use Rattle.std.proofs.Common.{◌≡◌, ◌++◌, drop}
use Rattle.std.specs.Prelude.{IfSome}
use Rattle.cmd_call.specs.Given.{listed}
use Rattle.cmd_call.proofs.process.texts_of.Given as goal

abbrev pub invariant-loop-i : goal.invariant-loop-i
invariant-loop-i g l = IfSome (g.T.Texts.given l.given) (λ all. l.texts.items ++ drop l.i (listed l.list all) ≡ drop l.first (listed l.list all))
