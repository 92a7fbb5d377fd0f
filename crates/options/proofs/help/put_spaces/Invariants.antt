use Rattle.std.proofs.Common.{◌≡◌, ◌++◌}
use Rattle.options.specs.HelpText.{spaces}
use Rattle.options.proofs.help.put_spaces.Given as goal

abbrev pub invariant-loop : goal.invariant-loop
invariant-loop l = l.text.items ≡ l.fn.text.items ++ spaces l.counter
