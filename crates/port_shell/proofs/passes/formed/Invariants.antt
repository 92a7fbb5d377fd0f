use Rattle.port_shell.specs.Formed.{IsFormed}
use Rattle.port_shell.proofs.passes.formed.Given as goal

abbrev pub invariant-loop : goal.invariant-loop
invariant-loop l = IsFormed l.idioms l.text l.out.items
