use Rattle.port_passes.specs.Rewritten.{IsRewritten}
use Rattle.port_calls.proofs.passes.replaced.Given as goal

abbrev pub invariant-loop : goal.invariant-loop
invariant-loop l = IsRewritten l.idioms l.text l.out.items
