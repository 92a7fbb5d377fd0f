use Rattle.std.specs.Prelude.{All}
use Rattle.port_statements.specs.Statements.{MayBegin}
use Rattle.port_statements.proofs.offsets.push_offsets.Given as goal

abbrev pub invariant-loop-i : goal.invariant-loop-i
invariant-loop-i l = All (MayBegin l.text) l.offsets.items
