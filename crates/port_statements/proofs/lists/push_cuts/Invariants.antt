use Rattle.std.specs.Prelude.{All}
use Rattle.port_statements.specs.Statements.{BeginsOutside}
use Rattle.port_statements.proofs.lists.push_cuts.Given as goal

abbrev pub invariant-loop-cut : goal.invariant-loop-cut
invariant-loop-cut l = All (BeginsOutside l.text) l.cuts.items
