use Rattle.std.specs.Prelude.{All}
use Rattle.port_places.specs.Outside.{IsList}
use Rattle.port_statements.specs.Statements.{BeginsOutside, MayBegin}
use Rattle.port_statements.proofs.lists.push_all.Given as goal

abbrev pub invariant-loop-i : goal.invariant-loop-i
invariant-loop-i l = All (IsList l.text l.calls) l.lists.items × All (BeginsOutside l.text) l.statements.cuts.items × All (MayBegin l.text) l.statements.offsets.items
