use Rattle.std.specs.Prelude.{option_map}
use Rattle.cmd_port.specs.Asked.{package_of}
use Rattle.cmd_port.specs.Ported.{IsMoved}
use Rattle.cmd_port.proofs.moving.moved.Given as goal

abbrev pub invariant-loop : goal.invariant-loop
invariant-loop l = IsMoved l.idioms (option_map package_of l.naming) l.text l.out.items
