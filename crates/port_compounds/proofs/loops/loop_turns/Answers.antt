use Rattle.std.proofs.Common.{refl}
use Rattle.port_compounds.proofs.loops.loop_turns.Goals as goal

pub turns_named-requires-clause-statement : goal.turns_named-requires-clause-statement
turns_named-requires-clause-statement c = (c.if-not-is_alone.ensures refl).0
