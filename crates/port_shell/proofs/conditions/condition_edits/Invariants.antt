use Rattle.std.specs.Prelude.{All}
use Rattle.port_edits.specs.Edits.{change_of}
use Rattle.port_shell.specs.Formed.{IsEdit}
use Rattle.port_shell.proofs.conditions.condition_edits.Given as goal

abbrev pub invariant-loop-i : goal.invariant-loop-i
invariant-loop-i l = All (λ e. IsEdit l.idioms l.text (change_of e)) l.edits.items
