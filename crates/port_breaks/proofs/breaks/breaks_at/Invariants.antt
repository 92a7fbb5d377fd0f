use Rattle.std.specs.Prelude.{All}
use Rattle.port_edits.specs.Edits.{change_of}
use Rattle.port_breaks.specs.Breaks.{IsBreak}
use Rattle.port_breaks.proofs.breaks.breaks_at.Given as goal

abbrev pub invariant-loop-at : goal.invariant-loop-at
invariant-loop-at l = All (λ e. IsBreak l.text (change_of e)) l.edits.items
