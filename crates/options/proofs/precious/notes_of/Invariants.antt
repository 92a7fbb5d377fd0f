use Rattle.std.proofs.Common.{◌≡◌, take, map}
use Rattle.options.specs.Precious.{blanks_note}
use Rattle.options.proofs.precious.notes_of.Given as goal

abbrev pub invariant-loop-change : goal.invariant-loop-change
invariant-loop-change l = l.notes ≡ map (λ change. blanks_note change.0) (take l.change-index l.changes)
