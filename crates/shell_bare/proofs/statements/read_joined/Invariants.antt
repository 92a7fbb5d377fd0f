use Rattle.std.proofs.Common.{◌≡◌, ◌-◌, ◌≤◌, length, drop}
use Rattle.shell_bare.specs.declared.item.ReadStage.TheVariants.{Opening}
use Rattle.shell_bare.specs.Reading.{statements_from}
use Rattle.fallible.proofs.Pieces.{with_list}
use Rattle.shell_bare.proofs.statements.read_joined.Given as goal

abbrev pub invariant-loop-at : goal.invariant-loop-at
invariant-loop-at l = record {
  within : l.at ≤ length l.text;
  goes_on : with_list l.list.items (statements_from 0 l.stage l.at (drop l.at l.text)) ≡ statements_from 0 Opening 0 l.text;
}

abbrev pub decreases-loop-at : goal.decreases-loop-at
decreases-loop-at l = length l.text - l.at
