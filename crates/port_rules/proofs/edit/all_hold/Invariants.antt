use Rattle.std.proofs.Common.{◌≡◌, drop}
use Rattle.port_rules.specs.Edits.{all_hold}
use Rattle.port_rules.proofs.edit.all_hold.Given as goal

abbrev pub invariant-loop-cond : goal.invariant-loop-cond
invariant-loop-cond l = all_hold l.text l.bounds (drop l.cond-index l.conds) ≡ all_hold l.text l.bounds l.conds
