use Rattle.std.proofs.Common.{◌≡◌, take}
use Rattle.output_put.specs.Receipt.{with_artifacts}
use Rattle.output_put.proofs.putting.put_all.Given as goal

abbrev pub invariant-artifacts : goal.invariant-artifacts
invariant-artifacts g l = record {
  number : l.number ≡ l.artifact-index;
  handed : g.O.Outputs.receipt l.outputs ≡ with_artifacts (g.O.Outputs.receipt l.fn.outputs) (take l.artifact-index l.artifacts);
  kept : g.O.Outputs.kept l.outputs ≡ g.O.Outputs.kept l.fn.outputs;
}
