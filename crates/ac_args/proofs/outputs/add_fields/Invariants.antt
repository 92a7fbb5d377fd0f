use Rattle.std.proofs.Common.{◌≡◌, drop}
use Rattle.ac_args.specs.Outputs.{with_fields}
use Rattle.ac_args.proofs.OutputLemmas.{texts}
use Rattle.ac_args.proofs.outputs.add_fields.Given as goal

abbrev pub invariant-loop-field : goal.invariant-loop-field
invariant-loop-field l = with_fields l.at l.own l.other l.outputs (texts (drop l.field-index l.fields)) ≡ with_fields l.at l.own l.other l.fn.outputs (texts l.fields)
