use Rattle.std.proofs.Common.{◌≡◌, ◌++◌, take}
use Rattle.output_list.proofs.output.OutputList.push_copies.Given as goal

abbrev pub invariant-loop-output : goal.invariant-loop-output
invariant-loop-output l = l.self-inside.outputs.items ≡ l.fn.self ++ take l.output-index l.outputs
