use Rattle.std.proofs.Common.{◌≡◌, None, map, drop}
use Rattle.std.specs.List.{fold}
use Rattle.ac_calls.specs.Calls.{macro_call_of}
use Rattle.cmd_port.specs.Served.{output_after}
use Rattle.cmd_port.proofs.serving.output_place.Given as goal

abbrev pub invariant-loop-call : goal.invariant-loop-call
invariant-loop-call l = fold (output_after l.text) l.place (map macro_call_of (drop l.call-index l.calls)) ≡ fold (output_after l.text) None (map macro_call_of l.calls)
