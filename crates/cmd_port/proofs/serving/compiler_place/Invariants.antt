use Rattle.std.proofs.Common.{◌≡◌, map, drop}
use Rattle.ac_calls.specs.Calls.{macro_call_of}
use Rattle.cmd_port.specs.Served.{compiler_among, compiler_place}
use Rattle.cmd_port.proofs.serving.compiler_place.Given as goal

abbrev pub invariant-loop-call : goal.invariant-loop-call
invariant-loop-call l = compiler_among l.text (map macro_call_of l.calls) (map macro_call_of (drop l.call-index l.calls)) ≡ compiler_place l.text (map macro_call_of l.calls)
