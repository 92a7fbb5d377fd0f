use Rattle.std.proofs.Common.{◌≡◌, map, drop}
use Rattle.std.specs.List.{list_any}
use Rattle.ac_calls.specs.Calls.{macro_call_of}
use Rattle.cmd_port.specs.Served.{is_within}
use Rattle.cmd_port.proofs.serving.is_inside.Given as goal

abbrev pub invariant-loop-other : goal.invariant-loop-other
invariant-loop-other l =
    list_any (is_within (macro_call_of l.call)) (map macro_call_of (drop l.other-index l.calls)) ≡ list_any (is_within (macro_call_of l.call)) (map macro_call_of l.calls)
