use Rattle.std.proofs.Common.{map}
use Rattle.ac_calls.specs.Calls.{macro_call_of}
use Rattle.port_setup.specs.Needed.{IsRunAfter}
use Rattle.port_setup.proofs.needing.is_run_after.Given as goal

abbrev pub invariant-loop : goal.invariant-loop
invariant-loop l = IsRunAfter l.text (map macro_call_of l.calls) l.start l.at
