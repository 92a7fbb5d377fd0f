use Rattle.std.proofs.Common.{ℕ, List, ◌<◌, map, get_or}
use Rattle.ac_calls.specs.Calls.{macro_call_of}
use Rattle.port_setup.specs.Needed.{IsLookedFor}
use Rattle.port_setup.proofs.needing.are_looked_for.Given as goal

abbrev pub invariant-loop-i : goal.invariant-loop-i
invariant-loop-i l = (k : ℕ) (d : List ℕ) → k < l.i → IsLookedFor l.text (map macro_call_of l.calls) l.start (get_or (map (λ header. header.now) l.headers) k d)
