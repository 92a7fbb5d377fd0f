use Rattle.std.proofs.Common.{◌≡◌, ◌++◌, drop}
use Rattle.meaning.specs.Package.{escaped}
use Rattle.run_state.proofs.literal.escaped.Given as goal

abbrev pub invariant-loop-byte : goal.invariant-loop-byte
invariant-loop-byte l = l.out.items ++ escaped (drop l.byte-index l.text) ≡ escaped l.text
