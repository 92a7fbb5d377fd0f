use Rattle.std.proofs.Common.{take, length, ℕ, ◌≤◌}
use Rattle.std.specs.Io.KnownBytes.{Appends}
use Rattle.cmd_call.proofs.writes.write_front.Given as goal

abbrev pub invariant-writes : goal.invariant-writes
invariant-writes g l = record {
  within : l.taken ≤ length l.fn.text;
  written : Appends (g.E.Write.contents l.fn.errors) (g.E.Write.contents l.errors) (take l.taken l.fn.text);
}

abbrev pub decreases-writes : goal.decreases-writes
decreases-writes g l = l.writes
