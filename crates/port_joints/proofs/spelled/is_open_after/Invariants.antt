use Rattle.std.proofs.Common.{◌≡◌, drop, false}
use Rattle.port_joints.specs.Spelled.{is_open_after}
use Rattle.port_joints.proofs.spelled.is_open_after.Given as goal

abbrev pub invariant-loop-byte : goal.invariant-loop-byte
invariant-loop-byte l = is_open_after l.is_open (drop l.byte-index l.text) ≡ is_open_after false l.text
