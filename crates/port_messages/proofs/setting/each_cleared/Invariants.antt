use Rattle.std.proofs.Common.{◌≡◌, take}
use Rattle.std.specs.List.{flat_map}
use Rattle.port_messages.specs.Told.{set_byte}
use Rattle.port_messages.proofs.setting.each_cleared.Given as goal

abbrev pub invariant-loop-byte : goal.invariant-loop-byte
invariant-loop-byte l = l.out.items ≡ flat_map set_byte (take l.byte-index l.names)
