use Rattle.std.proofs.Common.{◌≡◌, false, drop, []}
use Rattle.status_record.specs.Escape.{unescaped_from}
use Rattle.status_record.proofs.escape.unescaped.Given as goal

abbrev pub invariant-loop-byte : goal.invariant-loop-byte
invariant-loop-byte l = unescaped_from l.in_escape l.out.items (drop l.byte-index l.text) ≡ unescaped_from false [] l.text
