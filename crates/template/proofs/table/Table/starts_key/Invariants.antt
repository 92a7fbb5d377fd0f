use Rattle.std.proofs.Common.{◌≡◌, drop}
use Rattle.template.specs.Pieces.{begins_key}
use Rattle.template.proofs.table.Table.starts_key.Given as goal

-- whether a key from here on begins with the text
abbrev pub invariant-loop-i : goal.invariant-loop-i
invariant-loop-i l = begins_key (drop l.i l.self) l.text ≡ begins_key l.self l.text
