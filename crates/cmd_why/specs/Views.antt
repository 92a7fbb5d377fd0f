-- The lines and the checks of the code, as the definitions have them.
use Rattle.std.specs.Prelude.{List, map}
use Rattle.cmd_why.specs.Lines.{Line, Check}
use Rattle.cmd_why.specs.declared.lines.LogLine.{LogLine}
use Rattle.cmd_why.specs.Nearest.{Near}
use Rattle.cmd_why.specs.declared.lines.Check.{Check as Lent}
use Rattle.cmd_why.specs.declared.nearest.Near.{Near as LentNear}

-- A line. (own)
abbrev pub line_seen : LogLine → Line
line_seen line = record { part = line.part; text = line.text.now; child = line.child }

-- A check. (own)
abbrev pub check_seen : Lent → Check
check_seen check = record { message = check.message.now; rest = map line_seen check.rest.now }

-- A check that is near. (own)
abbrev pub near_seen : LentNear → Near
near_seen near = record { message = near.message.now; distance = near.distance }
