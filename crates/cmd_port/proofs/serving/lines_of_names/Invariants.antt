use Rattle.std.proofs.Common.{◌≡◌, take}
use Rattle.std.specs.List.{flat_map}
use Rattle.lint_templates.specs.Served.{lines_for}
use Rattle.cmd_port.proofs.serving.lines_of_names.Given as goal

abbrev pub invariant-loop-i : goal.invariant-loop-i
invariant-loop-i l = l.lines.items ≡ flat_map (lines_for l.all) (take l.i l.names)
