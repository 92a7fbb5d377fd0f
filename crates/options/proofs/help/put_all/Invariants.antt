use Rattle.std.proofs.Common.{◌≡◌, ◌++◌, take}
use Rattle.std.specs.List.{flat_map}
use Rattle.options.specs.HelpText.{help_lines}
use Rattle.options.proofs.help.put_all.Given as goal

abbrev pub invariant-loop-help : goal.invariant-loop-help
invariant-loop-help l = l.text.items ≡ l.fn.text.items ++ flat_map help_lines (take l.help-index l.entries)
