use Rattle.std.proofs.Common.{List, ◌++◌, take}
use Rattle.output_list.specs.declared.output.Output.{Output}
use Rattle.cmd_call.specs.Supplies.{AreLookedFor}
use Rattle.cmd_call.proofs.supplies.add_templates.Given as goal

abbrev pub invariant-outputs : goal.invariant-outputs
invariant-outputs g l = (before : List Output) → AreLookedFor (g.D.Disk.known l.disk) l.srcdir before l.fn.names l.fn.templates.items
    → AreLookedFor (g.D.Disk.known l.disk) l.srcdir (before ++ take l.output-index l.outputs) l.names l.templates.items
