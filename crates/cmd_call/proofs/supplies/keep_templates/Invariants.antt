use Rattle.std.proofs.Common.{take}
use Rattle.file_texts.specs.Held.{GuardsMore}
use Rattle.cmd_call.specs.Guarded.{AreGuarded, paths_of}
use Rattle.cmd_call.proofs.supplies.keep_templates.Given as goal

abbrev pub invariant-templates : goal.invariant-templates
invariant-templates g l = record {
  more : GuardsMore l.fn.outputs l.outputs;
  guarded : AreGuarded (g.D.Disk.known l.outputs.disk) l.outputs.guards (paths_of l.fn.srcdir (take l.template-index l.fn.templates));
}
