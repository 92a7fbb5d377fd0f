use Rattle.std.proofs.Common.{true, []}
use Rattle.cmd_call.specs.Lines.{SaysLines}
use Rattle.cmd_explain.proofs.directories.explain_directories.Given as goal

abbrev pub invariant-directories : goal.invariant-directories
invariant-directories g l = SaysLines g.E.Write.contents g.E.Hears.has_failed l.fn.errors l.errors true []
