use Rattle.std.proofs.Common.{true, []}
use Rattle.cmd_call.specs.Lines.{SaysLines}
use Rattle.cmd_explain.proofs.made.explain_made.Given as goal

abbrev pub invariant-files : goal.invariant-files
invariant-files g l = SaysLines g.E.Write.contents g.E.Hears.has_failed l.fn.errors l.errors true []
