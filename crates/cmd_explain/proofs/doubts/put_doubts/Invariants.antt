use Rattle.std.proofs.Common.{true, []}
use Rattle.cmd_call.specs.Lines.{SaysLines}
use Rattle.cmd_explain.proofs.doubts.put_doubts.Given as goal

abbrev pub invariant-entries : goal.invariant-entries
invariant-entries g l = SaysLines g.E.Write.contents g.E.Hears.has_failed l.fn.errors l.errors true []
