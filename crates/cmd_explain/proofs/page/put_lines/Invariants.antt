use Rattle.std.proofs.Common.{true, []}
use Rattle.cmd_call.specs.Lines.{SaysLines}
use Rattle.cmd_explain.proofs.page.put_lines.Given as goal

abbrev pub invariant-lines : goal.invariant-lines
invariant-lines g l = SaysLines g.E.Write.contents g.E.Hears.has_failed l.fn.errors l.errors true []
