-- So far the name leads to where this end leads.
use Rattle.std.proofs.Common.{string_bytes}
use Rattle.file_texts.proofs.Leading.{LeadsBy}
use Rattle.file_texts.proofs.links.followed.Given as goal

abbrev pub invariant-loop : goal.invariant-loop
invariant-loop g l = LeadsBy (g.D.Disk.known l.disk) l.name (string_bytes l.end)
