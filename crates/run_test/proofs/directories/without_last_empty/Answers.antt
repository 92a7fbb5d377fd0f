use Rattle.std.proofs.Common.{sym}
use Rattle.run_test.proofs.PathParts.{without_last}
use Rattle.run_test.proofs.directories.without_last_empty.Goals as goal

pub returns-then-ends_empty : goal.returns-then-ends_empty
returns-then-ends_empty c = without_last c.args.parts.now _ c.saturating_sub.ensures (sym c.if-ends_empty.ensures)
