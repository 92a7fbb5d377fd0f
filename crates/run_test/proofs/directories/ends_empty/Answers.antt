use Rattle.std.proofs.Common.{◌∙◌, arith}
use Rattle.run_test.proofs.PathParts.{last_at}
use Rattle.run_test.proofs.directories.ends_empty.Goals as goal

pub returns : goal.returns
returns c = c.is_empty.ensures ∙ last_at c.args.parts.now _ c.in-Some.last (omega (arith, c.in-Some.ensures))
