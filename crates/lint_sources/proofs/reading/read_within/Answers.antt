use Rattle.lint_sources.proofs.Paths.{within_lent}
use Rattle.lint_sources.proofs.reading.read_within.Goals as goal

pub returns : goal.returns
returns g c = within_lent (g.D.Disk.known c.args.disk.now) c.read_at.result _ _ _ c.as_slice.ensures c.in_ok-path.ensures c.read_at.ensures
