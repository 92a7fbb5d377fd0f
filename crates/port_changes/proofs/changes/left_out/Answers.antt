use Rattle.port_spots.specs.Put as specs
use Rattle.port_changes.proofs.changes.left_out.Goals as goal

pub returns : goal.returns
returns c = specs.IsPut.dropped _ c.requires.dropped c.in_ok-change.ensures
