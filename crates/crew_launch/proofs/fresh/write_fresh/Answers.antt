use Rattle.crew_launch.proofs.Spoilt.{spoilt}
use Rattle.crew_launch.proofs.fresh.write_fresh.Goals as goal

pub returns-in-Ok-clause-spoilt : goal.returns-in-Ok-clause-spoilt
returns-in-Ok-clause-spoilt g c =
    let before = g.D.Disk.known c.args.disk.now in
    let after = g.D.Disk.known c.create_filled.new.disk in
    spoilt c.create_filled.result before _ after c.args.name.now c.in-Ok.ensures.cleared c.create_filled.ensures.torn
