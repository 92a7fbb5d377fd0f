use Rattle.cmd_why.proofs.Nearness.{inserted}
use Rattle.cmd_why.proofs.nearest.insert_near.Goals as goal

pub returns : goal.returns
returns c = inserted c.args.nearest.now.items _ _ c.args.near c.args.place c.in_ok-insert.ensures.items c.truncate.ensures.items
