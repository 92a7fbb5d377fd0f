use Rattle.crew_progress.proofs.Parts.{front_more}
use Rattle.crew_progress.proofs.subject.put_front.Goals as goal

pub returns : goal.returns
returns c =
    λ text is. front_more c.args.line.now.items c.try_extend_from_slice-fits.new.self.items c.args.more.now text c.remaining_capacity.result c.min-room.result c.try_extend_from_slice-fits.result
    c.remaining_capacity.ensures c.min-room.ensures c.try_extend_from_slice-fits.ensures.variant c.try_extend_from_slice-fits.ensures.ok is
