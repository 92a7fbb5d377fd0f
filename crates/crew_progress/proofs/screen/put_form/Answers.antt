use Rattle.crew_progress.proofs.Cutting.{put_after_cut, put_without_room, put_with_room}
use Rattle.crew_progress.proofs.screen.put_form.Goals as goal

pub returns-then-screen : goal.returns-then-screen
returns-then-screen g c = λ text byte form h. put_after_cut g.row.N _ _ text byte c.if-screen.true h

pub returns-then-remaining_capacity-form : goal.returns-then-remaining_capacity-form
returns-then-remaining_capacity-form g c =
    λ text byte form h. put_without_room g.row.N _ _ _ _ text byte c.if-screen.false c.remaining_capacity.ensures c.if-remaining_capacity-form.true form h

pub returns : goal.returns
returns g c =
    λ text byte form h. put_with_room g.row.N c.args.screen.now.line.items _ _ _ _ c.try_extend_from_slice-fits.result text byte c.if-screen.false c.remaining_capacity.ensures
    c.if-remaining_capacity-form.false c.try_extend_from_slice-fits.ensures.variant c.try_extend_from_slice-fits.ensures.ok form h
