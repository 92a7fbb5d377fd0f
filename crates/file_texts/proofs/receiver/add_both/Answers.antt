use Rattle.file_texts.proofs.Placed.{placed_both}
use Rattle.file_texts.proofs.Writings.{ok_then}
use Rattle.file_texts.proofs.receiver.add_both.Goals as goal

pub returns-clause-placed : goal.returns-clause-placed
returns-clause-placed g c =
    ok_then c.add_place-2.result c.add_place-2.ensures.added
    (λ s. placed_both _ _ _ _ _ c.args.name.now c.args.file.now c.in_ok-add_place.ensures.added s)
