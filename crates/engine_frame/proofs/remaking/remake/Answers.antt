use Rattle.std.proofs.Common.{refl}
use Rattle.engine_frame.proofs.Remakes.{unread, of_text}
use Rattle.engine_frame.proofs.remaking.remake.Goals as goal

pub returns-in_err-recorded : goal.returns-in_err-recorded
returns-in_err-recorded g c = record { remade = unread _ _ _ _ _ _ _ _ c.in_err-recorded.ensures c.from_residual.ensures.1 refl; lasting = refl }

pub returns : goal.returns
returns g c = record { remade = of_text _ _ _ _ _ _ _ _ c.in_ok-recorded.ensures c.remake_record.ensures.remade; lasting = c.remake_record.ensures.lasting }
