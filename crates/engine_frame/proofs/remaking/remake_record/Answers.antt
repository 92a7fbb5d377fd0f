use Rattle.std.proofs.Common.{◌≡◌, refl}
use Rattle.engine_frame.proofs.Remakes.{fails, put_slice}
use Rattle.engine_frame.proofs.remaking.remake_record.Goals as goal

pub returns-in_err-artifacts : goal.returns-in_err-artifacts
returns-in_err-artifacts g c = record { remade = fails _ _ _ _ _ _ c.in_err-artifacts.ensures c.from_residual.ensures.1 refl; lasting = refl }

pub returns : goal.returns
returns g c = record { remade = put_slice _ _ _ _ _ _ _ c.in_ok-artifacts.ensures c.as_slice.ensures c.put_artifacts.ensures.put; lasting = c.put_artifacts.ensures.lasting }
