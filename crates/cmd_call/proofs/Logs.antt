-- A log of which nothing was written.
use Rattle.std.specs.Prelude.{codes}
use Rattle.file_disk.proofs.Deeds.{does_none}
use Rattle.file_disk.specs.Known.{Known}
use Rattle.std.proofs.Common.{Option}
use Rattle.file_texts.specs.Held.{Held}
use Rattle.file_texts.specs.Steps.{IsBegun, unseen}
use Rattle.cmd_call.specs.Logged.{HasNoLog}

pub no_log_yet : {D : Type 0} (known : D → Option Known) (o : Held D) → HasNoLog known o o
no_log_yet known o = does_none (known o.disk) (λ k deeds. IsBegun k (codes "config.log") deeds) (λ k. unseen)
