use Rattle.std.proofs.Common.{refl}
use Rattle.port_messages.specs.Told as specs
use Rattle.port_messages.proofs.speaking.spoken.Goals as goal

pub call_for-requires : goal.call_for-requires
call_for-requires c = specs.Speaks.blank (c.if-is_blank_echo.ensures refl)

pub call_for-requires-in-Some-failure_of : goal.call_for-requires-in-Some-failure_of
call_for-requires-in-Some-failure_of c = specs.Speaks.fails c.in-Some-failure_of.message.now c.in-Some-failure_of.status.now c.in-Some-failure_of.ensures
