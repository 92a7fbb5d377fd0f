use Rattle.std.proofs.Common.{subst, sym}
use Rattle.lint_errors.specs.Errors.{IsAccepted}
use Rattle.cmd_port.proofs.Saying.{lost_of, memory_said, none_left}
use Rattle.cmd_port.proofs.command.port_source.Goals as goal

pub returns-in-Ok-Some-clause-refused : goal.returns-in-Ok-Some-clause-refused
returns-in-Ok-Some-clause-refused g c = lost_of _ _ _ _ _ _ _ c.end_ported.ensures.refused

pub returns-in-Ok-None-clause-refused : goal.returns-in-Ok-None-clause-refused
returns-in-Ok-None-clause-refused g c = λ two.
    c.tell_quotes.ensures.said _ (λ accepted. none_left _ _ c.in-Ok-None.field-0-is (c.in-Ok-None.ensures.kept (subst IsAccepted (sym c.as_slice.ensures) accepted)))

pub returns-in-Err-clause-refused : goal.returns-in-Err-clause-refused
returns-in-Err-clause-refused g c = λ is. memory_said _ _ _ _ _ _ c.tell_memory.ensures.told
