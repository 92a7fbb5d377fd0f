use Rattle.std.proofs.Common.{subst}
use Rattle.lint_errors.specs.Errors.{IsAccepted}
use Rattle.port_put.specs.Calls.{source_with}
use Rattle.port_shell.specs.Formed as specs
use Rattle.port_shell.proofs.puts.accepted_turns.Goals as goal

pub returns-then-branch : goal.returns-then-branch
returns-then-branch c =
    specs.MayPut.repeated c.requires (subst (λ put. IsAccepted (source_with put)) c.as_slice.ensures.value (c.in_ok-is_accepted.ensures c.if-branch.true))
