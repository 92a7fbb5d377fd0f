use Rattle.std.proofs.Common.{refl}
use Rattle.port_compounds.proofs.guards.statement_after.Goals as goal

pub returns-then-branch : goal.returns-then-branch
returns-then-branch c =
    record { from = c.after_blanks-from.result; place = c.if-not-is_after_joint.ensures refl; is = refl; one = c.in_ok-is_one_command.ensures c.if-branch.true }
