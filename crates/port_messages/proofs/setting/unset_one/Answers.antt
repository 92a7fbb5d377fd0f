use Rattle.std.proofs.Common.{subst, sym, codes}
use Rattle.port_messages.specs.Told as specs
use Rattle.port_messages.proofs.setting.unset_one.Goals as goal

pub returns : goal.returns
returns c =
    subst (λ put. specs.Becomes c.args.command.now (codes "unset: the variable is empty") put) (sym c.in_ok-put.ensures) (specs.Becomes.cleared c.in-Some.name.now c.in-Some.ensures)
