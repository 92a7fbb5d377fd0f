use Rattle.std.proofs.Common.{subst, sym, codes, refl}
use Rattle.port_messages.specs.Told as specs
use Rattle.port_messages.proofs.setting.exported.Goals as goal

pub returns-then-are_names : goal.returns-then-are_names
returns-then-are_names c =
    subst (λ put. specs.Becomes c.args.command.now (codes "export: no program that acrun starts sees the variable") put) (sym c.in_ok-put.ensures.items)
    (specs.Becomes.exports c.in-Some.given.now c.in-Some.ensures (c.if-are_names.ensures refl))

pub returns-then-is_set : goal.returns-then-is_set
returns-then-is_set c =
    subst (λ put. specs.Becomes c.args.command.now (codes "export: no program that acrun starts sees the variable") put) (sym c.in_ok-put-2.ensures.items)
    (specs.Becomes.exports_set c.in-Some.given.now c.in-Some.ensures (c.if-is_set.ensures refl))
