use Rattle.std.proofs.Common.{subst, sym, ◌∙◌, codes, refl}
use Rattle.lint_errors.specs.Errors.{IsAccepted}
use Rattle.port_put.specs.Calls.{source_with}
use Rattle.port_messages.specs.Told as specs
use Rattle.port_messages.proofs.setting.unset_each.Goals as goal

pub returns-then-branch : goal.returns-then-branch
returns-then-branch c =
    let accepted = subst (λ put. IsAccepted (source_with put)) (c.as_slice.ensures.value ∙ c.in_ok-put.ensures) (c.in_ok-is_accepted.ensures c.if-branch.true) in
    subst (λ put. specs.Becomes c.args.command.now (codes "unset: the variables are empty") put) (sym c.in_ok-put.ensures)
    (specs.Becomes.unsets c.in-Some.names.now c.in-Some.ensures (c.if-not-are_names.ensures refl) accepted)
