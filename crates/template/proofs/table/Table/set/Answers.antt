use Rattle.std.proofs.Common.{sym, ap, ◌∙◌, subst, max, length}
use Rattle.deftable.specs.Table.{HasShellNames}
use Rattle.deftable.proofs.Tables.{HasShellNames-with_entry}
use Rattle.template.specs.Keys.{AllPass, longest_of}
use Rattle.template.proofs.Keys.{longest_of-with_entry, AllPass-with_entry}
use Rattle.template.proofs.table.Table.set.Goals as goal

pub invariant_of-self-2 : goal.invariant_of-self-2
invariant_of-self-2 c =
    let es = c.self.inside.entries in
    let e = sym c.in_ok-define.ensures.ok in (
      subst HasShellNames e (HasShellNames-with_entry es c.args.key.now c.args.value.now c.requires c.self.invariant.0),
      c.max-self-inside.ensures ∙ ap (λ n. max n (length c.args.key.now)) c.self.invariant.1 ∙ sym (longest_of-with_entry es c.args.key.now c.args.value.now) ∙ ap longest_of e,
      subst (AllPass c.add.new.self) e (AllPass-with_entry c.self.inside.sieve c.add.new.self es c.args.key.now c.args.value.now c.add.ensures.kept c.add.ensures.added c.self.invariant.2),
    )
