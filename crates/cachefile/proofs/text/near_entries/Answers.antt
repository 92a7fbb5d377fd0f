use Rattle.std.proofs.Common.{rules, ◌≡◌, ◌+◌, ◌-◌, ◌∙◌, ap, drop, map, reverse}
use Rattle.cachefile.specs.Text.{saved_entries, with_saved}
use Rattle.cachefile.proofs.Lent.{seen}
use Rattle.cachefile.proofs.Orders.{saved_more}
use Rattle.cachefile.proofs.text.near_entries.Goals as goal

pub names-preserved : goal.names-preserved
names-preserved c =
    let n : c.names.left ≡ c.names.left - 1 + 1 = search rules in (
      search rules,
      saved_more c.args.vars.now (map seen (reverse c.names.list.items)) (map seen (reverse c.save_near.new.list.items)) (c.names.left - 1) _ c.at.ensures
          (c.names.invariant.1 ∙ ap (λ k. saved_entries (drop k c.args.vars.now)) n) (c.in_ok-save_near.ensures c.if-not-branch.false),
    )
