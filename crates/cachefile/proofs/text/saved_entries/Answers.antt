use Rattle.std.proofs.Common.{rules, ◌≡◌, ◌+◌, ◌-◌, ◌∙◌, ap, drop, map}
use Rattle.cachefile.specs.Text.{saved_entries}
use Rattle.cachefile.proofs.Lent.{seen, none_in_order}
use Rattle.cachefile.proofs.Orders.{saved_more, saved_none}
use Rattle.cachefile.proofs.text.saved_entries.Goals as goal

pub indices-init : goal.indices-init
indices-init c = (search rules, ap (map seen) c.new-sorted.ensures.empty ∙ saved_none c.args.vars.now c.len-left.result c.len-left.ensures.count, none_in_order _ c.new-sorted.ensures.empty)

pub indices-preserved : goal.indices-preserved
indices-preserved c =
    let n : c.indices.left ≡ c.indices.left - 1 + 1 = search rules in (
      search rules,
      saved_more c.args.vars.now (map seen c.indices.sorted.entries) (map seen c.save.new.sorted.entries) (c.indices.left - 1) _ c.at.ensures
          (c.indices.invariant.1 ∙ ap (λ k. saved_entries (drop k c.args.vars.now)) n) c.in_ok-save.ensures.entries,
      c.in_ok-save.ensures.order c.indices.invariant.2,
    )
