use Rattle.std.proofs.Common.{rules}
use Rattle.cachefile.proofs.Pours.{would_more}
use Rattle.cachefile.proofs.cache.OldCache.would.Goals as goal

pub loop-entry-preserved : goal.loop-entry-preserved
loop-entry-preserved c = would_more c.args.vars.now c.args.self.now c.args.name.now _ _ c.loop-entry.entry-index _ c.deref-entry-items.result.now (search rules) (search rules) c.entry-item.is c.value_after-value.ensures c.loop-entry.invariant
