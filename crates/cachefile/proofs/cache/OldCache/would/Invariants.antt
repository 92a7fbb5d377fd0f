use Rattle.std.proofs.Common.{◌≡◌, take}
use Rattle.std.specs.Prelude.{option_map}
use Rattle.deftable.specs.Table.{value_of}
use Rattle.cachefile.specs.Cache.{vars_after}
use Rattle.cachefile.proofs.cache.OldCache.would.Given as goal

abbrev pub invariant-loop-entry : goal.invariant-loop-entry
invariant-loop-entry l = option_map (λ v. v.now) l.value ≡ value_of (vars_after (take l.entry-index l.self) l.vars) l.name
