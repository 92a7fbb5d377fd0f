use Rattle.std.proofs.Common.{◌≡◌, take}
use Rattle.cachefile.specs.Cache.{marks_after}
use Rattle.cachefile.proofs.cache.OldCache.pour_marks.Given as goal

abbrev pub invariant-loop-entry : goal.invariant-loop-entry
invariant-loop-entry l = l.vars ≡ marks_after (take l.entry-index l.self) l.fn.vars
