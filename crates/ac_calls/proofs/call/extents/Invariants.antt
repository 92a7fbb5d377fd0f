use Rattle.std.proofs.Common.{◌≡◌, map, take}
use Rattle.m4quote.specs.ItemValue.{span}
use Rattle.ac_calls.specs.Calls.{extent_of}
use Rattle.ac_calls.proofs.call.extents.Given as goal

abbrev pub invariant-loop-arg : goal.invariant-loop-arg
invariant-loop-arg l = l.out.items ≡ map extent_of (map span (take l.arg-index l.args))
