use Rattle.std.proofs.Common.{◌≡◌, drop}
use Rattle.ac_parts.specs.Walks.{goes, place_of}
use Rattle.ac_parts.proofs.walk.Walk.goes.Given as goal

abbrev pub invariant-loop-part : goal.invariant-loop-part
invariant-loop-part l = goes l.text (drop l.part-index l.parts) (place_of l.self) ≡ goes l.text l.parts (place_of l.initial.self)
