use Rattle.std.proofs.Common.{◌≡◌, ◌++◌, take}
use Rattle.crew_refusals.specs.Shown.{shown_with}
use Rattle.crew_refusals.proofs.showing.put.Given as goal

abbrev pub invariant-loop-byte : goal.invariant-loop-byte
invariant-loop-byte l = l.out.items ≡ l.fn.out.items ++ shown_with l.is_text (take l.byte-index l.text)
