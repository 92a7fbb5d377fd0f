-- The bytes so far are counted.
use Rattle.std.proofs.Common.{◌≡◌, take}
use Rattle.crew_tally.specs.Tallies.{after_text}
use Rattle.crew_tally.proofs.tally.Tally.add.Given as goal

abbrev pub invariant-loop-byte : goal.invariant-loop-byte
invariant-loop-byte l = l.self ≡ after_text l.fn.self (take l.byte-index l.text)
