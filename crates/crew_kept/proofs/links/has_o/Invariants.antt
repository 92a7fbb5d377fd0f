use Rattle.std.proofs.Common.{◌≡◌, drop}
use Rattle.crew_kept.specs.Links.{has_o}
use Rattle.crew_kept.proofs.links.has_o.Given as goal

abbrev pub invariant-loop-word : goal.invariant-loop-word
invariant-loop-word l = has_o (drop l.word-index l.fn.words) ≡ has_o l.fn.words
