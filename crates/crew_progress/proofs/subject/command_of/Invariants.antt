use Rattle.std.proofs.Common.{◌≡◌, ◌∷◌, flat_map, take}
use Rattle.crew_progress.specs.Subject.{line_front}
use Rattle.crew_progress.proofs.subject.command_of.Given as goal

abbrev pub invariant-loop-word : goal.invariant-loop-word
invariant-loop-word l = l.line.items ≡ line_front (flat_map (λ w. 32 ∷ w) (take l.word-index l.words))
