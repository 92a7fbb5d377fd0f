use Rattle.std.proofs.Common.{List, ℕ, ◌++◌, take}
use Rattle.std.specs.List.{flat_map}
use Rattle.sha2.specs.Hashers.{Holds256}
use Rattle.run_fingerprint.specs.Fingerprint.{item}
use Rattle.answers_text.specs.Texts.{sized}
use Rattle.run_fingerprint.proofs.feeding.feed_texts.Given as goal

abbrev pub invariant-loop-text : goal.invariant-loop-text
invariant-loop-text l = (m : List ℕ) → Holds256 l.initial.hasher m → Holds256 l.hasher (m ++ flat_map (item sized) (take l.text-index l.texts))
