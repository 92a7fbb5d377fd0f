use Rattle.std.proofs.Common.{List, ℕ, ◌++◌, take}
use Rattle.std.specs.List.{flat_map}
use Rattle.sha2.specs.Hashers.{Holds256}
use Rattle.run_fingerprint.specs.Fingerprint.{item, counted}
use Rattle.answers_text.specs.Texts.{sized}
use Rattle.run_fingerprint.proofs.feeding.feed_environment.Given as goal

abbrev pub invariant-loop-variable : goal.invariant-loop-variable
invariant-loop-variable l = (m : List ℕ) → Holds256 l.initial.hasher m → Holds256 l.hasher (m ++ flat_map (item sized) (counted (take l.variable-index l.variables)))
