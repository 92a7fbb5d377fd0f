use Rattle.std.proofs.Common.{◌≡◌, take}
use Rattle.std.specs.List.{flat_map}
use Rattle.run_facts.specs.Entries.{entry_text}
use Rattle.run_facts.proofs.entries.entries_of.Given as goal

abbrev pub invariant-loop-entry : goal.invariant-loop-entry
invariant-loop-entry l = l.texts.items ≡ flat_map entry_text (take l.entry-index l.environment)
