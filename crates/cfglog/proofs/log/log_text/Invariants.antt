use Rattle.std.proofs.Common.{◌≡◌, take}
use Rattle.cfglog.specs.Texts.{log_of}
use Rattle.cfglog.proofs.log.log_text.Given as goal

abbrev pub invariant-loop-entry : goal.invariant-loop-entry
invariant-loop-entry l = l.text.items ≡ log_of (take l.entry-index l.fn.entries)
