use Rattle.std.proofs.Common.{◌≡◌, take}
use Rattle.cfglog.specs.Texts.{messages_of}
use Rattle.cfglog.proofs.messages.messages_text.Given as goal

abbrev pub invariant-loop-note : goal.invariant-loop-note
invariant-loop-note l = l.text.items ≡ messages_of l.fn.stream l.fn.quiet (take l.note-index l.fn.notes)
