use Rattle.std.proofs.Common.{take, ◌≡◌, false}
use Rattle.std.specs.Prelude.{is_err}
use Rattle.cfglog.specs.Texts.{messages_of}
use Rattle.deftable.specs.declared.note.Stream.TheVariants as streams
use Rattle.cmd_call.specs.Lines.{IsBegun}
use Rattle.cmd_call.proofs.printing.print_each.Given as goal

abbrev pub invariant-notes : goal.invariant-notes
invariant-notes g l = record {
  begun : IsBegun (g.W.Write.contents l.fn.output) (g.W.Write.contents l.output) (g.W.Hears.has_failed l.output) (is_err l.done) (messages_of streams.Out l.fn.quiet (take l.note-index l.notes));
  kept : g.W.Hears.has_failed l.output ≡ false → g.W.Hears.has_failed l.fn.output ≡ false;
}
