use Rattle.std.proofs.Common.{take, ◌≤◌, ◌≡◌, false}
use Rattle.std.specs.Prelude.{is_err}
use Rattle.std.specs.List.{concat}
use Rattle.std.specs.Io.KnownBytes.{Appends}
use Rattle.cfglog.specs.Texts.{messages_of}
use Rattle.deftable.specs.declared.note.Stream.TheVariants as streams
use Rattle.cmd_call.specs.Errors.{AreTold, errors_of}
use Rattle.cmd_call.specs.Lines.{IsBegun}
use Rattle.cmd_call.proofs.printing.print_all.Given as goal

abbrev pub invariant-notes : goal.invariant-notes
invariant-notes g l = record {
  before : l.start ≤ l.i;
  begun : IsBegun (g.W.Write.contents l.fn.output) (g.W.Write.contents l.output) (g.W.Hears.has_failed l.output) (is_err l.done) (messages_of streams.Out l.fn.quiet (take l.start l.fn.notes));
  heard : g.W.Hears.has_failed l.output ≡ false → g.W.Hears.has_failed l.fn.output ≡ false;
  told : AreTold (g.E.Write.contents l.fn.errors) (g.E.Write.contents l.errors) (errors_of (take l.i l.fn.notes));
  whole : g.E.Hears.has_failed l.errors ≡ false → Appends (g.E.Write.contents l.fn.errors) (g.E.Write.contents l.errors) (concat (errors_of (take l.i l.fn.notes)));
  kept : g.E.Hears.has_failed l.errors ≡ false → g.E.Hears.has_failed l.fn.errors ≡ false;
}
