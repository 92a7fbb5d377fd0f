use Rattle.std.specs.Io.KnownBytes.{Consumes}
use Rattle.file_texts.proofs.input.read_input.Given as goal

-- what was read so far is what the reader has lost
abbrev pub invariant-loop : goal.invariant-loop
invariant-loop g l = Consumes (g.R.Read.remaining l.initial.reader) (g.R.Read.remaining l.reader) l.text.items
