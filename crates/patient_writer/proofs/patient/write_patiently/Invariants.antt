use Rattle.std.specs.Io.KnownBytes.{Keeps}
use Rattle.patient_writer.proofs.patient.write_patiently.Given as goal

abbrev pub invariant-loop : goal.invariant-loop
invariant-loop g l = Keeps (g.W.Write.contents l.fn.stream) (g.W.Write.contents l.stream)
