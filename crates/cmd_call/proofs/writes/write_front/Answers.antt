use Rattle.std.proofs.Common.{arith, take, subst}
use Rattle.std.specs.Io.KnownBytes.{Appends}
use Rattle.std.proofs.lemmas.List.{length-drop, take_rest}
use Rattle.cmd_call.proofs.Fronts.{front_more}
use Rattle.cmd_call.proofs.writes.write_front.Goals as goal

pub writes-preserved : goal.writes-preserved
writes-preserved g c = record {
  within = omega (arith, c.writes.invariant.within, c.in_ok-taken.ensures.within, length-drop c.writes.taken c.args.text.now);
  written = front_more _ _ _ _ _ _ c.writes.invariant.written
      (subst (λ rest. Appends (g.E.Write.contents c.writes.errors) (g.E.Write.contents c.write.new.errors) (take c.in_ok-taken.field-0 rest)) (take_rest c.args.text.now c.writes.taken) c.in_ok-taken.ensures.taken);
}
