use Rattle.std.proofs.Common.{ap, subst}
use Rattle.std.specs.Prelude.{is_err}
use Rattle.cmd_call.specs.Lines.{IsBegun}
use Rattle.cmd_call.proofs.Lines.{after_cut_is, begun_then}
use Rattle.cmd_call.proofs.printing.print_next.Goals as goal

pub returns-in-Ok-clause-begun : goal.returns-in-Ok-clause-begun
returns-in-Ok-clause-begun g c = λ start before b.
    begun_then start _ _ _ _ _ before _ (subst (λ cut. IsBegun start (g.W.Write.contents c.args.output.now) (g.W.Hears.has_failed c.args.output.now) cut before) (ap is_err c.in-Ok.is) b) c.print_run.ensures.begun

pub returns-in-Err-clause-begun : goal.returns-in-Err-clause-begun
returns-in-Err-clause-begun g c = λ start before b. after_cut_is start _ _ (is_err c.args.done) before _ (ap is_err c.in-Err.is) b
