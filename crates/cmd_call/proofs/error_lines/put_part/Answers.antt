use Rattle.std.proofs.Common.{subst}
use Rattle.cmd_call.specs.Lines.{IsBegun}
use Rattle.cmd_call.proofs.Lines.{after_cut_is, part_cut, part_taken}
use Rattle.cmd_call.proofs.error_lines.put_part.Goals as goal

pub returns-then-is_cut-clause-begun : goal.returns-then-is_cut-clause-begun
returns-then-is_cut-clause-begun g c = λ start before b. after_cut_is start _ _ c.args.is_cut before c.args.part.now c.if-is_cut.true b

pub returns-in-Ok-clause-begun : goal.returns-in-Ok-clause-begun
returns-in-Ok-clause-begun g c = λ start before b.
    part_taken start _ _ _ _ before c.args.part.now c.in-Ok.ensures.whole (subst (λ cut. IsBegun start (g.E.Write.contents c.args.errors.now) (g.E.Hears.has_failed c.args.errors.now) cut before) c.if-is_cut.false b)

pub returns-in-Err-clause-begun : goal.returns-in-Err-clause-begun
returns-in-Err-clause-begun g c = λ start before b.
    part_cut start _ _ _ _ before c.args.part.now c.in-Err.ensures.front c.in-Err.ensures.cut (subst (λ cut. IsBegun start (g.E.Write.contents c.args.errors.now) (g.E.Hears.has_failed c.args.errors.now) cut before) c.if-is_cut.false b)
