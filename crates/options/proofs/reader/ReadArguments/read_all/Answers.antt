use Rattle.std.proofs.Common.{sym, ◌∙◌}
use Rattle.std.proofs.lemmas.Result.{err_from_is_err_and}
use Rattle.options.proofs.Readings.{argument_read, argument_fails, arguments_end, gives_along}
use Rattle.options.proofs.reader.ReadArguments.read_all.Goals as goal

pub returns-in_err-read : goal.returns-in_err-read
returns-in_err-read c =
    let p = err_from_is_err_and c.from_residual.result c.from_residual.ensures.1 in
    rw (p.1, p.2) (argument_fails c.in_err-read.field-0.0 _ _ _ _ _ _ _ c.loop-i-test.true c.index-args-i.is c.in_err-read.ensures c.loop-i.invariant)

pub loop-i-preserved : goal.loop-i-preserved
loop-i-preserved c = argument_read _ _ _ _ _ _ _ _ c.loop-i-test.true c.index-args-i.is c.in_ok-read.ensures c.loop-i.invariant

pub returns : goal.returns
returns c =
    gives_along _ _ _ (sym (arguments_end _ _ _ _ _ c.loop-i-test.false c.loop-i.auto.i-end) ∙ c.loop-i.invariant) c.end.ensures
