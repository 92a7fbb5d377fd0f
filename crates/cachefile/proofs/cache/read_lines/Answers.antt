use Rattle.std.proofs.Common.{rules}
use Rattle.std.proofs.lemmas.Result.{err_from_is_err_and}
use Rattle.cachefile.proofs.Readings.{line_more, line_fails, lines_end}
use Rattle.cachefile.proofs.cache.read_lines.Goals as goal

pub returns-in_err-setting : goal.returns-in_err-setting
returns-in_err-setting c =
    let p = err_from_is_err_and c.from_residual.result c.from_residual.ensures.1 in
    rw (p.1, p.2) (line_fails c.in_err-setting.field-0.0 _ _ c.loop-i.i c.args.lines.now _ c.loop-i-test.true c.in_err-setting.ensures c.loop-i.invariant)

pub loop-i-preserved : goal.loop-i-preserved
loop-i-preserved c = line_more _ _ _ c.in_ok-setting.setting c.loop-i.i c.args.lines.now _ c.loop-i-test.true c.in_ok-setting.ensures c.in_ok-push_entry.ensures.ok c.loop-i.invariant

pub returns : goal.returns
returns c = lines_end _ _ c.loop-i.i c.args.lines.now (search rules) c.loop-i.invariant
