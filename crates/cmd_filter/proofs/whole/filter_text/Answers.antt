use Rattle.std.proofs.lemmas.Result.{err_from_is_err_and}
use Rattle.cmd_filter.specs.Filtered.{fault, unwritten}
use Rattle.cmd_filter.proofs.whole.filter_text.Goals as goal

pub returns-then-is_err-clause-refused : goal.returns-then-is_err-clause-refused
returns-then-is_err-clause-refused g c = unwritten c.in_ok-answer.ensures.found

pub returns-in_err-answer-clause-refused : goal.returns-in_err-answer-clause-refused
returns-in_err-answer-clause-refused g c =
    let p = err_from_is_err_and c.from_residual.result c.from_residual.ensures.1 in
    rw (p.1, p.2) (fault c.in_err-answer.ensures.refused)
