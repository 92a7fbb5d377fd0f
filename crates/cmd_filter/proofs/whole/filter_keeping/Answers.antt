use Rattle.cmd_filter.proofs.Refusals.{read_refused, whole_err, whole_ok}
use Rattle.cmd_filter.proofs.whole.filter_keeping.Goals as goal

pub returns-in_err-input-clause-refused : goal.returns-in_err-input-clause-refused
returns-in_err-input-clause-refused g c = read_refused _ _ _ c.from_residual.ensures.1

pub returns-clause-written : goal.returns-clause-written
returns-clause-written g c = whole_ok c.filter_text.result _ c.as_slice.result.now _ _ c.as_slice.ensures.value c.in_ok-input.ensures.ok c.filter_text.ensures.written

pub returns-clause-refused : goal.returns-clause-refused
returns-clause-refused g c = whole_err c.filter_text.result _ c.as_slice.result.now _ _ c.as_slice.ensures.value c.in_ok-input.ensures.ok c.filter_text.ensures.refused
