use Rattle.std.proofs.Common.{sym, ◌∙◌}
use Rattle.std.proofs.lemmas.Result.{err_from_is_err_and}
use Rattle.ac_args.proofs.OutputLemmas.{field_more, field_fails, field_end}
use Rattle.ac_args.proofs.outputs.add_fields.Goals as goal

pub returns-in_err-add_output : goal.returns-in_err-add_output
returns-in_err-add_output c =
    let p = err_from_is_err_and c.from_residual.result c.from_residual.ensures.1 in
    rw (p.1, p.2) (field_fails c.in_err-add_output.field-0.0 _ _ _ _ _ _ _ _ c.loop-field-test.true c.in_err-add_output.ensures c.loop-field.invariant)

pub loop-field-preserved : goal.loop-field-preserved
loop-field-preserved c = field_more _ _ _ _ _ _ _ _ _ c.loop-field-test.true c.in_ok-add_output.ensures c.loop-field.invariant

pub returns : goal.returns
returns c = sym c.loop-field.invariant ∙ field_end _ _ _ _ _ _ c.loop-field-test.false
