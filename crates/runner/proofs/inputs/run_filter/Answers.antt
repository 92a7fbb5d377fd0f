use Rattle.std.proofs.Common.{inl, inr}
use Rattle.runner.proofs.Whole.{filtered_so, refused_so, said_too, said_whole}
use Rattle.runner.proofs.inputs.run_filter.Goals as goal

pub returns-in-Ok-clause-run : goal.returns-in-Ok-clause-run
returns-in-Ok-clause-run g c =
    inr (said_too _ _ _ _ _ _ _ c.as_slice.ensures.value c.in-Ok.ensures.written c.write_said.ensures.silent c.write_said.ensures.told)

pub returns-in-Ok-clause-ended : goal.returns-in-Ok-clause-ended
returns-in-Ok-clause-ended g c =
    filtered_so _ _ _ _ _ _ (said_too _ _ _ _ _ _ _ c.as_slice.ensures.value c.in-Ok.ensures.written c.write_said.ensures.silent c.write_said.ensures.told)

pub returns-clause-ended : goal.returns-clause-ended
returns-clause-ended g c =
    refused_so _ c.in-Err.fault _ _ _ c.in-Err.ensures.refused c.tell_filter.ensures.status c.in-Err.ensures.untouched

pub returns-in-Ok-clause-refused : goal.returns-in-Ok-clause-refused
returns-in-Ok-clause-refused g c = λ two. inr (said_whole _ _ _ _ _ _ c.as_slice.ensures.value c.in-Ok.ensures.written c.write_said.ensures.whole)

pub returns-clause-refused : goal.returns-clause-refused
returns-clause-refused g c = λ two. inl (c.in-Err.fault, c.in-Err.ensures.refused, c.tell_filter.ensures.told)
