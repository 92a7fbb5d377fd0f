use Rattle.std.proofs.Common.{inl}
use Rattle.runner.proofs.program.tell_unstarted.Goals as goal

pub returns-in-Some-clause-told : goal.returns-in-Some-clause-told
returns-in-Some-clause-told g c = inl (_, c.tell_named.ensures.told)
