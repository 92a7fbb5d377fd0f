use Rattle.std.proofs.Common.{◌≡◌, Some, None, IfOk, IsErrOf, sym, subst, ◌∙◌}
use Rattle.conftest.proofs.Libraries.{job_there}
use Rattle.conftest.specs.declared.fault.JobFault.TheVariants.{NoCompiler}
use Rattle.conftest.proofs.probe.link_job_with.Goals as goal

pub returns-clause-job : goal.returns-clause-job
returns-clause-job c =
    subst (λ o. IfOk c.linked.result (λ job. o ≡ Some job)) (sym (job_there c.args.vars.now c.args.defs.now c.args.libraries.now c.args.source.now c.args.number)) c.linked.ensures.job

pub returns-clause-fault : goal.returns-clause-fault
returns-clause-fault c = λ e.
    job_there c.args.vars.now c.args.defs.now c.args.libraries.now c.args.source.now c.args.number ∙ c.linked.ensures.fault e
