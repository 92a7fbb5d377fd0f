use Rattle.std.proofs.Common.{ap, ◌∙◌}
use Rattle.std.specs.Prelude.{not}
use Rattle.run_test.proofs.Flows.{led}
use Rattle.run_test.proofs.Follows.{starts_if, begins_from}
use Rattle.run_test.proofs.trying.begin.Goals as goal

pub returns-clause-leads : goal.returns-clause-leads
returns-clause-leads c =
    led c.in_ok-flow.flow c.make.new.about c.make.new.store _ _
    (λ tests next. begins_from c.args.course c.begin_message.new.store c.args.store.now c.args.about.now tests next
    (starts_if c.args.course c.args.store.now c.in_ok-first.first _ c.in_ok-first.ensures c.lacks_job.ensures ∙ ap not c.if-lacks_job.false) c.in_ok-begin_message.ensures)
    c.in_ok-flow.ensures.leads
