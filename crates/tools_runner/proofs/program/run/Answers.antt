use Rattle.tools_runner.proofs.Others.{failed_help, failed_lint, failed_port, failed_why, no_header, no_lint, no_port, no_why, unanswered_header, unanswered_lint, unanswered_port, unanswered_why}
use Rattle.tools_runner.proofs.Refusals.{usage_told}
use Rattle.tools_runner.proofs.program.run.Goals as goal

pub returns-in_default-clause-explained : goal.returns-in_default-clause-explained
returns-in_default-clause-explained g c = failed_why _ _ _ c.tell_usage.ensures.status

pub returns-in_default-clause-help : goal.returns-in_default-clause-help
returns-in_default-clause-help g c = failed_help _ _ _ c.tell_usage.ensures.status

pub returns-in_default-clause-linted : goal.returns-in_default-clause-linted
returns-in_default-clause-linted g c = failed_lint _ _ _ c.tell_usage.ensures.status

pub returns-in_default-clause-why : goal.returns-in_default-clause-why
returns-in_default-clause-why g c = unanswered_why _ _ _ c.tell_usage.ensures.status

pub returns-in_default-clause-ported : goal.returns-in_default-clause-ported
returns-in_default-clause-ported g c = failed_port _ _ _ c.tell_usage.ensures.status

pub returns-in_default-clause-port : goal.returns-in_default-clause-port
returns-in_default-clause-port g c = unanswered_port _ _ _ _ c.tell_usage.ensures.status

pub returns-in_default-clause-lint : goal.returns-in_default-clause-lint
returns-in_default-clause-lint g c = unanswered_lint _ _ _ _ c.tell_usage.ensures.status

pub returns-in_default-clause-refused : goal.returns-in_default-clause-refused
returns-in_default-clause-refused g c = λ e. usage_told _ _ _ _ _ _ c.tell_usage.ensures.told

pub returns-in_default-clause-lint_refused : goal.returns-in_default-clause-lint_refused
returns-in_default-clause-lint_refused g c = no_lint c.call_of.result _ _ c.in_default.not-Lint c.call_of.ensures.call

pub returns-in_default-clause-port_refused : goal.returns-in_default-clause-port_refused
returns-in_default-clause-port_refused g c = no_port c.call_of.result _ _ c.in_default.not-Port c.call_of.ensures.call

pub returns-in_default-clause-why_refused : goal.returns-in_default-clause-why_refused
returns-in_default-clause-why_refused g c = no_why c.call_of.result _ _ c.in_default.not-Why c.call_of.ensures.call

pub returns-in_default-clause-header : goal.returns-in_default-clause-header
returns-in_default-clause-header g c = unanswered_header _ _ _ _ _ c.tell_usage.ensures.status

pub returns-in_default-clause-header_refused : goal.returns-in_default-clause-header_refused
returns-in_default-clause-header_refused g c = no_header c.call_of.result _ _ c.in_default.not-Header c.call_of.ensures.call
