use Rattle.cmd_call.specs.Calls.{call_of}
use Rattle.runner.proofs.Statuses.{configure_told, configure_unprinted, ends_alone, of_tools, recheck_told, recheck_unprinted}
use Rattle.runner.proofs.program.command.Goals as goal

pub returns-clause-configure : goal.returns-clause-configure
returns-clause-configure g c = configure_told (call_of c.args.words.now) c.run-status.result _ _ _ c.run-status.ensures.configure

pub returns-clause-ended : goal.returns-clause-ended
returns-clause-ended g c = configure_unprinted _ _ _ _ _ _ _ _ _ (call_of c.args.words.now) c.run-status.result _ _ c.run-status.ensures.ended

pub returns-clause-recheck : goal.returns-clause-recheck
returns-clause-recheck g c = recheck_told (call_of c.args.words.now) c.run-status.result _ _ _ c.run-status.ensures.recheck

pub returns-clause-ended_again : goal.returns-clause-ended_again
returns-clause-ended_again g c = recheck_unprinted _ _ _ _ _ _ _ _ _ (call_of c.args.words.now) c.run-status.result _ _ c.run-status.ensures.ended_again

pub returns-clause-tools : goal.returns-clause-tools
returns-clause-tools g c = of_tools (call_of c.args.words.now) _ _ (λ run. (run.0, run.1, ends_alone run.0 c.run-status.result _ _ run.2)) c.run-status.ensures.tools
