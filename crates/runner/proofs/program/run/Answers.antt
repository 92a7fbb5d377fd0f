use Rattle.cmd_call.specs.Calls.{IfStandIn}
use Rattle.cmd_call.specs.declared.call.ProgramCall.TheVariants as lends
use Rattle.cmd_standin.specs.Standin.{Meets}
use Rattle.runner.proofs.Others.{by_call, is_filter, is_status, no_filter, no_standin, no_configure, no_status, no_recheck}
use Rattle.runner.proofs.program.run.Goals as goal

pub returns-in_default-clause-filter : goal.returns-in_default-clause-filter
returns-in_default-clause-filter g c = no_filter c.call_of.result _ _ c.in_default.not-Filter c.call_of.ensures.call

pub returns-in_default-clause-standin : goal.returns-in_default-clause-standin
returns-in_default-clause-standin g c = no_standin c.call_of.result _ _ c.in_default.not-StandIn c.call_of.ensures.call

pub returns-in_default-clause-silent : goal.returns-in_default-clause-silent
returns-in_default-clause-silent g c = no_standin c.call_of.result _ _ c.in_default.not-StandIn c.call_of.ensures.call

pub returns-in_default-clause-configure : goal.returns-in_default-clause-configure
returns-in_default-clause-configure g c = no_configure c.call_of.result _ _ c.in_default.not-Configure c.call_of.ensures.call

pub returns-in_default-clause-status : goal.returns-in_default-clause-status
returns-in_default-clause-status g c = no_status c.call_of.result _ _ c.in_default.not-Status c.call_of.ensures.call

pub returns-in_default-clause-recheck : goal.returns-in_default-clause-recheck
returns-in_default-clause-recheck g c = no_recheck c.call_of.result _ _ c.in_default.not-Recheck c.call_of.ensures.call

pub returns-in_default-clause-ended : goal.returns-in_default-clause-ended
returns-in_default-clause-ended g c = no_configure c.call_of.result _ _ c.in_default.not-Configure c.call_of.ensures.call

pub returns-in_default-clause-ended_again : goal.returns-in_default-clause-ended_again
returns-in_default-clause-ended_again g c = no_recheck c.call_of.result _ _ c.in_default.not-Recheck c.call_of.ensures.call

pub returns-in_default-clause-filtered : goal.returns-in_default-clause-filtered
returns-in_default-clause-filtered g c = no_filter c.call_of.result _ _ c.in_default.not-Filter c.call_of.ensures.call

pub returns-in_default-clause-filter_refused : goal.returns-in_default-clause-filter_refused
returns-in_default-clause-filter_refused g c = no_filter c.call_of.result _ _ c.in_default.not-Filter c.call_of.ensures.call

pub returns-in_default-clause-standin_refused : goal.returns-in_default-clause-standin_refused
returns-in_default-clause-standin_refused g c = no_standin c.call_of.result _ _ c.in_default.not-StandIn c.call_of.ensures.call

pub returns-in_default-clause-status_refused : goal.returns-in_default-clause-status_refused
returns-in_default-clause-status_refused g c = no_status c.call_of.result _ _ c.in_default.not-Status c.call_of.ensures.call

pub returns-in_default-clause-left : goal.returns-in_default-clause-left
returns-in_default-clause-left g c = no_status c.call_of.result _ _ c.in_default.not-Status c.call_of.ensures.call

pub returns-in-Status-clause-left : goal.returns-in-Status-clause-left
returns-in-Status-clause-left g c = is_status c.call_of.result _ _ c.in-Status.tags c.in-Status.is c.call_of.ensures.call c.run_status.ensures.left

pub returns-in-Filter-clause-filter_refused : goal.returns-in-Filter-clause-filter_refused
returns-in-Filter-clause-filter_refused g c = is_filter c.call_of.result _ _ c.in-Filter.is c.call_of.ensures.call c.run_filter.ensures.refused

pub returns-in-Status-clause-status_refused : goal.returns-in-Status-clause-status_refused
returns-in-Status-clause-status_refused g c = is_status c.call_of.result _ _ c.in-Status.tags c.in-Status.is c.call_of.ensures.call c.run_status.ensures.refused

pub returns-in_default-clause-meets : goal.returns-in_default-clause-meets
returns-in_default-clause-meets g c = no_standin c.call_of.result _ _ c.in_default.not-StandIn c.call_of.ensures.call

pub returns-in-StandIn-clause-meets : goal.returns-in-StandIn-clause-meets
returns-in-StandIn-clause-meets g c =
    by_call (λ call. IfStandIn call (λ others. Meets (g.M.Meeting.made c.args.meeting.now) (g.M.Meeting.made c.run_standin.new.meeting) others)) c.call_of.result (lends.StandIn c.in-StandIn.words) _ c.in-StandIn.is c.call_of.ensures.call
    c.run_standin.ensures.meets
