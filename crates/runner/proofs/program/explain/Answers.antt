use Rattle.cmd_call.specs.declared.call.ProgramCall.TheVariants as lends
use Rattle.runner.specs.Refusals.{TellsWhy}
use Rattle.runner.proofs.Others.{by_call, failed_help}
use Rattle.runner.proofs.Refusals.{help_told, usage_told, version_told}
use Rattle.runner.proofs.program.explain.Goals as goal

pub returns-in_default-clause-help : goal.returns-in_default-clause-help
returns-in_default-clause-help g c = failed_help _ _ _ c.tell_unknown.ensures.status

pub returns-in_default-clause-refused : goal.returns-in_default-clause-refused
returns-in_default-clause-refused g c = λ e. usage_told _ _ _ _ _ _ _ c.tell_unknown.ensures.told

pub returns-in-Help-clause-refused : goal.returns-in-Help-clause-refused
returns-in-Help-clause-refused g c = λ two.
    let old = c.args.terminal.now in
    by_call (TellsWhy g.E.Write.contents g.E.Hears.has_failed old.errors c.explain_help.new.errors old.is_asked (g.W.Hears.has_failed c.run_help-status.new.output)) c.call_of.result (lends.Help c.in-Help.words) _ c.in-Help.is c.call_of.ensures.call
    (help_told _ _ _ _ _ _ _ (c.run_help-status.ensures.refused two) c.explain_help.ensures.paged)

pub returns-in-Version-clause-refused : goal.returns-in-Version-clause-refused
returns-in-Version-clause-refused g c = λ two.
    let old = c.args.terminal.now in
    by_call (TellsWhy g.E.Write.contents g.E.Hears.has_failed old.errors c.run_version.new.errors old.is_asked (g.W.Hears.has_failed c.run_version.new.output)) c.call_of.result lends.Version _ c.in-Version.is c.call_of.ensures.call
    (version_told _ _ _ _ _ _ (c.run_version.ensures.refused two))
