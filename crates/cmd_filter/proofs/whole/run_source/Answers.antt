use Rattle.std.proofs.Common.{ap, ◌∙◌}
use Rattle.ac_tree.specs.Script.{script_of}
use Rattle.cmd_filter.specs.Handed.{templates_for}
use Rattle.cmd_filter.proofs.Givens.{not_run_with, run_made}
use Rattle.cmd_filter.proofs.Refusals.{memory_not_run}
use Rattle.cmd_filter.proofs.whole.run_source.Goals as goal

pub returns-in_err-templates-clause-refused : goal.returns-in_err-templates-clause-refused
returns-in_err-templates-clause-refused c = memory_not_run _ c.from_residual.result c.from_residual.ensures.1

pub returns-clause-refused : goal.returns-clause-refused
returns-clause-refused c =
    let same = c.as_slice-given.ensures.value ∙ c.in_ok-templates.ensures ∙ ap (λ fs. templates_for fs c.args.template.now) (c.as_slice-files.ensures ∙ c.files.ensures) in
    not_run_with (script_of c.args.source.now) c.as_slice-given.result.now _ c.run_judged.result same c.run_judged.ensures.refused

pub returns-clause-run : goal.returns-clause-run
returns-clause-run c =
    let same = c.as_slice-given.ensures.value ∙ c.in_ok-templates.ensures ∙ ap (λ fs. templates_for fs c.args.template.now) (c.as_slice-files.ensures ∙ c.files.ensures) in
    run_made c.args.template.now (script_of c.args.source.now) c.as_slice-given.result.now c.run_judged.result (λ a. a.text) (λ a. a.errors.items) (λ a. a.status) same c.run_judged.ensures.run
