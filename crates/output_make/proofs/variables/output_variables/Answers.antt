use Rattle.std.proofs.Common.{sym, ap, subst, ◌∙◌, fold}
use Rattle.output_make.specs.Variables.{AreOutputVariables, output_names_of, with_variable}
use Rattle.output_make.proofs.Outputs.{AreOutputVariables-fold}
use Rattle.output_make.proofs.variables.output_variables.Goals as goal

pub returns-clause-each_once : goal.returns-clause-each_once
returns-clause-each_once c =
    let v = c.args.vars.now in
    let h = c.args.has_header in
    let names = c.args.names.now in
    subst (AreOutputVariables v h names) (sym (c.in_ok-add_outputs.ensures ∙ ap (λ t. fold (with_variable v h) t (output_names_of h names)) c.new-table.ensures)) (AreOutputVariables-fold v h names)
