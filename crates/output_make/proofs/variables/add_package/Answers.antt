use Rattle.std.proofs.Common.{ap, ◌∙◌}
use Rattle.std.specs.Prelude.{codes}
use Rattle.output_make.specs.Variables.{package_names, with_variable}
use Rattle.output_make.proofs.variables.add_package.Goals as goal

pub returns : goal.returns
unfolding package_names
returns c =
    let v = c.args.vars.now in
    let h = c.args.has_header in
    c.in_ok-add-6.ensures ∙ ap (λ t. with_variable v h t (codes "PACKAGE_URL")) (
    c.in_ok-add-5.ensures ∙ ap (λ t. with_variable v h t (codes "PACKAGE_BUGREPORT")) (
    c.in_ok-add-4.ensures ∙ ap (λ t. with_variable v h t (codes "PACKAGE_STRING")) (
    c.in_ok-add-3.ensures ∙ ap (λ t. with_variable v h t (codes "PACKAGE_VERSION")) (
    c.in_ok-add-2.ensures ∙ ap (λ t. with_variable v h t (codes "PACKAGE_TARNAME")) (
    c.in_ok-add.ensures)))))
