use Rattle.std.proofs.Common.{[], ◌++◌, map, ap, ◌∙◌}
use Rattle.options_line.specs.Directories.{directory_names, variable_of}
use Rattle.ac_tree.specs.Lists.{lists_of}
use Rattle.ac_tree.specs.Script.{script_of}
use Rattle.lint_templates.specs.Given.{variables_of, preset, of_package, defs_for}
use Rattle.lint_templates.proofs.Adding.{first_these, then_these}
use Rattle.lint_templates.proofs.given.variables_of.Goals as goal

-- what each call adds, one after the other
pub returns : goal.returns
unfolding variables_of directory_names
returns c =
    let first = first_these _ _ _ _ c.new-list.ensures c.in_ok-add_all.ensures c.preset.ensures in
    let second = then_these [] _ _ preset _ _ first c.in_ok-add_all-2.ensures c.of_package.ensures in
    let third = then_these [] _ _ (preset ++ of_package) _ _ second c.in_ok-add_directories.ensures (ap (map variable_of) c.directories.ensures) in
    let fourth = then_these [] _ _ (preset ++ of_package ++ directory_names) _ _ third c.in_ok-add_named.ensures (c.names.ensures.names ∙ c.substituted.ensures) in
    then_these [] _ _ (preset ++ of_package ++ directory_names ++ (lists_of (script_of c.args.source.now)).substituted) _ _ fourth c.in_ok-add_defs.ensures (ap defs_for c.headers.ensures)
