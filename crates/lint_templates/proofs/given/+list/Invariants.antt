use Rattle.std.proofs.Common.{◌≡◌, drop}
use Rattle.ac_tree.specs.Script.{script_of, cases_of}
use Rattle.lint_templates.specs.Given.{defined_in, defined_in_cases}
use Rattle.lint_templates.specs.Names.{with_all}
use Rattle.lint_templates.proofs.given.+list.Given as goal

abbrev pub invariant-add_statements-loop-statement : goal.invariant-add_statements-loop-statement
invariant-add_statements-loop-statement l =
    with_all l.list (defined_in (script_of (drop l.statement-index l.statements))) ≡ with_all l.fn.list (defined_in (script_of l.statements))

abbrev pub invariant-add_cases-loop-case : goal.invariant-add_cases-loop-case
invariant-add_cases-loop-case l =
    with_all l.list (defined_in_cases (cases_of (drop l.case-index l.cases))) ≡ with_all l.fn.list (defined_in_cases (cases_of l.cases))
