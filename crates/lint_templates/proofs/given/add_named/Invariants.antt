use Rattle.std.proofs.Common.{◌≡◌, drop}
use Rattle.lint_templates.specs.Names.{with_all}
use Rattle.lint_templates.proofs.given.add_named.Given as goal

abbrev pub invariant-loop-name : goal.invariant-loop-name
invariant-loop-name l = with_all l.list (drop l.name-index l.names) ≡ with_all l.fn.list l.names
