use Rattle.std.proofs.Common.{◌≡◌, drop, map}
use Rattle.lint_templates.specs.Names.{with_all}
use Rattle.lint_templates.proofs.given.add_all.Given as goal

abbrev pub invariant-loop-name : goal.invariant-loop-name
invariant-loop-name l = with_all l.list (map (λ name. name.now) (drop l.name-index l.names)) ≡ with_all l.fn.list (map (λ name. name.now) l.names)
