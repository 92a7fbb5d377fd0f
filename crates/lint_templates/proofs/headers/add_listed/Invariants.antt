use Rattle.std.proofs.Common.{◌≡◌, true, flat_map, map}
use Rattle.lint_templates.specs.Listed.{name_in}
use Rattle.lint_templates.specs.Names.{with_all}
use Rattle.lint_templates.proofs.headers.add_listed.Given as goal

abbrev pub invariant-loop-line : goal.invariant-loop-line
invariant-loop-line l = l.names ≡ with_all l.fn.names (flat_map (name_in true) (map (λ line. line.now) l.yielded))
