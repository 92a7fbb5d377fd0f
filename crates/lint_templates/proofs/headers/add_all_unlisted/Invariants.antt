use Rattle.std.proofs.Common.{◌≡◌, drop, flat_map}
use Rattle.lint_templates.specs.Names.{with_all}
use Rattle.lint_templates.specs.Unlisted.{one_unlisted}
use Rattle.lint_templates.proofs.headers.add_all_unlisted.Given as goal

abbrev pub invariant-loop-name : goal.invariant-loop-name
invariant-loop-name l =
    with_all l.names (flat_map (one_unlisted l.listed) (drop l.name-index l.defined)) ≡ with_all l.fn.names (flat_map (one_unlisted l.listed) l.defined)
