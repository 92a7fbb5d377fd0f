use Rattle.std.proofs.Common.{◌≡◌, ◌++◌, take, flat_map}
use Rattle.lint_findings.specs.Within.{KeepsWithin}
use Rattle.lint_templates.specs.Unlisted.{lost_definitions}
use Rattle.lint_templates.proofs.headers.warn_of_lost.Given as goal

abbrev pub invariant-loop-name : goal.invariant-loop-name
invariant-loop-name l = record {
  added : l.out.items ≡ l.fn.out.items ++ lost_definitions l.key l.listed l.source (take l.name-index l.defined);
  within : KeepsWithin 0 l.source l.fn.out.items l.out.items;
}
