use Rattle.std.proofs.Common.{◌≡◌, drop}
use Rattle.shellword.specs.Matcher.{matches_any}
use Rattle.shell_case.proofs.alternatives.matches_some.Given as goal

abbrev pub invariant-loop-pattern : goal.invariant-loop-pattern
invariant-loop-pattern l = matches_any (drop l.pattern-index l.patterns) l.text ≡ matches_any l.patterns l.text
