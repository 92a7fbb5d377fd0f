-- The order in which findings are shown.
use Rattle.std.specs.Ordering.{nat_cmp, ordering_then}
use Rattle.std.specs.declared.cmp.Ordering.{Ordering}
use Rattle.lint_findings.specs.declared.finding.Finding.{Finding}

-- Of two findings in different files, that of the earlier file is first, and in one file the one that starts earlier. (own)
abbrev pub place_cmp : Finding → Finding → Ordering
place_cmp x y = ordering_then (nat_cmp x.file y.file) (nat_cmp x.start y.start)
