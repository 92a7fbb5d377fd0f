use Rattle.std.proofs.Common.{◌≡◌, [], fold, map, take}
use Rattle.cmd_why.specs.Shown as specs
use Rattle.cmd_why.specs.Views.{line_seen}
use Rattle.cmd_why.proofs.showing.last_program.Given as goal

abbrev pub invariant-loop-line : goal.invariant-loop-line
invariant-loop-line l =
    l.program.items ≡ fold (λ program line. specs.program_after program line.part line.text) [] (map line_seen (take l.line-index l.lines))
