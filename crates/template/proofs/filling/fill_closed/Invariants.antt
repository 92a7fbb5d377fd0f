use Rattle.std.proofs.Common.{◌≡◌, ◌-◌, length}
use Rattle.template.specs.Hops.{HasComeTo, read_to}
use Rattle.template.specs.Marks.{IsWindow}
use Rattle.template.proofs.filling.fill_closed.Given as goal

-- what is written and pending, and where the next `@` is searched for
abbrev pub invariant-loop-at : goal.invariant-loop-at
invariant-loop-at l = record {
  come : HasComeTo l.table l.text l.made.items l.held.start l.held.last l.held.opened;
  window : IsWindow l.text l.window.base l.window.end l.window.marks l.from;
  read : read_to l.held.last l.held.opened ≡ l.from;
}

abbrev pub decreases-loop-at : goal.decreases-loop-at
decreases-loop-at l = length l.text - l.from
