use Rattle.std.proofs.Common.{◌-◌, length}
use Rattle.template.specs.Marks.{IsWindow}
use Rattle.template.proofs.signs.next_sign.Given as goal

abbrev pub invariant-loop-window : goal.invariant-loop-window
invariant-loop-window l = IsWindow l.text l.window.base l.window.end l.window.marks l.from

abbrev pub decreases-loop-window : goal.decreases-loop-window
decreases-loop-window l = length l.text - l.window.end
