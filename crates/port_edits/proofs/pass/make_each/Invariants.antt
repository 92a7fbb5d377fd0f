use Rattle.std.proofs.Common.{◌≡◌, ◌≤◌, ◌++◌, drop, map, length}
use Rattle.port_edits.specs.Edits.{change_of, kept, with_changes}
use Rattle.port_edits.proofs.pass.make_each.Given as goal

abbrev pub invariant-loop-i : goal.invariant-loop-i
invariant-loop-i l =
    (l.pass.at ≤ length l.text)
    × (l.pass.out.items ++ with_changes l.text l.pass.at (kept l.text l.pass.at (map change_of (drop l.i l.edits)))
    ≡ l.fn.pass.out.items ++ with_changes l.text l.fn.pass.at (kept l.text l.fn.pass.at (map change_of l.edits)))
