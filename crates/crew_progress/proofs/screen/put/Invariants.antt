use Rattle.std.proofs.Common.{ℕ, List, ◌++◌, take}
use Rattle.crew_progress.specs.Screen.{IsShowing}
use Rattle.crew_progress.proofs.screen.put.Given as goal

abbrev pub invariant-loop-byte : goal.invariant-loop-byte
invariant-loop-byte g l =
    (text : List ℕ) → IsShowing g.row.N l.fn.screen.line.items l.fn.screen.is_cut text → IsShowing g.row.N l.screen.line.items l.screen.is_cut (text ++ take l.byte-index l.more)
