use Rattle.std.proofs.Common.{◌≡◌, ◌++◌, take}
use Rattle.std.specs.List.{flat_map}
use Rattle.options.specs.Opening.{marks_of}
use Rattle.options.proofs.opening.push_all_marks.Given as goal

abbrev pub invariant-loop-name : goal.invariant-loop-name
invariant-loop-name l = l.marks.items ≡ l.fn.marks.items ++ flat_map (marks_of l.vars) (take l.name-index l.precious)
