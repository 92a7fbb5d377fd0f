use Rattle.std.proofs.Common.{◌≡◌, ◌++◌, map, take}
use Rattle.std.specs.List.{flat_map}
use Rattle.ac_calls.specs.Calls.{macro_call_of}
use Rattle.lint_errors.specs.Errors.{finding_view, of_call, KeepsEnds}
use Rattle.lint_errors.proofs.foreign.push_calls.Given as goal

abbrev pub invariant-loop-call : goal.invariant-loop-call
invariant-loop-call l = (map finding_view l.out.items ≡ map finding_view l.initial.out.items ++ flat_map (of_call l.fault) (map macro_call_of (take l.call-index l.calls)))
    × KeepsEnds l.text l.initial.out.items l.out.items
