use Rattle.std.proofs.Common.{◌≡◌, ◌++◌, take}
use Rattle.std.specs.List.{flat_map}
use Rattle.options.specs.Unrecognized.{after_comma}
use Rattle.options.proofs.unrecognized.put_rest.Given as goal

abbrev pub invariant-loop-option : goal.invariant-loop-option
invariant-loop-option l = l.text.items ≡ l.fn.text.items ++ flat_map after_comma (take l.option-index l.options)
