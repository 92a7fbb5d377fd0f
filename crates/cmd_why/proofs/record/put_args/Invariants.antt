use Rattle.std.proofs.Common.{◌≡◌, ◌++◌, flat_map, take}
use Rattle.cmd_why.specs.Quoting as specs
use Rattle.cmd_why.proofs.record.put_args.Given as goal

abbrev pub invariant-loop-arg : goal.invariant-loop-arg
invariant-loop-arg l = l.out.items ≡ l.fn.out.items ++ flat_map specs.argument_word (take l.arg-index l.args)
