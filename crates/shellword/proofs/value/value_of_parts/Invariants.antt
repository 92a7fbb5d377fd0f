use Rattle.std.proofs.Common.{◌≡◌, ◌++◌, drop}
use Rattle.shellword.specs.Value.{word_value}
use Rattle.shellword.proofs.value.value_of_parts.Given as goal

abbrev pub invariant-loop-part : goal.invariant-loop-part
invariant-loop-part l = l.out.items ++ word_value (drop l.part-index l.parts) l.vars ≡ word_value l.parts l.vars
