use Rattle.std.proofs.Common.{◌≡◌, ◌++◌, drop}
use Rattle.options.specs.HelpText.{squeezed, squeezed_after}
use Rattle.options.proofs.help.put_squeezed.Given as goal

abbrev pub invariant-loop-byte : goal.invariant-loop-byte
invariant-loop-byte l = l.text.items ++ squeezed_after l.blank (drop l.byte-index l.right) ≡ l.fn.text.items ++ squeezed l.right
