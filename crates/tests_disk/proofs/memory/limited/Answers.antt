use Rattle.std.proofs.Common.{◌+◌, ◌^◌, arith, sym}
use Rattle.std.proofs.lemmas.List.{take_all}
use Rattle.tests_disk.proofs.memory.limited.Goals as goal

pub returns-else-text-gt-LARGEST_TEXT : goal.returns-else-text-gt-LARGEST_TEXT
returns-else-text-gt-LARGEST_TEXT c = sym (take_all (2 ^ 26 + 1) c.args.text.now (omega (arith, c.if-text-gt-LARGEST_TEXT.false)))
