use Rattle.std.proofs.Common.{◌≡◌, drop}
use Rattle.tests_disk.specs.Memory.{file_among}
use Rattle.tests_disk.proofs.memory.text_among.Given as goal

abbrev pub invariant-loop-file : goal.invariant-loop-file
invariant-loop-file l = file_among (drop l.file-index l.files) l.own ≡ file_among l.files l.own
