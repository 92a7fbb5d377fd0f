use Rattle.std.proofs.Common.{◌≡◌, ◌++◌, take}
use Rattle.std.specs.Prelude.{codes}
use Rattle.status_record.specs.Escape.{escaped}
use Rattle.status_record.specs.Line.{ended}
use Rattle.status_record.specs.RecordText.{lines_of}
use Rattle.status_record.proofs.write.put_texts.Given as goal

abbrev pub invariant-loop-arg : goal.invariant-loop-arg
invariant-loop-arg l = l.out.items ≡ l.fn.out.items ++ ended (lines_of (codes "arg ") escaped (take l.arg-index l.args))
