use Rattle.std.proofs.Common.{◌++◌, take}
use Rattle.ac_resumable.specs.Tested.{HasSameNames, Extends}
use Rattle.ac_resumable.proofs.tested.Tested.add_all.Given as goal

abbrev pub invariant-loop-name : goal.invariant-loop-name
invariant-loop-name l = record {
  added : HasSameNames (take l.name-index l.names ++ l.fn.self) l.self;
  grown : Extends l.fn.self l.self;
}
