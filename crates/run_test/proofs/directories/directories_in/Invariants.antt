use Rattle.std.proofs.Common.{◌≡◌, ◌++◌, map, drop}
use Rattle.meaning.specs.Directories.{directory_of}
use Rattle.run_test.proofs.directories.directories_in.Given as goal

abbrev pub invariant-loop-part : goal.invariant-loop-part
invariant-loop-part l =
    l.directories.items ++ map directory_of (map (λ part. part.now) (drop l.part-index l.parts)) ≡ map directory_of (map (λ part. part.now) l.parts)
