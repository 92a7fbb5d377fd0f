-- What the piece has so far was read.
use Rattle.std.proofs.Common.{◌≡◌, ◌-◌, ◌≤◌, length, take}
use Rattle.std.specs.Io.KnownBytes.{Consumes}
use Rattle.crew_launch.proofs.pipe.fill.Given as goal

abbrev pub invariant-fill : goal.invariant-fill
invariant-fill g l = record {
  size : length l.piece ≡ length l.initial.piece;
  within : l.filled ≤ length l.piece;
  read : Consumes (g.R.Read.remaining l.initial.reader) (g.R.Read.remaining l.reader) (take l.filled l.piece);
}

abbrev pub decreases-fill : goal.decreases-fill
decreases-fill g l = length l.initial.piece - l.filled
