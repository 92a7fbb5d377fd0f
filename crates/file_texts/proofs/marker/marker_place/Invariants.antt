use Rattle.std.proofs.Common.{◌≤◌, ◌-◌, length}
use Rattle.file_texts.proofs.Markers.{StandsFor}
use Rattle.file_texts.proofs.marker.marker_place.Given as goal

abbrev pub invariant-lines : goal.invariant-lines
invariant-lines l = record { within : l.start ≤ length l.input; stands : StandsFor l.input l.start }

abbrev pub decreases-lines : goal.decreases-lines
decreases-lines l = length l.input - l.start
