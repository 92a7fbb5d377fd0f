use Rattle.std.proofs.Common.{ℕ, ◌<◌, [], map}
use Rattle.std.specs.Prelude.{slice_index_or}
use Rattle.cmd_standin.specs.Standin.{IsBarred}
use Rattle.cmd_standin.proofs.answer.first_barred.Given as goal

-- no line before this one is barred
abbrev pub invariant-loop-line : goal.invariant-loop-line
invariant-loop-line l = (k : ℕ) → k < l.line-index → ¬ IsBarred l.conftest (slice_index_or (map (λ line. line.now) l.line-items) k [])
