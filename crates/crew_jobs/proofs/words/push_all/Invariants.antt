use Rattle.std.proofs.Common.{◌≡◌, ◌++◌, map, take}
use Rattle.crew_jobs.proofs.words.push_all.Given as goal

abbrev pub invariant-loop-field : goal.invariant-loop-field
invariant-loop-field l = l.words ≡ l.fn.words ++ take l.field-index (map (λ field. field.now) l.fields)
