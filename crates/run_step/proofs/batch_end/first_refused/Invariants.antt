use Rattle.std.proofs.Common.{◌≡◌, ◌+◌, drop}
use Rattle.std.specs.Prelude.{option_map}
use Rattle.meaning.specs.Play.{first_refused}
use Rattle.run_test.specs.Waits.{all_replies}
use Rattle.run_step.proofs.batch_end.first_refused.Given as goal

abbrev pub invariant-loop-i : goal.invariant-loop-i
invariant-loop-i l = option_map (λ k. l.i + k) (first_refused (all_replies (drop l.i l.replies))) ≡ first_refused (all_replies l.replies)
