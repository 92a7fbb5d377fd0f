use Rattle.std.proofs.Common.{◌≡◌, drop}
use Rattle.std.specs.Prelude.{reverse}
use Rattle.run_test.specs.Waits.{all_replies}
use Rattle.run_test.specs.Batched.{after_entries}
use Rattle.run_step.proofs.batch_end.end_all.Given as goal

abbrev pub invariant-loop-i : goal.invariant-loop-i
invariant-loop-i l =
    after_entries (drop l.i l.entries) (reverse l.jobs.items) (all_replies (reverse l.replies.items)) l.store
    ≡ after_entries l.entries l.fn.jobs.items (all_replies l.fn.replies.items) l.fn.store
