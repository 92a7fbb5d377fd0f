use Rattle.std.proofs.Common.{◌≡◌, ◌++◌, [], drop}
use Rattle.run_step.specs.Waiting.{forms_in, names_before, waiting_for}
use Rattle.run_step.proofs.batch_jobs.waiting_for.Given as goal

abbrev pub invariant-loop-i : goal.invariant-loop-i
invariant-loop-i l =
    l.all.items ++ waiting_for (names_before l.all.items) (forms_in l.listed (drop l.i l.entries)) l.store ≡ waiting_for [] (forms_in l.listed l.entries) l.store
