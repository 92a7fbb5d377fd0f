use Rattle.std.proofs.Common.{arith}
use Rattle.run_step.proofs.Turns.{batch_cut, batch_ends, within_asked}
use Rattle.run_step.proofs.batch_end.hear_batch.Goals as goal

pub overflow_add-result : goal.overflow_add-result
overflow_add-result c =
    omega (arith, c.requires.room, c.requires.replies, within_asked c.args.replies.items c.as_slice.result.now c.in-Some.number c.as_slice.ensures.value c.in-Some.ensures)

pub returns-in-Some-clause-leads : goal.returns-in-Some-clause-leads
returns-in-Some-clause-leads c = λ about tests next.
    batch_cut c.args.batch.now.items c.as_slice-2.result.now c.args.jobs.items c.args.replies.items c.as_slice.result.now c.in-Some.number c.args.store.now c.end_all.new.store tests (next 0 about)
    c.as_slice.ensures.value c.as_slice-2.ensures.value c.requires.replies c.requires.asked c.in-Some.ensures c.in_ok-end_all.ensures

pub returns-in-None-clause-leads : goal.returns-in-None-clause-leads
returns-in-None-clause-leads c = λ about tests next.
    batch_ends c.args.batch.now.items c.as_slice-2.result.now c.args.jobs.items c.args.replies.items c.as_slice.result.now c.args.store.now c.end_all.new.store tests (next 0 about)
    c.as_slice.ensures.value c.as_slice-2.ensures.value c.requires.replies c.requires.asked c.in-None.ensures c.in_ok-end_all.ensures
