use Rattle.std.proofs.Common.{arith}
use Rattle.std.specs.Prelude.{[], if◌then◌else◌, List, ℕ}
use Rattle.cmd_call.proofs.Fronts.{nothing_appended, told_nothing, told_more}
use Rattle.cmd_call.proofs.Lines.{whole_begun, whole_more}
use Rattle.cmd_call.proofs.Runs.{end_begun, run_begun}
use Rattle.cmd_call.proofs.printing.print_all.Goals as goal
use Rattle.cmd_call.proofs.printing.print_all.Goals.{then-is_error, else-is_error}

pub notes-init : goal.notes-init
notes-init g c = record {
  before = omega arith;
  begun = whole_begun _ _ _ [] (nothing_appended _);
  heard = λ e. e;
  told = told_nothing _;
  whole = λ e. nothing_appended _;
  kept = λ e. e;
}

pub notes-preserved : goal.notes-preserved
notes-preserved g c =
    elim c.if-is_error.branch [
      | then-is_error w ↦
          rw (w.output-is, w.done-is, w.start-is) (record {
            before = omega arith;
            begun = run_begun _ _ _ _ _ _ _ _ _ c.notes.invariant.before c.notes-test.true c.index-notes-i.is (c.is_error.ensures.stream w.if-is_error.true)
                (w.print_next-done.ensures.begun _ _ c.notes.invariant.begun);
            heard = λ e. c.notes.invariant.heard (w.print_next-done.ensures.kept e);
            told = told_more _ _ _ _ _ _ c.notes-test.true c.index-notes-i-in-notes.is c.notes.invariant.told c.print_error.ensures.told;
            whole = whole_more _ _ _ _ _ _ _ _ c.notes-test.true c.index-notes-i-in-notes.is c.notes.invariant.whole c.print_error.ensures.whole c.print_error.ensures.kept;
            kept = λ e. c.notes.invariant.kept (c.print_error.ensures.kept e);
          })
      | else-is_error w ↦
          rw (w.output-is, w.done-is, w.start-is) (record {
            before = omega arith;
            begun = c.notes.invariant.begun;
            heard = c.notes.invariant.heard;
            told = told_more _ _ _ _ _ _ c.notes-test.true c.index-notes-i-in-notes.is c.notes.invariant.told c.print_error.ensures.told;
            whole = whole_more _ _ _ _ _ _ _ _ c.notes-test.true c.index-notes-i-in-notes.is c.notes.invariant.whole c.print_error.ensures.whole c.print_error.ensures.kept;
            kept = λ e. c.notes.invariant.kept (c.print_error.ensures.kept e);
          })
    ]

pub returns-clause-begun : goal.returns-clause-begun
returns-clause-begun g c =
    end_begun _ _ _ _ _ c.args.notes.now c.notes.start _ (c.print_next.ensures.begun _ _ c.notes.invariant.begun)
