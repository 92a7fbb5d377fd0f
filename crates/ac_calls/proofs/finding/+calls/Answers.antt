use Rattle.std.proofs.Common.{length, map, arith}
use Rattle.ac_calls.specs.Calls.{macro_call_of, in_argument}
use Rattle.ac_macros.specs.Arguments.{holds_statements}
use Rattle.ac_calls.proofs.Turns.{args_turn, placed_at}
use Rattle.ac_calls.proofs.finding.+calls.Goals as goal

pub find_in_args-loop-i-preserved : goal.find_in_args-loop-i-preserved
find_in_args-loop-i-preserved t c =
    let args = c.args.args.now in
    args_turn (in_argument c.args.room) (holds_statements c.args.row.named (length args)) c.loop-i.i args c.index-args-i.result _ (map macro_call_of c.loop-i.out.items) _ _ c.loop-i-test.true c.index-args-i.is c.holds_statements-holds.ensures
    c.in_ok-find_in_arg.ensures c.loop-i.invariant

pub find_in_items-find_in_item-requires : goal.find_in_items-find_in_item-requires
find_in_items-find_in_item-requires t c = (omega (arith, c.decreases), placed_at c.args.items.now c.loop-i.i c.index-items-i.result c.loop-i-test.true c.index-items-i.is c.requires)
