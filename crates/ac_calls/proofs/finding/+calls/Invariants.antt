use Rattle.std.proofs.Common.{◌≡◌, ◌++◌, map, length, take, drop, ◌+◌, ◌*◌}
use Rattle.m4quote.specs.ItemValue.{span, views}
use Rattle.ac_calls.specs.Calls.{macro_call_of, in_argument, in_args, in_items}
use Rattle.ac_macros.specs.Arguments.{holds_statements}
use Rattle.ac_calls.proofs.finding.+calls.Given as goal

abbrev pub decreases-find_in_argument : goal.decreases-find_in_argument
decreases-find_in_argument l = 8 * l.room

abbrev pub decreases-find_in_arg : goal.decreases-find_in_arg
decreases-find_in_arg l = 8 * l.room + 1

abbrev pub decreases-find_in_args : goal.decreases-find_in_args
decreases-find_in_args l = 8 * l.room + 2

abbrev pub decreases-find_in_macro : goal.decreases-find_in_macro
decreases-find_in_macro l = 8 * l.room + 3

abbrev pub decreases-find_in_call : goal.decreases-find_in_call
decreases-find_in_call l = 8 * l.room + 4

abbrev pub decreases-find_in_item : goal.decreases-find_in_item
decreases-find_in_item l = 8 * l.room + 5

abbrev pub decreases-find_in_items : goal.decreases-find_in_items
decreases-find_in_items l = 8 * l.room + 6

abbrev pub decreases-find_in_text : goal.decreases-find_in_text
decreases-find_in_text l = 8 * l.room + 7

abbrev pub invariant-find_in_args-loop-i : goal.invariant-find_in_args-loop-i
invariant-find_in_args-loop-i l =
    let holds = holds_statements l.row.named (length l.args) in
    map macro_call_of l.out.items ++ in_args (in_argument l.room) holds l.i (map span (drop l.i l.args)) ≡ map macro_call_of l.initial.out.items ++ in_args (in_argument l.room) holds 0 (map span l.args)

abbrev pub invariant-find_in_items-loop-i : goal.invariant-find_in_items-loop-i
invariant-find_in_items-loop-i l = map macro_call_of l.out.items ≡ map macro_call_of l.initial.out.items ++ in_items (in_argument l.room) (views (take l.i l.items))
