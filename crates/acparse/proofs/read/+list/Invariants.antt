use Rattle.std.proofs.Common.{◌≤◌, ◌-◌, ◌+◌, ◌*◌, length, drop, map}
use Rattle.m4quote.specs.ItemValue.{span, views}
use Rattle.ac_tree.specs.Script.{script_of, cases_of}
use Rattle.ac_macros.specs.ListKind.{list_kind_of}
use Rattle.acparse.specs.Profile.{body_of}
use Rattle.acparse.proofs.Steps.{Items, Choices}
use Rattle.acparse.proofs.read.+list.Given as goal

abbrev pub decreases-read_body : goal.decreases-read_body
decreases-read_body l = 8 * l.room

abbrev pub decreases-read_default : goal.decreases-read_default
decreases-read_default l = 8 * l.room + 1

abbrev pub decreases-read_case : goal.decreases-read_case
decreases-read_case l = 8 * l.room + 1

abbrev pub decreases-read_cases : goal.decreases-read_cases
decreases-read_cases l = 8 * l.room + 2

abbrev pub decreases-read_choice : goal.decreases-read_choice
decreases-read_choice l = 8 * l.room + 3

abbrev pub decreases-read_action : goal.decreases-read_action
decreases-read_action l = 8 * l.room + 1

abbrev pub decreases-read_answers : goal.decreases-read_answers
decreases-read_answers l = 8 * l.room + 2

abbrev pub decreases-read_question : goal.decreases-read_question
decreases-read_question l = 8 * l.room + 3

abbrev pub decreases-read_check : goal.decreases-read_check
decreases-read_check l = 8 * l.room + 3

abbrev pub decreases-read_call : goal.decreases-read_call
decreases-read_call l = 8 * l.room + 4

abbrev pub decreases-read_item : goal.decreases-read_item
decreases-read_item l = 8 * l.room + 5

abbrev pub decreases-read_statements : goal.decreases-read_statements
decreases-read_statements l = 8 * l.room + 6

abbrev pub invariant-read_cases-loop-i : goal.invariant-read_cases-loop-i
invariant-read_cases-loop-i l = (l.i ≤ length l.args) × Choices (body_of l.room (list_kind_of l.list_kind)) l.m l.fn.known l.known (cases_of l.cases.items) (map span l.args) (map span (drop l.i l.args))

abbrev pub decreases-read_cases-loop-i : goal.decreases-read_cases-loop-i
decreases-read_cases-loop-i l = length l.args - l.i

abbrev pub invariant-read_statements-loop-i : goal.invariant-read_statements-loop-i
invariant-read_statements-loop-i l = Items (list_kind_of l.list_kind) (body_of l.room) l.fn.known l.known l.line_start (script_of l.out.items) (views l.items) (views (drop l.i l.items))
