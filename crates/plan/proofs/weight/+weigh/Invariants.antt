use Rattle.std.proofs.Common.{◌≡◌, ◌+◌, drop}
use Rattle.ac_tree.specs.Script.{script_of, cases_of}
use Rattle.plan.specs.Weight.{weight, weight_of_cases}
use Rattle.plan.proofs.weight.+weigh.Given as goal

abbrev pub invariant-weigh-loop-statement : goal.invariant-weigh-loop-statement
invariant-weigh-loop-statement l =
    l.left + weight (script_of l.statements) ≡ l.fn.room + weight (script_of (drop l.statement-index l.statements))

abbrev pub invariant-weigh_cases-loop-case : goal.invariant-weigh_cases-loop-case
invariant-weigh_cases-loop-case l =
    l.left + weight_of_cases (cases_of l.cases) ≡ l.fn.room + weight_of_cases (cases_of (drop l.case-index l.cases))
