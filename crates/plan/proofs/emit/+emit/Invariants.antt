use Rattle.std.proofs.Common.{◌≡◌, ◌++◌, drop}
use Rattle.meaning.specs.Meaning.{rounds_asked}
use Rattle.ac_tree.specs.declared.statement.Question.TheVariants.{ChecksEach}
use Rattle.ac_tree.specs.Script.{script_of, cases_of}
use Rattle.plan.specs.Code.{code_each, code_of, code_of_cases}
use Rattle.plan.proofs.emit.+emit.Given as goal

abbrev pub invariant-emit-loop-i : goal.invariant-emit-loop-i
invariant-emit-loop-i l =
    l.code ≡ code_of (script_of (drop l.i l.statements)) ++ l.fn.code

abbrev pub invariant-emit_cases-loop-i : goal.invariant-emit_cases-loop-i
invariant-emit_cases-loop-i l =
    l.code ≡ code_of_cases (cases_of (drop l.i l.cases)) ++ l.fn.code

abbrev pub invariant-emit_each-loop-i : goal.invariant-emit_each-loop-i
invariant-emit_each-loop-i l =
    l.code ≡ code_each (rounds_asked (ChecksEach l.sought (drop l.i l.entries) l.includes)) (code_of_cases (cases_of l.cases)) ++ l.fn.code
