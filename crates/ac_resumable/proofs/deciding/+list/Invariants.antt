use Rattle.std.proofs.Common.{◌≡◌, drop, option_map}
use Rattle.ac_tree.specs.Decide.{resumable, resumable_in}
use Rattle.ac_tree.specs.Script.{cases_of, script_of}
use Rattle.ac_resumable.specs.Tested.{Extends}
use Rattle.ac_resumable.proofs.deciding.+list.Given as goal

abbrev pub invariant-keeps_all-loop-statement : goal.invariant-keeps_all-loop-statement
invariant-keeps_all-loop-statement l = record {
  value : resumable (option_map (λ x. x.now) l.own) l.fn.tested (script_of l.list)
      ≡ resumable (option_map (λ x. x.now) l.own) l.tested (script_of (drop l.statement-index l.list));
  grown : Extends l.fn.tested l.tested;
}

abbrev pub invariant-keeps_cases-loop-case : goal.invariant-keeps_cases-loop-case
invariant-keeps_cases-loop-case l = record {
  value : resumable_in (option_map (λ x. x.now) l.own) l.fn.tested (cases_of l.cases)
      ≡ resumable_in (option_map (λ x. x.now) l.own) l.fn.tested (cases_of (drop l.case-index l.cases));
  same : l.tested ≡ l.fn.tested;
}
