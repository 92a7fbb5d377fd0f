-- How a fault of a plan is displayed.
use Rattle.std.specs.Prelude.{ℕ, List, codes}
use Rattle.plan.specs.declared.fault.PlanFault.{PlanFault}
use Rattle.plan.specs.declared.fault.PlanFault.TheVariants.{TooLong, OutOfMemory}

-- The number of the fault. (own)
abbrev pub fault_text : PlanFault → List ℕ
fault_text TooLong = codes "1"
fault_text OutOfMemory = codes "memory"
