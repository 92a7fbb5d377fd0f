-- How a fault of a run is displayed.
use Rattle.std.specs.Prelude.{ℕ, List, ◌++◌, codes, decimal}
use Rattle.ac_statement.specs.FaultText as parses
use Rattle.plan.specs.FaultText as plans
use Rattle.options_line.specs.FaultText as options
use Rattle.cachefile.specs.FaultText as caches
use Rattle.options.specs.FaultText as preciouses
use Rattle.status_record.specs.FaultText as records
use Rattle.engine_frame.specs.declared.fault.Fault.{Fault}
use Rattle.engine_frame.specs.declared.fault.Fault.TheVariants.{Parse, Plan, Option, Cache, Precious, NoTemplate, PutRefused, OutOfMemory}
use Rattle.engine_frame.specs.declared.fault.RemakeFault.{RemakeFault}
use Rattle.engine_frame.specs.declared.fault.RemakeFault.TheVariants as remade

-- The kind of the fault, with the numbers of the fault that it holds. (own)
abbrev pub fault_text : Fault → List ℕ
fault_text (Parse fault) = codes "parse " ++ parses.fault_text fault
fault_text (Plan fault) = codes "plan " ++ plans.fault_text fault
fault_text (Option fault) = codes "option " ++ options.fault_text fault
fault_text (Cache fault) = codes "cache " ++ caches.fault_text fault
fault_text (Precious fault) = codes "precious " ++ preciouses.fault_text fault
fault_text (NoTemplate name) = codes "template"
fault_text (PutRefused number report) = codes "put " ++ decimal number
fault_text OutOfMemory = codes "memory"

-- The same of outputs that are made again. (own)
abbrev pub remake_text : RemakeFault → List ℕ
remake_text (remade.Record fault) = codes "record " ++ records.fault_text fault
remake_text (remade.UnknownTag number) = codes "tag " ++ decimal number
remake_text (remade.NoTemplate name) = codes "template"
remake_text (remade.PutRefused number) = codes "put " ++ decimal number
remake_text remade.NoArguments = codes "recheck"
remake_text remade.OutOfMemory = codes "memory"
