-- The line of a fault of a run, and of outputs that are made again.
use Rattle.std.specs.Prelude.{ℕ, List, [], codes}
use Rattle.cmd_call.specs.Lines.{error_line}
use Rattle.engine_frame.specs.FaultText.{fault_text, remake_text}
use Rattle.engine_frame.specs.declared.fault.Fault.{Fault}
use Rattle.engine_frame.specs.declared.fault.Fault.TheVariants.{NoTemplate}
use Rattle.engine_frame.specs.declared.fault.RemakeFault.{RemakeFault}
use Rattle.engine_frame.specs.declared.fault.RemakeFault.TheVariants as again

-- The line of a fault of a run has its text, and the name of a template that isn't given. (own)
abbrev pub fault_line : Fault → List ℕ
fault_line (NoTemplate name) = error_line (codes "template") name
fault_line fault = error_line (fault_text fault) []

-- The same of outputs that are made again. (own)
abbrev pub remake_line : RemakeFault → List ℕ
remake_line (again.NoTemplate name) = error_line (codes "template") name
remake_line fault = error_line (remake_text fault) []
