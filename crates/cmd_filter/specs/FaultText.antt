-- How a fault of the filter is displayed.
use Rattle.std.specs.Prelude.{ℕ, List, [], codes}
use Rattle.cmd_call.specs.Lines.{error_line}
use Rattle.fault_spots.specs.FaultLines.{fault_line}
use Rattle.engine_frame.specs.FaultText.{fault_text}
use Rattle.cmd_filter.specs.declared.fault.FilterFault.{FilterFault}
use Rattle.cmd_filter.specs.declared.fault.FilterFault.TheVariants.{Read, Usage, Run, Write, OutOfMemory}

-- The kind of the fault, or what a fault of a run shows. (own)
abbrev pub filter_text : FilterFault → List ℕ
filter_text Read = codes "file standard input"
filter_text Usage = codes "usage"
filter_text (Run fault) = fault_text fault
filter_text Write = codes "file standard output"
filter_text OutOfMemory = codes "memory"

-- The line of the fault: its text, and the name of a template that isn't given. (own)
abbrev pub filter_line : FilterFault → List ℕ
filter_line (Run fault) = fault_line fault
filter_line fault = error_line (filter_text fault) []
