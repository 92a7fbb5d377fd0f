-- The lines for standard error of what happened, if the program was asked to run a configure.ac.
use Rattle.std.specs.Prelude.{ℕ, Bool, true, false, List, [], ◌∷◌, ◌++◌, Option, Some, None, Result, Ok, Err, codes, decimal}
use Rattle.cmd_call.specs.Errors.{errors_of}
use Rattle.cmd_call.specs.Lines.{error_line}
use Rattle.cmd_call.specs.Precious.{precious_line}
use Rattle.cmd_status.specs.Printed.{Written, printed}
use Rattle.cmd_status.specs.declared.happened.RunLeft.{RunLeft}
use Rattle.engine_frame.specs.declared.fault.Fault.{Fault}
use Rattle.engine_frame.specs.declared.fault.Fault.TheVariants.{Precious}
use Rattle.engine_frame.specs.declared.fault.RemakeFault.{RemakeFault}
use Rattle.engine_frame.specs.declared.report.Report.{Report}
use Rattle.fault_spots.specs.FaultLines.{fault_line, remake_line}

-- The line of a fault of a run. Of a precious variable it has the name, if the names are known, which are those that the source
-- declares. (own)
abbrev pub run_line : Option (List (List ℕ)) → Fault → List ℕ
run_line (Some names) (Precious fault) = precious_line names fault
run_line names fault = fault_line fault

-- The line of what could not be written, which has this name; and none if it was written. (own)
abbrev pub unwritten : List ℕ → Bool → List (List ℕ)
unwritten name true = []
unwritten name false = error_line (codes "file") name ∷ []

-- The line of a put that was refused, if one was. (own)
abbrev pub put_line : Option ℕ → List (List ℕ)
put_line None = []
put_line (Some number) = error_line (codes "put " ++ decimal number) [] ∷ []

-- The line of the fault of outputs that are made again, if there is one. (own)
abbrev pub answer_line : Result ℕ RemakeFault → List (List ℕ)
answer_line (Ok n) = []
answer_line (Err f) = remake_line f ∷ []

-- The lines of what is missing of what a run leaves: what it prints, then a put, then its log. (own)
abbrev pub left_lines : RunLeft → List (List ℕ)
left_lines left = unwritten (codes "standard output") left.is_printed ++ (put_line left.refused ++ unwritten (codes "config.log") left.is_logged)

-- The line that memory ran out. (own)
abbrev pub memory_line : List ℕ
memory_line = error_line (codes "memory") []

-- The lines of a run with this report that left this: its messages, and then the lines of what is missing. (own)
abbrev pub lines_after : Report → RunLeft → List (List ℕ)
lines_after report left = errors_of report.messages ++ left_lines left

-- What is written of a run with this report and these lines on its outputs that left this. (own)
abbrev pub written_after : Bool → Report → List ℕ → RunLeft → Written
written_after quiet report lines left = record { out = printed quiet report.messages lines; lines = lines_after report left }
