-- What happened if the program was asked to run a configure.ac, and its exit status.
use Rattle.std.specs.Prelude.{◌≡◌, ℕ, Bool, true, false, ◌&&◌, not, Option, Some, None, is_none, if◌then◌else◌}
use Rattle.cmd_status.specs.declared.happened.Happened.{Happened}
use Rattle.cmd_status.specs.declared.happened.Happened.TheVariants.{NotRead, NotRecorded, Refused, OutOfMemory, Shown, Ran}
use Rattle.cmd_status.specs.declared.happened.RunLeft.{RunLeft}
use Rattle.engine_frame.specs.declared.fault.Fault.{Fault}
use Rattle.engine_frame.specs.declared.fault.Fault.TheVariants as faults
use Rattle.engine_frame.specs.declared.fault.RemakeFault.{RemakeFault}
use Rattle.engine_frame.specs.declared.fault.RemakeFault.TheVariants as again

-- What happened if what a run is given has this fault: it is refused, or memory ran out. (own)
abbrev pub after_fault : Fault → Happened
after_fault faults.OutOfMemory = OutOfMemory
after_fault f = Refused f

-- What happened if a record has this fault: it is not run again, or memory ran out. (own)
abbrev pub after_record : RemakeFault → Happened
after_record again.OutOfMemory = OutOfMemory
after_record f = NotRecorded f

-- Nothing of what a run leaves is missing: no put was refused, and what it prints and its log were
-- written. (own)
abbrev pub is_whole : RunLeft → Bool
is_whole left = (is_none left.refused && left.is_printed) && left.is_logged

-- Standard output did not take all that was to be printed. (own)
abbrev pub is_output_cut : Happened → Bool
is_output_cut NotRead = false
is_output_cut (NotRecorded f) = false
is_output_cut (Refused f) = false
is_output_cut OutOfMemory = false
is_output_cut (Shown is_printed) = not is_printed
is_output_cut (Ran left) = not left.is_printed

-- The exit status of a run that left this: that of its outcome, or 2 if something is missing. (own)
abbrev pub left_status : RunLeft → ℕ
left_status left = if is_whole left then left.status else 2

-- The exit status after a text was shown: 0, or 2 if standard output didn't take it. (own)
abbrev pub shown_status : Bool → ℕ
shown_status is_printed = if is_printed then 0 else 2

-- The exit status of what happened. (own)
abbrev pub status_after : Happened → ℕ
status_after NotRead = 2
status_after (NotRecorded f) = 2
status_after (Refused f) = 2
status_after OutOfMemory = 2
status_after (Shown is_printed) = shown_status is_printed
status_after (Ran left) = left_status left

-- All that was to be done was done: a text was shown, or a run left everything. (own)
abbrev pub is_all_done : Happened → Bool
is_all_done NotRead = false
is_all_done (NotRecorded f) = false
is_all_done (Refused f) = false
is_all_done OutOfMemory = false
is_all_done (Shown is_printed) = is_printed
is_all_done (Ran left) = is_whole left
