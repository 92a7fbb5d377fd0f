-- The faults of a run, as those of the filter.
use Rattle.engine_frame.specs.declared.fault.Fault as run
use Rattle.engine_frame.specs.declared.fault.Fault.TheVariants as runs
use Rattle.cmd_filter.specs.declared.fault.FilterFault.{FilterFault}
use Rattle.cmd_filter.specs.declared.fault.FilterFault.TheVariants.{Run, OutOfMemory}

-- A fault of a run, as one of the filter. The filter's receiver is in memory, so a refused put means that memory ran out. (own)
abbrev pub of_run : run.Fault → FilterFault
of_run runs.OutOfMemory = OutOfMemory
of_run (runs.PutRefused number report) = OutOfMemory
of_run f = Run f
