use Rattle.std.proofs.Common.{◌≡◌, take, fold, map}
use Rattle.options_line.specs.Directories.{variable_of}
use Rattle.output_make.specs.Variables.{with_variable}
use Rattle.output_make.proofs.variables.add_directories.Given as goal

abbrev pub invariant-loop-i : goal.invariant-loop-i
invariant-loop-i l = l.table ≡ fold (with_variable l.vars l.has_header) l.fn.table (map variable_of (take l.i l.directories))
