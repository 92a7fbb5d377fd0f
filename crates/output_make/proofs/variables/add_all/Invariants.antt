use Rattle.std.proofs.Common.{◌≡◌, take, fold}
use Rattle.output_make.specs.Variables.{with_variable}
use Rattle.output_make.proofs.variables.add_all.Given as goal

abbrev pub invariant-loop-name : goal.invariant-loop-name
invariant-loop-name l = l.table ≡ fold (with_variable l.vars l.has_header) l.fn.table (take l.name-index l.names)
