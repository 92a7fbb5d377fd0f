use Rattle.std.proofs.Common.{◌≡◌, drop}
use Rattle.ac_args.specs.Help.{has_part, help_string_name}
use Rattle.ac_args.proofs.helping.has_help_string.Given as goal

abbrev pub invariant-loop-i : goal.invariant-loop-i
invariant-loop-i l = has_part help_string_name l.text ≡ has_part help_string_name (drop l.i l.text)
