-- The line of a precious variable that isn't as it was.
use Rattle.std.specs.Prelude.{ℕ, ◌-◌, List, [], codes, get_or}
use Rattle.ac_tree.specs.Lists.{lists_of}
use Rattle.ac_tree.specs.Script.{script_of}
use Rattle.ac_tree.specs.declared.tree.Stmt.{Stmt}
use Rattle.options.specs.declared.fault.PreciousFault.{PreciousFault}
use Rattle.options.specs.declared.fault.PreciousFault.TheVariants.{WasSet, WasUnset, Changed, OutOfMemory}
use Rattle.cmd_call.specs.Lines.{error_line}

-- The precious variables that a source declares, in order. (own)
abbrev pub precious_in : List Stmt → List (List ℕ)
precious_in source = (lists_of (script_of source)).precious

-- The precious variable of this number, counted from 1, or an empty text if there are fewer. (own)
abbrev pub precious_name : List (List ℕ) → ℕ → List ℕ
precious_name names number = get_or names (number - 1) []

-- The line of such a fault has its kind from 1 to 3, and the name of the variable. (own)
abbrev pub precious_line : List (List ℕ) → PreciousFault → List ℕ
precious_line names (WasSet number) = error_line (codes "precious 1") (precious_name names number)
precious_line names (WasUnset number) = error_line (codes "precious 2") (precious_name names number)
precious_line names (Changed number) = error_line (codes "precious 3") (precious_name names number)
precious_line names OutOfMemory = error_line (codes "memory") []
