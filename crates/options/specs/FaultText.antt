-- How a precious variable that changed is displayed.
use Rattle.std.specs.Prelude.{ℕ, List, ◌++◌, codes, decimal}
use Rattle.options.specs.declared.fault.PreciousFault.{PreciousFault}
use Rattle.options.specs.declared.fault.PreciousFault.TheVariants.{WasSet, WasUnset, Changed, OutOfMemory}

-- The number of the kind, with that of the variable. (own)
abbrev pub fault_text : PreciousFault → List ℕ
fault_text (WasSet number) = codes "1 at " ++ decimal number
fault_text (WasUnset number) = codes "2 at " ++ decimal number
fault_text (Changed number) = codes "3 at " ++ decimal number
fault_text OutOfMemory = codes "memory"
