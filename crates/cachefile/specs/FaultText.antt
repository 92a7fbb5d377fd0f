-- How an error of a cache is displayed.
use Rattle.std.specs.Prelude.{ℕ, List, ◌++◌, codes, decimal}
use Rattle.cachefile.specs.declared.fault.CacheFault.{CacheFault}
use Rattle.cachefile.specs.declared.fault.CacheFault.TheVariants.{BadLine, BadName, TooLarge, OutOfMemory}

-- The number of the error, with that of the line if it has one. (own)
abbrev pub fault_text : CacheFault → List ℕ
fault_text (BadLine number) = codes "1 at " ++ decimal number
fault_text (BadName number) = codes "2 at " ++ decimal number
fault_text TooLarge = codes "3"
fault_text OutOfMemory = codes "memory"
