-- How an error of a command line is displayed.
use Rattle.std.specs.Prelude.{ℕ, List, ◌++◌, codes, decimal}
use Rattle.options_line.specs.declared.fault.OptionFault.{OptionFault}
use Rattle.options_line.specs.declared.fault.OptionFault.TheVariants.{Unknown, BadFeature, BadVariable, MissingValue, FatalUnrecognized, OutOfMemory}

-- The number of the error, with that of the argument. (own)
abbrev pub fault_text : OptionFault → List ℕ
fault_text (Unknown argument) = codes "1 at " ++ decimal argument
fault_text (BadFeature argument) = codes "2 at " ++ decimal argument
fault_text (BadVariable argument) = codes "3 at " ++ decimal argument
fault_text (MissingValue argument) = codes "4 at " ++ decimal argument
fault_text (FatalUnrecognized argument) = codes "5 at " ++ decimal argument
fault_text OutOfMemory = codes "memory"
