-- How a fault of a record is displayed.
use Rattle.std.specs.Prelude.{ℕ, List, ◌++◌, codes, decimal}
use Rattle.status_record.specs.declared.fault.RecordFault.{RecordFault}
use Rattle.status_record.specs.declared.fault.RecordFault.TheVariants.{BadMagic, BadLine, Truncated, UnknownVersion, DuplicateName, OutOfMemory}

-- The number of the fault, with that of the line if it has one. (own)
abbrev pub fault_text : RecordFault → List ℕ
fault_text BadMagic = codes "1"
fault_text (BadLine number) = codes "2 at " ++ decimal number
fault_text Truncated = codes "3"
fault_text UnknownVersion = codes "4"
fault_text (DuplicateName number) = codes "5 at " ++ decimal number
fault_text OutOfMemory = codes "memory"
