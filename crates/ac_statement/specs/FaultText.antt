-- How an error of a source is displayed.
use Rattle.std.specs.Prelude.{ℕ, List, ◌++◌, codes, decimal}
use Rattle.m4quote.specs.FaultText as quotes
use Rattle.shellword.specs.declared.fault.ShellFault.{ShellFault}
use Rattle.shellword.specs.declared.fault.ShellFault.TheVariants as shells
use Rattle.ac_statement.specs.declared.fault.ParseFault.{ParseFault}
use Rattle.ac_statement.specs.declared.fault.ParseFault.TheVariants.{Quote, UnknownMacro, UnknownStatement, ArgCount, BadName, Shell, NotAtTop, NoInit, NoOutput, AfterOutput, CacheBody, TooDeep, TooMany, NewerVersion, OutOfMemory}

-- The number of an error of shell text. (own)
abbrev pub shell_kind : ShellFault → ℕ
shell_kind (shells.BadWord at) = 1
shell_kind (shells.BadTest at) = 2
shell_kind (shells.BadPattern at) = 3
shell_kind shells.OutOfMemory = 3

-- The number of the error, with its offset if it has one. (own)
abbrev pub fault_text : ParseFault → List ℕ
fault_text (Quote fault) = codes "1." ++ quotes.fault_text fault
fault_text (UnknownMacro at) = codes "2 at " ++ decimal at
fault_text (UnknownStatement at) = codes "3 at " ++ decimal at
fault_text (ArgCount at) = codes "4 at " ++ decimal at
fault_text (BadName at) = codes "5 at " ++ decimal at
fault_text (Shell fault at) = codes "6." ++ decimal (shell_kind fault) ++ codes " at " ++ decimal at
fault_text (NotAtTop at) = codes "7 at " ++ decimal at
fault_text NoInit = codes "8"
fault_text NoOutput = codes "9"
fault_text (AfterOutput at) = codes "10 at " ++ decimal at
fault_text (CacheBody at) = codes "11 at " ++ decimal at
fault_text (TooDeep at) = codes "12 at " ++ decimal at
fault_text (TooMany at) = codes "13 at " ++ decimal at
fault_text (NewerVersion at) = codes "14 at " ++ decimal at
fault_text OutOfMemory = codes "memory"
