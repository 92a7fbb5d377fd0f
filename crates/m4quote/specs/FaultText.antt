-- How an error of a text is displayed.
use Rattle.std.specs.Prelude.{ℕ, List, ◌++◌, codes, decimal}
use Rattle.m4quote.specs.declared.fault.QuoteFault.{QuoteFault}
use Rattle.m4quote.specs.declared.fault.QuoteFault.TheVariants.{UnclosedQuote, UnclosedParen, StrayClose, Nul, TooLarge, TooDeep, OutOfMemory}

-- The number of the error, with its offset if it has one. (own)
abbrev pub fault_text : QuoteFault → List ℕ
fault_text (UnclosedQuote at) = codes "1 at " ++ decimal at
fault_text (UnclosedParen at) = codes "2 at " ++ decimal at
fault_text (StrayClose at) = codes "3 at " ++ decimal at
fault_text (Nul at) = codes "4 at " ++ decimal at
fault_text TooLarge = codes "5"
fault_text TooDeep = codes "6"
fault_text OutOfMemory = codes "memory"
