-- An error of quoting has its offset in the source.
use Rattle.std.proofs.Common.{ℕ, ◌+◌, ◌<◌, ◌^◌, List, length, arith}
use Rattle.m4quote.specs.declared.fault.QuoteFault.{QuoteFault}
use Rattle.m4quote.specs.declared.fault.QuoteFault.TheVariants.{UnclosedQuote, UnclosedParen, StrayClose, Nul, TooLarge, TooDeep, OutOfMemory}
use Rattle.m4quote.specs.Faults.{IsBracketFault}
use Rattle.ac_statement.specs.Fault.{IsWithin}

pub within_from_kind : (base : ℕ) (text : List ℕ) (f : QuoteFault) → base + length text < 2 ^ 64 → IsBracketFault text f → IsWithin base f
within_from_kind base text (UnclosedQuote at) fits kind = omega arith
within_from_kind base text (StrayClose at) fits kind = omega arith
within_from_kind base text (UnclosedParen at) fits kind = absurd kind
within_from_kind base text (Nul at) fits kind = absurd kind
within_from_kind base text TooLarge fits kind = tt
within_from_kind base text TooDeep fits kind = tt
within_from_kind base text OutOfMemory fits kind = tt
