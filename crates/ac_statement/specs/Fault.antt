-- Errors of quoting within a text of the source.
use Rattle.std.specs.Prelude.{ℕ, ◌+◌, ◌≤◌}
use Rattle.m4quote.specs.declared.fault.QuoteFault.{QuoteFault}
use Rattle.m4quote.specs.declared.fault.QuoteFault.TheVariants.{UnclosedQuote, UnclosedParen, StrayClose, Nul, TooLarge, TooDeep, OutOfMemory}

-- In a text that begins at base, the error's offset in the source fits in 64 bits. (own)
abbrev pub IsWithin : ℕ → QuoteFault → Type 0
IsWithin base (UnclosedQuote at) = base + at ≤ 18446744073709551615
IsWithin base (UnclosedParen at) = base + at ≤ 18446744073709551615
IsWithin base (StrayClose at) = base + at ≤ 18446744073709551615
IsWithin base (Nul at) = base + at ≤ 18446744073709551615
IsWithin base TooLarge = Unit {0}
IsWithin base TooDeep = Unit {0}
IsWithin base OutOfMemory = Unit {0}
