-- The errors that a call may return, each with an offset of at most n, the length of the text. (own)
use Rattle.std.specs.Prelude.{ℕ, ◌≤◌}
use Rattle.shellword.specs.declared.fault.ShellFault.TheVariants.{BadWord}
use Rattle.shell_bare.specs.declared.fault.BareFault.{BareFault}
use Rattle.shell_bare.specs.declared.fault.BareFault.TheVariants.{UnknownStatement, Shell, OutOfMemory}

-- A possible error of a call. (own)
abbrev pub IsBareFault : ℕ → BareFault → Type 0
IsBareFault n (UnknownStatement at) = at ≤ n
IsBareFault n (Shell (BadWord at)) = at ≤ n
IsBareFault n (Shell f) = ⊥
IsBareFault n OutOfMemory = Unit {0}

-- A possible error of the reading function, which can't run out of memory. (own)
abbrev pub IsReadingFault : ℕ → BareFault → Type 0
IsReadingFault n (UnknownStatement at) = at ≤ n
IsReadingFault n (Shell (BadWord at)) = at ≤ n
IsReadingFault n f = ⊥
