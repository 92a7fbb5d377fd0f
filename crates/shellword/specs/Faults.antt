-- The errors that a call may return, each with an offset of at most n, the length of the text. (own)
use Rattle.std.specs.Prelude.{ℕ, ◌≤◌}
use Rattle.shellword.specs.declared.fault.ShellFault.{ShellFault}
use Rattle.shellword.specs.declared.fault.ShellFault.TheVariants.{BadWord, BadTest, BadPattern, OutOfMemory}

-- A possible error of a word. (own)
abbrev pub IsWordFault : ℕ → ShellFault → Type 0
IsWordFault n (BadWord at) = at ≤ n
IsWordFault n OutOfMemory = Unit {0}
IsWordFault n f = ⊥

-- A possible error of a test. (own)
abbrev pub IsTestFault : ℕ → ShellFault → Type 0
IsTestFault n (BadWord at) = at ≤ n
IsTestFault n (BadTest at) = at ≤ n
IsTestFault n OutOfMemory = Unit {0}
IsTestFault n f = ⊥

-- A possible error of a list of patterns. (own)
abbrev pub IsPatternFault : ℕ → ShellFault → Type 0
IsPatternFault n (BadPattern at) = at ≤ n
IsPatternFault n OutOfMemory = Unit {0}
IsPatternFault n f = ⊥
