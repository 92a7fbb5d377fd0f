-- What was asked of the program of the tools.
use Rattle.std.specs.Prelude.{◌≡◌, ◌+◌, ℕ, List, [], ◌∷◌, ◌++◌, Option, Some, None, IfSome, ⊤, pos}
use Rattle.std.specs.Process.{exit_code, exit_signal}
use Rattle.std.specs.declared.process.status.ExitStatus.{ExitStatus}

-- A start: its words, and the exit status of the program, unless it could not be started. (own)
pub record ToolStart : Type 0 where
  pub words : List (List ℕ)
  pub status : Option ℕ

-- If the starts so far are known, this one is added. If they are unknown, they stay unknown. (own)
abbrev pub AddsStart : Option (List ToolStart) → Option (List ToolStart) → ToolStart → Type 0
AddsStart None None start = ⊤
AddsStart None (Some new) start = ⊥
AddsStart (Some old) None start = ⊥
AddsStart (Some old) (Some new) start = new ≡ old ++ start ∷ []

-- The number that is handed on: the exit status, or 128 and the number of the signal that ended the program. (the manual of bash,
-- "Exit Status")
abbrev pub IsHandedOn : ExitStatus → ℕ → Type 0
IsHandedOn status number =
    IfSome (exit_code status) (λ code. code ≡ pos number)
    × IfSome (exit_signal status) (λ signal. (n : ℕ) × (signal ≡ pos n) × (number ≡ 128 + n))
