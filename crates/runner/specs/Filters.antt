-- What became of the filter's input, whatever the exit status is.
use Rattle.std.specs.Prelude.{◌≡◌, ◌≢◌, ◌⊎◌, ℕ, Bool, false, List, [], ◌∷◌, Option, IfSome}
use Rattle.std.specs.Io.KnownBytes.{Appends}
use Rattle.cmd_call.specs.Lines.{SaysLines}
use Rattle.cmd_filter.specs.FaultText.{filter_line}
use Rattle.cmd_filter.specs.Filtered.{IsFiltered, IsRefused}
use Rattle.cmd_filter.specs.declared.fault.FilterFault.{FilterFault}
use Rattle.cmd_filter.specs.declared.fault.FilterFault.TheVariants.{Write}

-- The input is refused with a fault, and the status is 2. Unless its text couldn't be written, nothing
-- is. Or the input is filtered, this is its status, also if it is 2, and this is so of what is written
-- and of the text for standard error. (own)
abbrev pub FiltersSo : List ℕ → ℕ → Type 0 → (List ℕ → List ℕ → Type 0) → Type 0
FiltersSo input status unwritten is_so =
    ((fault : FilterFault) × IsRefused input fault × (status ≡ 2) × (fault ≢ Write → unwritten))
    ⊎ ((out : List ℕ) × (said : List ℕ) × IsFiltered input out said status × is_so out said)

-- What is said on standard error of an input, if it is known: the line of its fault, with pages if it
-- is asked why, or, as the status is that of its source's run, the text of that run, unless the stream
-- has failed. (own)
abbrev pub FilterSays : {E : Type 0} → (E → Option (List ℕ)) → (E → Bool) → E → E → Bool → Option (List ℕ) → ℕ → Type 0
FilterSays contents has_failed old new is_asked known status =
    ((fault : FilterFault) × IfSome known (λ input. IsRefused input fault) × SaysLines contents has_failed old new is_asked (filter_line fault ∷ []))
    ⊎ IfSome known (λ input. (out : List ℕ) × (said : List ℕ) × IsFiltered input out said status × (has_failed new ≡ false → Appends (contents old) (contents new) said))
