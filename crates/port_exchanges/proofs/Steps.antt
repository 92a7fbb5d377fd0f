-- What one step of a pass makes.
use Rattle.std.proofs.Common.{◌≡◌, ℕ, ◌≤◌, List, ◌++◌, length, slice_range, sym, subst, arith}
use Rattle.port_passes.specs.Rewritten.{IsPass}
use Rattle.port_passes.specs.Rewritten as specs
use Rattle.port_passes.specs.Exchanged.{IsExchanged}
use Rattle.port_idioms.specs.declared.idioms.Idioms.{Idioms}

pub exchange_step : (idioms : Idioms) (text : List ℕ) (at : ℕ) (out : List ℕ) (start end : ℕ) (put : List ℕ) (new_at : ℕ) (new : List ℕ)
    → IsPass idioms text at out → IsExchanged text start end put → at ≤ start → start ≤ end → end ≤ length text
    → (new_at ≡ end) × (new ≡ (out ++ slice_range text at start) ++ put) → IsPass idioms text new_at new
exchange_step idioms text at out start end put new_at new before is from order to (at_is, new_is) =
    let copied = specs.IsPass.copied start before from (omega (arith, order, to)) in
    subst (λ a. IsPass idioms text a new) (sym at_is) (subst (IsPass idioms text end) (sym new_is) (specs.IsPass.exchanged end put copied is to))
