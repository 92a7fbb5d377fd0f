-- The offset after a call is that after its last argument.
use Rattle.std.proofs.Common.{◌≡◌, ℕ, suc, ◌+◌, ◌-◌, ◌<◌, List, [], ◌∷◌, length, get_or, ap, sym, ◌∙◌, arith, refl}
use Rattle.ac_calls.specs.declared.call.Extent.{Extent}
use Rattle.ac_calls.specs.Calls.{end_after}

pub last_end : (n : ℕ) (args : List Extent) (none : Extent) → 0 < length args → end_after n args ≡ (get_or args (length args - 1) none).end + 1
last_end n [] none some = absurd (omega arith)
last_end n (arg ∷ []) none some = refl
last_end n (arg ∷ next ∷ more) none some =
    let index : length (arg ∷ next ∷ more) - 1 ≡ suc (length (next ∷ more) - 1) = omega arith in
    last_end (arg.end + 1) (next ∷ more) none (omega arith) ∙ sym (ap (λ i. (get_or (arg ∷ next ∷ more) i none).end + 1) index)
