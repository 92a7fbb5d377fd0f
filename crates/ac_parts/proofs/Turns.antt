-- What a step of a walk says.
use Rattle.std.proofs.Common.{◌≡◌, ℕ, cond, List, [], ◌∷◌, Some, None, refl, ap}
use Rattle.std.proofs.lemmas.Bool.{ne_eqb}
use Rattle.ac_parts.specs.declared.walk.Frame.{Frame}
use Rattle.ac_parts.specs.Walks.{ends_at, closed}

-- A part in which something is left stays open.
pub still_open : (top : Frame) (below : List Frame) (at : ℕ) → (top.left ≡ 0 → ⊥) → closed top below at ≡ Some (record { top = top; below = below; at = at })
still_open top [] at some_left = refl
still_open top (next ∷ below) at some_left =
    ap (λ b. cond b (cond (ends_at top at) (closed next below at) None) (Some (record { top = top; below = next ∷ below; at = at }))) (ne_eqb top.left 0 some_left)
