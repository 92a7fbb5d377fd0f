use Rattle.std.proofs.Common.{◌≡◌, Bool, true, false, refl, sym}
use Rattle.std.proofs.lemmas.Str.{IsUtf8-from_is_utf8, is_utf8-from_IsUtf8}
use Rattle.crew_launch.proofs.starting.is_text.Goals as goal

off : (b : Bool) → (b ≡ true → ⊥) → false ≡ b
off true f = absurd (f refl)
off false f = refl

pub returns-in-Ok : goal.returns-in-Ok
returns-in-Ok c = sym (is_utf8-from_IsUtf8 _ c.in-Ok.ensures.cases.1)

pub returns-in-Err : goal.returns-in-Err
returns-in-Err c = off _ (λ e. c.in-Err.ensures.cases.0 (IsUtf8-from_is_utf8 _ e))
