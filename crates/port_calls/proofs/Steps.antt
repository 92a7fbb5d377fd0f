-- What one step of a pass makes.
use Rattle.std.proofs.Common.{◌≡◌, ℕ, ◌≤◌, List, ◌++◌, length, Result, Ok, Err, is_ok, OnOk, if◌then◌else◌, slice_range, sym, subst, Option, Some, arith}
use Rattle.std.specs.Prelude.{Contains, IfSome, codes}
use Rattle.ac_calls.specs.Calls.{MacroCall, calls_in}
use Rattle.port_passes.specs.Rewritten.{IsPass, IsRewritten, HasToGo, IsAround, DeclaresOption, IsOldHelp}
use Rattle.port_passes.specs.Rewritten as specs
use Rattle.port_spots.specs.Put.{MayPut}
use Rattle.port_idioms.specs.declared.idioms.Idioms.{Idioms}
use Rattle.port_passes.proofs.Steps.{pass_bound}

pub pass_step : (idioms : Idioms) (text : List ℕ) (at : ℕ) (out : List ℕ) (c : MacroCall) (start end : ℕ) (put : List ℕ) (new_at : ℕ) (new : List ℕ)
    → IsPass idioms text at out → Contains (calls_in text) c → HasToGo text c → MayPut idioms text c put → at ≤ start → IsAround text c start end × (end ≤ length text) × (start ≤ length text)
    → (new_at ≡ end) × (new ≡ (out ++ slice_range text at start) ++ put) → IsPass idioms text new_at new
pass_step idioms text at out c start end put new_at new before is goes puts from (around, to, within) (at_is, new_is) =
    subst (λ a. IsPass idioms text a new) (sym at_is) (subst (IsPass idioms text end) (sym new_is) (specs.IsPass.replaced c put end (specs.IsPass.copied start before from within) is goes puts around to))

pub help_step : (idioms : Idioms) (text : List ℕ) (at : ℕ) (out : List ℕ) (c : MacroCall) (start end : ℕ) (new_at : ℕ) (new : List ℕ)
    → IsPass idioms text at out → Contains (calls_in text) c → DeclaresOption text c → at ≤ start → IsOldHelp text c start end × (end ≤ length text) × (start ≤ length text)
    → (new_at ≡ end) × (new ≡ (out ++ slice_range text at start) ++ codes "AS_HELP_STRING") → IsPass idioms text new_at new
help_step idioms text at out c start end new_at new before is declares from (help, to, within) (at_is, new_is) =
    subst (λ a. IsPass idioms text a new) (sym at_is) (subst (IsPass idioms text end) (sym new_is) (specs.IsPass.renamed c end (specs.IsPass.copied start before from within) is declares help to))

pub pass_end : {T E : Type 0} (idioms : Idioms) (r : Result T E) (text : List ℕ) (at : ℕ) (out new : List ℕ) → IsPass idioms text at out
    → new ≡ (if is_ok r then out ++ slice_range text at (length text) else out) → OnOk r (IsPass idioms text (length text) new)
pass_end idioms (Ok v) text at out new before is = subst (IsPass idioms text (length text)) (sym is) (specs.IsPass.copied (length text) before (pass_bound idioms text at out before) (omega arith))
pass_end idioms (Err e) text at out new before is = tt

pub pass_more : {V : Type 0} (idioms : Idioms) (items : V → List ℕ) (text mid now : List ℕ) (o : Option V) (next : V) → o ≡ Some next → now ≡ mid
    → IfSome o (λ v. IsPass idioms now (length now) (items v)) → IsRewritten idioms text mid → IsRewritten idioms text (items next)
pass_more idioms items text mid now o next is same pass before =
    specs.IsRewritten.passed before (subst (λ m. IsPass idioms m (length m) (items next)) same (subst (λ o. IfSome o (λ v. IsPass idioms now (length now) (items v))) is pass))
