-- What a condition is in which operators that ask about files are taken for `-n`.
use Rattle.std.proofs.Common.{◌≡◌, ℕ, ◌+◌, ◌≤◌, List, ◌++◌, length, false, Result, Ok, Err, is_ok, OnOk, IsTrue, Bool, if◌then◌else◌, slice_range, sym, subst, arith, codes}
use Rattle.std.specs.Prelude.{IfOk}
use Rattle.std.specs.List.{list_any}
use Rattle.port_joints.specs.Spelled.{IsReadable, is_hard}
use Rattle.port_joints.specs.Files.{IsTurned, IsFileOperator, IsTestOfFiles}
use Rattle.port_joints.specs.Files as specs

pub turned_bound : (text : List ℕ) (at : ℕ) (out : List ℕ) → IsTurned text at out → at ≤ length text
turned_bound text at out specs.IsTurned.begun = omega arith
turned_bound text at out (specs.IsTurned.copied next before from to) = to
turned_bound text at out (specs.IsTurned.turned letter before is) = is.is.0

pub turned_step : (text : List ℕ) (read : ℕ) (out : List ℕ) (at letter new_at : ℕ) (new : List ℕ) → IsTurned text read out → IsFileOperator text at letter → read ≤ at
    → (new_at ≡ at + 4) × (new ≡ (out ++ slice_range text read at) ++ codes " -n ") → IsTurned text new_at new
turned_step text read out at letter new_at new before is from (at_is, new_is) =
    let within : at + 4 ≤ length text = is.is.0 in
    subst (λ a. IsTurned text a new) (sym at_is)
    (subst (IsTurned text (at + 4)) (sym new_is) (specs.IsTurned.turned letter (specs.IsTurned.copied at before from (omega (arith, within))) is))

pub turned_end : {T E : Type 0} (r : Result T E) (text : List ℕ) (at : ℕ) (out new : List ℕ) → IsTurned text at out
    → new ≡ (if is_ok r then out ++ slice_range text at (length text) else out) → OnOk r (IsTurned text (length text) new)
turned_end (Ok v) text at out new before is = subst (IsTurned text (length text)) (sym is) (specs.IsTurned.copied (length text) before (turned_bound text at out before) (omega arith))
turned_end (Err e) text at out new before is = tt

pub is_test : {E : Type 0} (r : Result Bool E) (text words : List ℕ) → list_any is_hard text ≡ false → IsTurned text (length text) words → IfOk r (λ b. IsTrue b → IsReadable words)
    → IfOk r (λ b. IsTrue b → IsTestOfFiles text)
is_test (Ok b) text words plain is readable = λ yes_is. record { words = words; plain = plain; turned = is; readable = readable yes_is }
is_test (Err e) text words plain is readable = tt
