-- What is put in the place of operators of a condition.
use Rattle.std.proofs.Common.{◌≡◌, ℕ, ◌<◌, ◌≤◌, List, ◌++◌, length, take, false, Result, Ok, Err, is_ok, OnOk, if◌then◌else◌, slice_range, sym, subst, arith, codes}
use Rattle.std.specs.List.{list_any}
use Rattle.shellword.specs.Test.{IsTest}
use Rattle.shellword.specs.Truth.{Joined}
use Rattle.port_parts.specs.Places.{IsWord}
use Rattle.port_joints.specs.Joints.{Becomes}
use Rattle.port_joints.specs.Spelled.{IsSpelled, Spells, IsNumberAt, IsReadable, IsRespelled, is_open_after, is_hard}
use Rattle.port_joints.specs.Spelled as specs

pub equals_spells : (text : List ℕ) (next : ℕ) → Spells text (codes " == ") next (codes " = ")
equals_spells text next = specs.Spells.equals next

pub equal_spells : (text : List ℕ) (next end : ℕ) → IsNumberAt text next end → Spells text (codes " -eq ") next (codes " = ")
equal_spells text next end is = specs.Spells.equal next end is

pub other_spells : (text : List ℕ) (next end : ℕ) → IsNumberAt text next end → Spells text (codes " -ne ") next (codes " != ")
other_spells text next end is = specs.Spells.other next end is

pub spelled_bound : (text : List ℕ) (at : ℕ) (out : List ℕ) → IsSpelled text at out → at ≤ length text
spelled_bound text at out specs.IsSpelled.begun = omega arith
spelled_bound text at out (specs.IsSpelled.copied next before from to) = to
spelled_bound text at out (specs.IsSpelled.spelled next operator put before outside is spells) = is.0

pub spelled_step : (text : List ℕ) (read : ℕ) (out : List ℕ) (at : ℕ) (operator : List ℕ) (next : ℕ) (put : List ℕ) (new_at : ℕ) (new : List ℕ) → IsSpelled text read out
    → (is_open_after false (take at text) ≡ false) × IsWord text at operator next → Spells text operator next put → (read ≤ at) × (at ≤ length text)
    → (new_at ≡ next) × (new ≡ (out ++ slice_range text read at) ++ put) → IsSpelled text new_at new
spelled_step text read out at operator next put new_at new before (outside, is) spells (from, to) (at_is, new_is) =
    subst (λ a. IsSpelled text a new) (sym at_is)
    (subst (IsSpelled text next) (sym new_is) (specs.IsSpelled.spelled next operator put (specs.IsSpelled.copied at before from to) outside is spells))

pub spelled_end : {T E : Type 0} (r : Result T E) (text : List ℕ) (at : ℕ) (out new : List ℕ) → IsSpelled text at out
    → new ≡ (if is_ok r then out ++ slice_range text at (length text) else out) → OnOk r (IsSpelled text (length text) new)
spelled_end (Ok v) text at out new before is = subst (IsSpelled text (length text)) (sym is) (specs.IsSpelled.copied (length text) before (spelled_bound text at out before) (omega arith))
spelled_end (Err e) text at out new before is = tt

pub is_readable : (text last : List ℕ) (test : Joined) → Becomes text last → IsTest last test → IsReadable text
is_readable text last test becomes tests = record { final = last; test = test; becomes = becomes; tests = tests }

pub respelled : (text put : List ℕ) → list_any is_hard text ≡ false → IsSpelled text (length text) put → length put < length text → IsReadable put → IsRespelled text put
respelled text put plain is less readable = record { plain = plain; spelled = is; shorter = less; readable = readable }
