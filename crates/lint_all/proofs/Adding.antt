-- Lists of errors to which one is added, and from which one is taken.
use Rattle.std.proofs.Common.{◌≡◌, ℕ, List, [], ◌∷◌, ◌++◌, Some, Result, Ok, Err}
use Rattle.std.specs.Prelude.{All, OnOk}
use Rattle.std.specs.List.{Contains}
use Rattle.std.specs.List.Sorted.{IsPermutation}
use Rattle.std.proofs.lemmas.List.Elements.{All-pop, All-weaker}
use Rattle.std.proofs.lemmas.List.Sorted.{Contains-permutation}
use Rattle.lint_findings.specs.declared.finding.Finding.{Finding}
use Rattle.lint_all.specs.Found.{AreAmong, IsErrorOf, KeepsAmong}

-- what is kept by one call after another
pub on_ok : {T E : Type 0} {P Q : Type 0} (r : Result T E) → (P → Q) → OnOk r P → OnOk r Q
on_ok (Ok x) f p = f p
on_ok (Err e) f p = tt

pub among_kept : (first old new : List Finding) → AreAmong first old → KeepsAmong old new → AreAmong first new
among_kept first old new among kept = All-weaker (Contains old) (Contains new) kept first among

pub among_permuted : (first mid list : List Finding) → AreAmong first mid → IsPermutation mid list → AreAmong first list
among_permuted first mid list among same = among_kept first mid list among (λ x h. Contains-permutation mid list x same h)

pub popped : (len : ℕ) (xs ys : List Finding) (f : Finding) → xs ≡ ys ++ f ∷ [] → All (IsErrorOf len) xs → All (IsErrorOf len) ys × IsErrorOf len f
popped len xs ys f is all = All-pop (IsErrorOf len) xs ys (Some f) is all
