-- What a reader has found if it succeeds.
use Rattle.std.proofs.Common.{Result, Ok, Err, Option, Some, None}
use Rattle.std.specs.Prelude.{Bool, IfOk, IfSome, IsTrue}

-- What follows from what a `true` says holds of the `true`.
pub on_true : {E P Q : Type 0} → (P → Q) → (r : Result Bool E) → IfOk r (λ b. IsTrue b → P) → IfOk r (λ b. IsTrue b → Q)
on_true f (Ok b) p = λ is. f (p is)
on_true f (Err e) p = tt

-- What follows from what a `Some` says holds of the `Some`.
pub on_some : {T : Type 0} {P Q : T → Type 0} → ((v : T) → P v → Q v) → (o : Option T) → IfSome o P → IfSome o Q
on_some f (Some v) p = f v p
on_some f None p = tt
