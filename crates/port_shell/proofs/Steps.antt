-- What the changes of a pass make.
use Rattle.std.proofs.Common.{◌≡◌, ℕ, ◌<◌, List, length, get_or, sym, subst, Option, Some}
use Rattle.std.specs.Prelude.{All, IfSome}
use Rattle.std.proofs.lemmas.List.Elements.{All-get_or}
use Rattle.port_breaks.specs.Breaks.{IsMade}
use Rattle.port_idioms.specs.declared.idioms.Idioms.{Idioms}
use Rattle.port_statements.specs.Statements.{MayBegin}
use Rattle.port_shell.specs.Formed.{IsEdit, IsFormed}
use Rattle.port_shell.specs.Formed as specs

-- What holds of each element holds of the one at an index.
pub of_each : {A : Type 0} (P : A → Type 0) (xs : List A) (i : ℕ) (x : A) → All P xs → i < length xs → x ≡ get_or xs i x → P x
of_each P xs i x all lt here = subst P (sym here) (All-get_or P xs i x lt all)

pub begins_at : (text : List ℕ) (start at : ℕ) → MayBegin text start → at ≡ start → MayBegin text at
begins_at text start at begins is = subst (MayBegin text) (sym is) begins

-- What is said of a `Some` holds of what is in it.
pub of_some : {V : Type 0} (P : V → Type 0) (o : Option V) (v : V) → o ≡ Some v → IfSome o P → P v
of_some P o v is p = subst (λ o. IfSome o P) is p

-- What a pass makes is one more of them.
pub pass_more : {V : Type 0} (items : V → List ℕ) (idioms : Idioms) (text mid now : List ℕ) (o : Option V) (next : V) → o ≡ Some next → now ≡ mid
    → IfSome o (λ v. IsMade (IsEdit idioms now) now (items v)) → IsFormed idioms text mid → IsFormed idioms text (items next)
pass_more items idioms text mid now o next is same pass before =
    specs.IsFormed.passed before (subst (λ m. IsMade (IsEdit idioms m) m (items next)) same (subst (λ o. IfSome o (λ v. IsMade (IsEdit idioms now) now (items v))) is pass))
