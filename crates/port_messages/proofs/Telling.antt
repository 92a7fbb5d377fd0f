-- What is made of parts.
use Rattle.std.proofs.Common.{◌≡◌, ℕ, ◌<◌, List, ◌++◌, length, get_or, sym, subst, ap, ◌∙◌, inl, inr, Option, Some}
use Rattle.std.specs.Prelude.{codes, All, IfSome}
use Rattle.std.proofs.lemmas.List.Elements.{All-get_or}
use Rattle.port_breaks.specs.Breaks.{IsBroken}
use Rattle.port_messages.specs.Told.{IsTold, IsBrokenAndTold, IsSetTo}

-- The lines were broken, and then the text was told.
pub broken_and_told : (text mid out : List ℕ) → IsBroken text mid → IsTold mid out → IsBrokenAndTold text out
broken_and_told text mid out broken told = record { mid = mid; broken = broken; told = told }

-- The parts of an assignment.
pub set_by : (text name rest word : List ℕ) → text ≡ name ++ rest → rest ≡ codes "=" ++ word → IsSetTo text name word
set_by text name rest word whole parts = inl (whole ∙ ap (λ r. name ++ r) parts)

pub quoted_set_by : (text inner name rest word : List ℕ) → text ≡ codes "[" ++ inner → inner ≡ name ++ rest → rest ≡ codes "]=" ++ word → IsSetTo text name word
quoted_set_by text inner name rest word whole named parts = inr (whole ∙ ap (λ r. codes "[" ++ r) (named ∙ ap (λ r. name ++ r) parts))

-- What holds of each element of a list holds of the one at an index.
pub of_each : {A : Type 0} (P : A → Type 0) (xs : List A) (i : ℕ) (x : A) → All P xs → i < length xs → x ≡ get_or xs i x → P x
of_each P xs i x all lt here = subst P (sym here) (All-get_or P xs i x lt all)

-- What is said of a `Some` holds of what is in it.
pub of_some : {V : Type 0} (P : V → Type 0) (o : Option V) (v : V) → o ≡ Some v → IfSome o P → P v
of_some P o v is p = subst (λ o. IfSome o P) is p
