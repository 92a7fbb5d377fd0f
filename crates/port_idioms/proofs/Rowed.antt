-- What a row of a table says.
use Rattle.std.proofs.Common.{◌≡◌, ℕ, ◌+◌, ◌≤◌, ◌<◌, List, ◌∷◌, ◌++◌, length, subst, sym, ap, ◌∙◌, Option, Some, None, map, get_or}
use Rattle.std.specs.Prelude.{◌≢◌, Contains, IfSome, MatchOption}
use Rattle.std.specs.Borrow.{Bor}
use Rattle.std.proofs.lemmas.List.Elements.{Contains-get_or}
use Rattle.port_idioms.specs.Rows.{IsAmong, IsCounted, IsRow}
use Rattle.port_idioms.specs.Rows as specs

pub counted : (xs rest text : List ℕ) (least most count : ℕ) → (xs ≡ 32 ∷ (48 + least) ∷ rest) × (least ≤ 9) → (rest ≡ 32 ∷ (48 + most) ∷ text) × (most ≤ 9)
    → least ≤ count → count ≤ most → IsCounted count text xs
counted xs rest text least most count (xs_is, l) (rest_is, m) from to =
    subst (IsCounted count text) (sym (xs_is ∙ ap (λ r. 32 ∷ (48 + least) ∷ r) rest_is)) (specs.IsCounted.counted least most from to m)

pub in_row : {V : Type 0} (now : V → List ℕ) (o : Option V) (row name rest : List ℕ) (count : ℕ) → row ≡ name ++ rest
    → IfSome o (λ t. IsCounted count (now t) rest) → IfSome o (λ t. IsRow name count (now t) row)
in_row now (Some t) row name rest count is counts = subst (IsRow name count (now t)) (sym is) (specs.IsRow.row rest counts)
in_row now None row name rest count is counts = tt

pub stripped : (text name : List ℕ) (r : Option (Bor (List ℕ))) → MatchOption r ((rest : List ℕ) → text ≢ name ++ rest) (λ x. text ≡ name ++ x.now)
    → IfSome r (λ rest. text ≡ name ++ rest.now)
stripped text name None h = tt
stripped text name (Some x) h = h
