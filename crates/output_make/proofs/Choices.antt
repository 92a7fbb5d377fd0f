-- Names among tags and templates.
use Rattle.std.proofs.Common.{◌≡◌, ℕ, List, [], ◌∷◌, ◌||◌, true, false, cond, Some, refl, ap}
use Rattle.std.specs.Prelude.{bytes_eq, find, option_map}
use Rattle.std.specs.List.{list_any}
use Rattle.deftable.specs.NameList.{has_name}
use Rattle.deftable.specs.Table.{value_of}

pub has_name-any : (ns : List (List ℕ)) (q : List ℕ) → has_name ns q ≡ list_any (λ n. bytes_eq q n) ns
unfolding has_name
has_name-any [] q = refl
has_name-any (n ∷ ns) q = ap (λ b. bytes_eq q n || b) (has_name-any ns q)

pub ruleset named = (has_name-any)

pub value_of-find : (es : List (List ℕ × List ℕ)) (q : List ℕ) → value_of es q ≡ option_map (λ e. e.1) (find (λ e. bytes_eq q e.0) es)
unfolding value_of
value_of-find [] q = refl
value_of-find (e ∷ es) q =
    elim (bytes_eq q e.0) as (λ b. cond b (Some e.1) (value_of es q) ≡ option_map (λ x. x.1) (cond b (Some e) (find (λ x. bytes_eq q x.0) es))) [
      | true ↦ refl
      | false ↦ value_of-find es q
    ]

pub ruleset found = (value_of-find)
