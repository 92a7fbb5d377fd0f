-- What a change of a stored table does to its entries.
use Rattle.std.proofs.Common.{◌≡◌, ℕ, List, [], ◌∷◌, cond, refl, ap}
use Rattle.std.specs.Prelude.{bytes_eq, Some}
use Rattle.std.specs.Map.{lookup, remove_entry}
use Rattle.indexmap.specs.IndexMap.{insert_entry}
use Rattle.deftable.specs.Table.{value_of, with_entry, without_entry}
use Rattle.deftable.proofs.Tables.{HasDistinctNames-with_entry, HasDistinctNames-without_entry, HasDistinctNames-[]}

pub lookup-is : (es : List (List ℕ × List ℕ)) (q : List ℕ) → lookup (λ k. bytes_eq q k) es ≡ value_of es q
unfolding value_of
lookup-is [] q = refl
lookup-is (e ∷ es) q = ap (cond (bytes_eq q e.0) (Some e.1)) (lookup-is es q)

pub insert_entry-is : (es : List (List ℕ × List ℕ)) (k v : List ℕ) → insert_entry (λ a b. bytes_eq a b) es k v ≡ with_entry es k v
unfolding with_entry
insert_entry-is [] k v = refl
insert_entry-is (e ∷ es) k v = ap (λ t. cond (bytes_eq k e.0) ((e.0, v) ∷ es) (e ∷ t)) (insert_entry-is es k v)

pub remove_entry-is : (es : List (List ℕ × List ℕ)) (q : List ℕ) → remove_entry (λ k. bytes_eq q k) es ≡ without_entry es q
unfolding without_entry
remove_entry-is [] q = refl
remove_entry-is (e ∷ es) q = ap (λ t. cond (bytes_eq q e.0) es (e ∷ t)) (remove_entry-is es q)

pub ruleset storing = (lookup-is, insert_entry-is, remove_entry-is, HasDistinctNames-with_entry, HasDistinctNames-without_entry, HasDistinctNames-[])
