-- What holds of each element of a list, or of one of them.
use Rattle.std.proofs.Common.{◌≡◌, ℕ, Bool, ◌||◌, ◌≤◌, List, [], ◌∷◌, Bor, length, refl, sym, subst, ap, ◌∙◌, map, get_or, ◌<◌, ◌+◌, arith, All}
use Rattle.std.specs.Prelude.{bytes_eq}
use Rattle.std.specs.List.{list_any}
use Rattle.std.proofs.lemmas.List.{get_or-map, length-map}
use Rattle.port_passes.proofs.Steps.{before_next}

any_map : (name : List ℕ) (slices : List (Bor (List ℕ))) → list_any (λ other. bytes_eq other.now name) slices ≡ list_any (λ other. bytes_eq other name) (map (λ other. other.now) slices)
any_map name [] = refl
any_map name (slice ∷ more) = ap (λ b. bytes_eq slice.now name || b) (any_map name more)

-- A name is one of a list of slices, of which these are the texts.
pub any_listed : (b : Bool) (name : List ℕ) (slices : List (Bor (List ℕ))) (listed : List (List ℕ))
    → b ≡ list_any (λ other. bytes_eq other.now name) slices → map (λ other. other.now) slices ≡ listed → b ≡ list_any (λ other. bytes_eq other name) listed
any_listed b name slices listed is same = is ∙ any_map name slices ∙ ap (list_any (λ other. bytes_eq other name)) same

-- What holds of all elements before this one, and of it, holds of those before the next.
pub each_at : {A B : Type 0} (xs : List A) (f : A → B) (P : B → Type 0) (i : ℕ) (e : A) → i < length xs
    → ((k : ℕ) (d : B) → k < i → P (get_or (map f xs) k d)) → P (f (get_or xs i e)) → (k : ℕ) (d : B) → k < i + 1 → P (get_or (map f xs) k d)
each_at xs f P i e lt before holds k d below =
    before_next (λ n. P (get_or (map f xs) n d)) i k (λ less. before k d less) (subst P (sym (get_or-map f xs i e d lt)) holds) below

pub each_next : {A B : Type 0} (xs : List A) (f : A → B) (P : B → Type 0) (i : ℕ) (x : A) → i < length xs → x ≡ get_or xs i x
    → ((k : ℕ) (d : B) → k < i → P (get_or (map f xs) k d)) → P (f x) → (k : ℕ) (d : B) → k < i + 1 → P (get_or (map f xs) k d)
each_next xs f P i x lt here before holds = each_at xs f P i x lt before (subst (λ y. P (f y)) here holds)

-- What holds of all elements before the end of a list holds of each of the list.
pub each_done : {A B : Type 0} (xs : List A) (f : A → B) (P : B → Type 0) (i : ℕ) → length xs ≤ i → ((k : ℕ) (d : B) → k < i → P (get_or (map f xs) k d)) → All P (map f xs)
each_done xs f P i to before k d inside =
    let within : k < length xs = subst (λ n. k < n) (length-map xs f) inside in
    before k d (omega (arith, to, within))
