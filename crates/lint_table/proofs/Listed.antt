-- A test of some element of a list of slices.
use Rattle.std.proofs.Common.{◌≡◌, ℕ, Bool, ◌||◌, List, [], ◌∷◌, Bor, refl, ap, ◌∙◌}
use Rattle.std.specs.Prelude.{map, bytes_eq}
use Rattle.std.specs.List.{list_any}

any_map : (code : List ℕ) (slices : List (Bor (List ℕ))) → list_any (λ other. bytes_eq other.now code) slices ≡ list_any (λ other. bytes_eq other code) (map (λ other. other.now) slices)
any_map code [] = refl
any_map code (slice ∷ more) = ap (λ b. bytes_eq slice.now code || b) (any_map code more)

pub any_listed : (b : Bool) (code : List ℕ) (slices : List (Bor (List ℕ))) (listed : List (List ℕ))
    → b ≡ list_any (λ other. bytes_eq other.now code) slices → map (λ other. other.now) slices ≡ listed → b ≡ list_any (λ other. bytes_eq other code) listed
any_listed b code slices listed is same = is ∙ any_map code slices ∙ ap (list_any (λ other. bytes_eq other code)) same
