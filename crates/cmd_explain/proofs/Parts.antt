-- Parts of a text.
use Rattle.std.proofs.Common.{◌≡◌, ℕ, Bool, ◌||◌, List, [], ◌∷◌, Option, Some, None, Bor, refl, ap, ◌∙◌}
use Rattle.std.specs.Prelude.{map, is_some}
use Rattle.std.specs.List.{list_any}
use Rattle.bstr.specs.Text.{SplitsOnce}
use Rattle.memchr.specs.Find.{first_of, matches}
use Rattle.cmd_explain.specs.Shortages.{has_one, is_part}

-- Whether `split_once_str` finds something.
pub part_is : (word text : List ℕ) (r : Option (Bor (List ℕ) × Bor (List ℕ))) → SplitsOnce text word (first_of (matches text word 0)) r → is_some r ≡ is_part word text
unfolding is_part
part_is word text None none = rw none refl
part_is word text (Some p) (k, found, before, after) = rw found refl

any_map : (text : List ℕ) (slices : List (Bor (List ℕ))) → list_any (λ word. is_part word.now text) slices ≡ has_one (map (λ word. word.now) slices) text
any_map text [] = refl
any_map text (slice ∷ more) = ap (λ b. is_part slice.now text || b) (any_map text more)

pub any_listed : (b : Bool) (text : List ℕ) (slices : List (Bor (List ℕ))) (listed : List (List ℕ))
    → b ≡ list_any (λ word. is_part word.now text) slices → map (λ word. word.now) slices ≡ listed → b ≡ has_one listed text
any_listed b text slices listed is same = is ∙ any_map text slices ∙ ap (λ l. has_one l text) same
