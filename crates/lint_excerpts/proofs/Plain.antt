-- What plain bytes are, and lists of them.
use Rattle.std.specs.Prelude.{◌≡◌, refl, ℕ, ◌≤◌, ◌<◌, ◌++◌, ◌∷◌, [], List, true}
use Rattle.std.specs.List.{list_all}
use Rattle.std.proofs.lemmas.List.Folds.{list_all-append}
use Rattle.std.proofs.lemmas.Bool.{le-leb, lt-ltb}
use Rattle.lint_excerpts.specs.Plain.{is_plain}

-- A byte from a blank up to a tilde is plain.
pub printable : (b : ℕ) → 32 ≤ b → b < 127 → is_plain b ≡ true
unfolding is_plain
printable b low high = rw (le-leb 32 b low, lt-ltb b 127 high) refl

-- A backslash and an `x` are plain.
pub backslash : is_plain 92 ≡ true
unfolding is_plain
backslash = refl

pub small_x : is_plain 120 ≡ true
unfolding is_plain
small_x = refl

-- Plain bytes and one more are plain bytes.
pub pushed : (xs : List ℕ) (b : ℕ) → list_all is_plain xs ≡ true → is_plain b ≡ true → list_all is_plain (xs ++ b ∷ []) ≡ true
pushed xs b old is = rw (list_all-append is_plain xs (b ∷ []), old, is) refl
