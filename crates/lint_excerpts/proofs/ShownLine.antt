-- The line of an object of printable ASCII is plain.
use Rattle.std.specs.Prelude.{◌≡◌, refl, ℕ, ◌++◌, ◌∷◌, [], List, true}
use Rattle.std.specs.List.{list_all}
use Rattle.std.proofs.lemmas.List.Folds.{list_all-append}
use Rattle.std.proofs.lemmas.Bool.{and_parts}
use Rattle.lint_excerpts.specs.Json.{is_shown}
use Rattle.lint_excerpts.specs.Plain.{is_plain}

-- A byte of printable ASCII is plain.
shown_is_plain : (b : ℕ) → is_shown b ≡ true → is_plain b ≡ true
unfolding is_shown is_plain
shown_is_plain b is = rw is refl

shown_are_plain : (xs : List ℕ) → list_all is_shown xs ≡ true → list_all is_plain xs ≡ true
shown_are_plain [] are = refl
shown_are_plain (b ∷ bs) are = let p = and_parts (is_shown b) (list_all is_shown bs) are in rw (shown_is_plain b p.0, shown_are_plain bs p.1) refl

newline_is_plain : is_plain 10 ≡ true
unfolding is_plain
newline_is_plain = refl

-- So is a line of them.
pub line_is_plain : (line xs : List ℕ) → list_all is_shown xs ≡ true → line ≡ xs ++ 10 ∷ [] → list_all is_plain line ≡ true
line_is_plain line xs are is = rw (is, list_all-append is_plain xs (10 ∷ []), shown_are_plain xs are, newline_is_plain) refl
