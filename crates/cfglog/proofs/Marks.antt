-- Lines that are marked one after the other.
use Rattle.std.proofs.Common.{◌≡◌, ℕ, List, [], ◌∷◌, ◌++◌, refl, ap, sym, ◌∙◌}
use Rattle.cfglog.specs.declared.forms.LineKind.{LineKind}
use Rattle.cfglog.specs.declared.forms.LineKind.TheVariants.{Message}
use Rattle.cfglog.specs.Log.{part_after, marked, last_part}

pub last_append : (part : LineKind) (xs ys : List (List ℕ)) → last_part part (xs ++ ys) ≡ last_part (last_part part xs) ys
unfolding last_part
last_append part [] ys = refl
last_append part (x ∷ xs) ys = last_append (part_after part x) xs ys

pub marked_append : (part : LineKind) (xs ys : List (List ℕ)) → marked part (xs ++ ys) ≡ marked part xs ++ marked (last_part part xs) ys
unfolding marked last_part
marked_append part [] ys = refl
marked_append part (x ∷ xs) ys = ap (λ rest. (part_after part x, x) ∷ rest) (marked_append (part_after part x) xs ys)

-- one line more
pub last_more : (part : LineKind) (xs : List (List ℕ)) (x : List ℕ) → last_part part (xs ++ x ∷ []) ≡ part_after (last_part part xs) x
unfolding last_part
last_more part xs x = last_append part xs (x ∷ [])

pub marked_more : (part : LineKind) (xs : List (List ℕ)) (x : List ℕ)
    → marked part (xs ++ x ∷ []) ≡ marked part xs ++ (part_after (last_part part xs) x, x) ∷ []
unfolding marked
marked_more part xs x = marked_append part xs (x ∷ [])

-- what is read of some lines, and of one more
pub line_taken : (read more : List (LineKind × List ℕ)) (before part : LineKind) (lines : List (List ℕ)) (x : List ℕ)
    → before ≡ last_part Message lines → read ≡ marked Message lines
    → part ≡ part_after before x → more ≡ read ++ (part, x) ∷ []
    → (part ≡ last_part Message (lines ++ x ∷ [])) × (more ≡ marked Message (lines ++ x ∷ []))
line_taken read more before part lines x was read_is is more_is =
    let here : part ≡ part_after (last_part Message lines) x = is ∙ ap (λ p. part_after p x) was in (
      here ∙ sym (last_more Message lines x),
      more_is ∙ ap (λ r. r ++ (part, x) ∷ []) read_is ∙ ap (λ p. marked Message lines ++ (p, x) ∷ []) here ∙ sym (marked_more Message lines x),
    )
