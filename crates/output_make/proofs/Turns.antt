-- One more output of a list.
use Rattle.std.proofs.Common.{◌≡◌, ℕ, ◌+◌, ◌<◌, ◌≤◌, List, [], ◌∷◌, ◌++◌, Bool, length, take, get_or, map, sym, ap, ◌∙◌, append_assoc}
use Rattle.std.specs.Prelude.{filter}
use Rattle.std.proofs.lemmas.List.{take_more, take_all, map-append}
use Rattle.std.proofs.lemmas.List.Elements.{filter-append}

kept_more : {A : Type 0} (p : A → Bool) (xs : List A) (i : ℕ) (x : A) → i < length xs → x ≡ get_or xs i x → filter p (take (i + 1) xs) ≡ filter p (take i xs) ++ filter p (x ∷ [])
kept_more p xs i x lt is =
    ap (filter p) (take_more xs i x lt) ∙ filter-append p (take i xs) (get_or xs i x ∷ []) ∙ ap (λ y. filter p (take i xs) ++ filter p (y ∷ [])) (sym is)

pub made_more : {A B : Type 0} (f : A → B) (p : A → Bool) (xs : List A) (i : ℕ) (x : A) (start now next : List B) → i < length xs → x ≡ get_or xs i x
    → now ≡ start ++ map f (filter p (take i xs)) → next ≡ now ++ map f (filter p (x ∷ [])) → next ≡ start ++ map f (filter p (take (i + 1) xs))
made_more f p xs i x start now next lt is so put =
    put ∙ ap (λ t. t ++ map f (filter p (x ∷ []))) so ∙ append_assoc start (map f (filter p (take i xs))) (map f (filter p (x ∷ [])))
    ∙ ap (λ t. start ++ t) (sym (map-append f (filter p (take i xs)) (filter p (x ∷ [])))) ∙ ap (λ t. start ++ map f t) (sym (kept_more p xs i x lt is))

pub made_end : {A B : Type 0} (f : A → B) (p : A → Bool) (xs : List A) (i : ℕ) (start now : List B) → length xs ≤ i → now ≡ start ++ map f (filter p (take i xs))
    → now ≡ start ++ map f (filter p xs)
made_end f p xs i start now le so = so ∙ ap (λ t. start ++ map f (filter p t)) (take_all i xs le)
