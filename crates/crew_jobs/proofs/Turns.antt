-- One turn of a loop that appends something for each element of a list.
use Rattle.std.proofs.Common.{◌≡◌, ℕ, ◌+◌, ◌<◌, List, [], ◌∷◌, ◌++◌, length, map, take, get_or, sym, ap, ◌∙◌, append_assoc}
use Rattle.std.proofs.lemmas.List.{take_more, take-map, map-append}

-- the image of an element, appended as one element
pub push_image : {A B : Type 0} (f : A → B) (start now next : List B) (xs : List A) (i : ℕ) (d : A) → i < length xs → now ≡ start ++ take i (map f xs) → next ≡ now ++ f (get_or xs i d) ∷ [] → next ≡ start ++ take (i + 1) (map f xs)
push_image f start now next xs i d inside so_far pushed =
    let x = get_or xs i d in
    let more : take (i + 1) (map f xs) ≡ take i (map f xs) ++ f x ∷ [] =
    take-map f (i + 1) xs ∙ ap (map f) (take_more xs i d inside) ∙ map-append f (take i xs) (x ∷ []) ∙ ap (λ t. t ++ f x ∷ []) (sym (take-map f i xs)) in
    pushed ∙ ap (λ t. t ++ f x ∷ []) so_far ∙ append_assoc start (take i (map f xs)) (f x ∷ []) ∙ ap (λ t. start ++ t) (sym more)
