-- A loop that adds what a function makes of each element.
use Rattle.std.proofs.Common.{◌≡◌, ℕ, ◌+◌, ◌<◌, List, [], ◌∷◌, ◌++◌, length, map, take, get_or, sym, ap, ◌∙◌}
use Rattle.std.specs.List.{flat_map}
use Rattle.std.proofs.lemmas.List.{take_more, map-append, flat_map_more}

-- one turn
pub one_more : {C X Y : Type 0} (see : C → X) (f : X → List Y) (items : List C) (i : ℕ) (x : C) (start now next : List Y) → i < length items → x ≡ get_or items i x
    → now ≡ start ++ flat_map f (map see (take i items)) → next ≡ now ++ f (see x) → next ≡ start ++ flat_map f (map see (take (i + 1) items))
one_more see f items i x start now next less is held e =
    e ∙ ap (λ l. l ++ f (see x)) held
    ∙ flat_map_more f start (map see (take i items)) (see x)
    ∙ ap (λ l. start ++ flat_map f l) (sym (ap (λ l. map see l) (take_more items i x less) ∙ map-append see (take i items) (get_or items i x ∷ []) ∙ ap (λ y. map see (take i items) ++ see y ∷ []) (sym is)))
