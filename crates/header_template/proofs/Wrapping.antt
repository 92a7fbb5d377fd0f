-- Words that are put one after the other.
use Rattle.std.proofs.Common.{◌≡◌, ℕ, ◌+◌, ◌<◌, List, [], ◌∷◌, ◌++◌, length, drop, get_or, Bor, map, refl, ap, ◌∙◌, sym}
use Rattle.std.proofs.lemmas.List.{drop_more, append_assoc}
use Rattle.header_template.specs.Pages.{gap, room_after, wrapped}

-- What is still to be put after one more word.
pub on_word : (words : List (Bor (List ℕ))) (i : ℕ) (word : Bor (List ℕ)) (room next : ℕ) (old now all : List ℕ) → i < length words → word ≡ get_or words i word
    → now ≡ old ++ (gap room word.now ++ word.now) → next ≡ room_after room word.now
    → old ++ wrapped room (map (λ w. w.now) (drop i words)) ≡ all
    → now ++ wrapped next (map (λ w. w.now) (drop (i + 1) words)) ≡ all
on_word words i word room next old now all lt is put after h =
    let rest = map (λ w. w.now) (drop (i + 1) words) in
    let at : wrapped room (map (λ w. w.now) (drop i words)) ≡ gap room word.now ++ (word.now ++ wrapped (room_after room word.now) rest) =
    ap (λ l. wrapped room (map (λ w. w.now) l)) (drop_more words i word lt) ∙ ap (λ w. wrapped room (w.now ∷ rest)) (sym is) in
    ap (λ r. now ++ wrapped r rest) after ∙ ap (λ l. l ++ wrapped (room_after room word.now) rest) put
    ∙ append_assoc old (gap room word.now ++ word.now) _ ∙ ap (λ l. old ++ l) (append_assoc (gap room word.now) word.now _ ∙ sym at) ∙ h
