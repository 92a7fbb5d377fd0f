-- One byte further in the loops over a word.
use Rattle.std.proofs.Common.{◌≡◌, ℕ, ◌+◌, ◌<◌, ◌≤◌, Bool, List, ◌∷◌, ◌++◌, Option, Some, None, length, drop, get_or, refl, sym, ap, ◌∙◌, append_assoc}
use Rattle.std.specs.Prelude.{option_map, option_and_then}
use Rattle.std.proofs.lemmas.List.{drop_more}
use Rattle.std.proofs.Math.ListN.{drop_of_length-le}
use Rattle.cachefile.specs.declared.word.Quoting.{Quoting}
use Rattle.cachefile.specs.Word.{value_from, step, added, at_end}

-- what was read, with what is still to be read
abbrev pub left : Bool → List ℕ → Quoting → List ℕ → Option (List ℕ)
left braced now p rest = option_map (λ v. now ++ v) (value_from braced p rest)

mapped_twice : (a b : List ℕ) (o : Option (List ℕ)) → option_map (λ v. a ++ v) (option_map (λ v. b ++ v) o) ≡ option_map (λ v. (a ++ b) ++ v) o
mapped_twice a b None = refl
mapped_twice a b (Some v) = ap (λ t. Some t) (sym (append_assoc a b v))

pub read_byte : (braced : Bool) (p q : Quoting) (b : ℕ) (add bs : List ℕ) → step braced p b ≡ Some (q, add) → value_from braced p (b ∷ bs) ≡ option_map (λ v. add ++ v) (value_from braced q bs)
unfolding value_from
read_byte braced p q b add bs is = ap (λ o. option_and_then (λ s. option_map (λ v. s.1 ++ v) (value_from braced s.0 bs)) o) is

pub stops_at : (braced : Bool) (p : Quoting) (b : ℕ) (bs : List ℕ) → step braced p b ≡ None → value_from braced p (b ∷ bs) ≡ None
unfolding value_from
stops_at braced p b bs is = ap (λ o. option_and_then (λ s. option_map (λ v. s.1 ++ v) (value_from braced s.0 bs)) o) is

pub read_more : (whole : Option (List ℕ)) (braced : Bool) (now next : List ℕ) (p q : Quoting) (adds : Bool) (xs : List ℕ) (i d : ℕ) → i < length xs
    → step braced p (get_or xs i d) ≡ Some (q, added adds (get_or xs i d)) → next ≡ now ++ added adds (get_or xs i d)
    → whole ≡ left braced now p (drop i xs) → whole ≡ left braced next q (drop (i + 1) xs)
read_more whole braced now next p q adds xs i d lt is add h =
    h ∙ ap (λ ys. left braced now p ys) (drop_more xs i d lt)
    ∙ ap (λ o. option_map (λ v. now ++ v) o) (read_byte braced p q (get_or xs i d) (added adds (get_or xs i d)) (drop (i + 1) xs) is)
    ∙ mapped_twice now (added adds (get_or xs i d)) (value_from braced q (drop (i + 1) xs))
    ∙ ap (λ t. left braced t q (drop (i + 1) xs)) (sym add)

pub read_stop : (whole : Option (List ℕ)) (braced : Bool) (now : List ℕ) (p : Quoting) (xs : List ℕ) (i d : ℕ) → i < length xs
    → step braced p (get_or xs i d) ≡ None → whole ≡ left braced now p (drop i xs) → whole ≡ None
read_stop whole braced now p xs i d lt is h =
    h ∙ ap (λ ys. left braced now p ys) (drop_more xs i d lt) ∙ ap (λ o. option_map (λ v. now ++ v) o) (stops_at braced p (get_or xs i d) (drop (i + 1) xs) is)

pub read_end : (whole : Option (List ℕ)) (braced : Bool) (now : List ℕ) (p : Quoting) (xs : List ℕ) (i : ℕ) → length xs ≤ i
    → whole ≡ left braced now p (drop i xs) → whole ≡ option_map (λ v. now ++ v) (at_end p)
unfolding value_from
read_end whole braced now p xs i le h = h ∙ ap (λ ys. left braced now p ys) (drop_of_length-le xs le)
