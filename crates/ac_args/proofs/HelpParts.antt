-- A text with AS_HELP_STRING in it, from a byte on.
use Rattle.std.proofs.Common.{◌≡◌, ℕ, ◌+◌, ◌<◌, ◌≤◌, Bool, true, false, ◌||◌, List, length, drop, sym, ap, ◌∙◌}
use Rattle.std.specs.Prelude.{nat_eq}
use Rattle.std.specs.List.{starts_with}
use Rattle.std.proofs.lemmas.List.{drop_more}
use Rattle.std.proofs.Math.ListN.{drop_of_length-le}
use Rattle.ac_args.specs.Help.{has_part, help_string_name}

abbrev has : List ℕ → Bool
has xs = has_part help_string_name xs

abbrev starts : List ℕ → Bool
starts xs = starts_with nat_eq xs help_string_name

pub part_more : (whole : Bool) (xs : List ℕ) (i : ℕ) → i < length xs → starts (drop i xs) ≡ false → whole ≡ has (drop i xs) → whole ≡ has (drop (i + 1) xs)
unfolding has_part
part_more whole xs i lt is h =
    let e = drop_more xs i 0 lt in
    h ∙ ap has e ∙ ap (λ b. b || has (drop (i + 1) xs)) (sym (ap starts e) ∙ is)

pub part_stop : (whole : Bool) (xs : List ℕ) (i : ℕ) → i < length xs → starts (drop i xs) ≡ true → whole ≡ has (drop i xs) → whole ≡ true
unfolding has_part
part_stop whole xs i lt is h =
    let e = drop_more xs i 0 lt in
    h ∙ ap has e ∙ ap (λ b. b || has (drop (i + 1) xs)) (sym (ap starts e) ∙ is)

pub part_end : (whole : Bool) (xs : List ℕ) (i : ℕ) → length xs ≤ i → whole ≡ has (drop i xs) → whole ≡ false
unfolding has_part
part_end whole xs i le h = h ∙ ap has (drop_of_length-le xs le)
