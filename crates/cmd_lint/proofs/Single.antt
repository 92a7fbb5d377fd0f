-- Words that name at most one source, from a word on.
use Rattle.std.proofs.Common.{◌≡◌, ℕ, ◌+◌, ◌<◌, ◌≤◌, Bool, true, false, List, [], length, drop, get_or, refl, ap, ◌∙◌}
use Rattle.std.specs.Prelude.{not}
use Rattle.std.specs.List.{list_any}
use Rattle.std.proofs.lemmas.List.{drop_more}
use Rattle.std.proofs.Math.ListN.{drop_of_length-le}
use Rattle.cmd_lint.specs.Status.{is_name, names_one}

pub one_more : (whole : Bool) (words : List (List ℕ)) (i : ℕ) (word : List ℕ) → i < length words → word ≡ get_or words i [] → is_name word ≡ false → whole ≡ names_one (drop i words) → whole ≡ names_one (drop (i + 1) words)
unfolding names_one
one_more whole words i word lt e is h = h ∙ ap names_one (drop_more words i [] lt) ∙ rw (← e, is) refl

pub one_stop : (whole : Bool) (words : List (List ℕ)) (i : ℕ) (word : List ℕ) → i < length words → word ≡ get_or words i [] → is_name word ≡ true → whole ≡ names_one (drop i words) → whole ≡ not (list_any is_name (drop (i + 1) words))
unfolding names_one
one_stop whole words i word lt e is h = h ∙ ap names_one (drop_more words i [] lt) ∙ rw (← e, is) refl

pub one_end : (whole : Bool) (words : List (List ℕ)) (i : ℕ) → length words ≤ i → whole ≡ names_one (drop i words) → whole ≡ true
unfolding names_one
one_end whole words i le h = h ∙ ap names_one (drop_of_length-le words le)
