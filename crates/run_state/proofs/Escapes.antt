-- Texts within string literals, byte after byte.
use Rattle.std.proofs.Common.{◌≡◌, ℕ, ◌+◌, ◌<◌, ◌≤◌, List, ◌++◌, length, drop, get_or, sym, ap, ◌∙◌, append_assoc}
use Rattle.std.proofs.lemmas.List.{drop_more}
use Rattle.std.proofs.lemmas.List.{append-nil}
use Rattle.std.proofs.Math.ListN.{drop_of_length-le}
use Rattle.meaning.specs.Package.{escaped, escaped_byte}

pub escaped_more : (out out' text : List ℕ) (i : ℕ) → i < length text → out' ≡ out ++ escaped_byte (get_or text i 0) → out ++ escaped (drop i text) ≡ escaped text → out' ++ escaped (drop (i + 1) text) ≡ escaped text
unfolding escaped
escaped_more out out' text i lt is h =
    ap (λ o. o ++ escaped (drop (i + 1) text)) is ∙ append_assoc out _ _ ∙ ap (λ t. out ++ escaped t) (sym (drop_more text i 0 lt)) ∙ h

pub escaped_end : (out text : List ℕ) (i : ℕ) → length text ≤ i → out ++ escaped (drop i text) ≡ escaped text → out ≡ escaped text
unfolding escaped
escaped_end out text i le h = sym (append-nil out) ∙ ap (λ t. out ++ escaped t) (sym (drop_of_length-le text le)) ∙ h
