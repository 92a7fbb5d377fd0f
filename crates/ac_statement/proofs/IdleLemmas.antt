-- Bare text without effect, byte after byte.
use Rattle.std.proofs.Common.{◌≡◌, ℕ, ◌+◌, ◌<◌, ◌≤◌, Bool, true, false, List, length, drop, get_or, Some, None, ap, ◌∙◌, sym}
use Rattle.std.proofs.lemmas.List.{drop_more}
use Rattle.std.proofs.Math.ListN.{drop_of_length-le}
use Rattle.ac_statement.specs.Idle.{after_byte, is_idle_from}

pub idle_more : (c d : Bool) (i : ℕ) (text : List ℕ) → i < length text → after_byte c (get_or text i 0) ≡ Some d → is_idle_from d (drop (i + 1) text) ≡ is_idle_from c (drop i text)
unfolding is_idle_from
idle_more c d i text lt e =
    sym (ap (is_idle_from c) (drop_more text i 0 lt)
    ∙ ap (λ o. elim o as (λ _. Bool) [ Some comment ↦ is_idle_from comment (drop (i + 1) text) | None ↦ false ]) e)

pub idle_stop : (c : Bool) (i : ℕ) (text : List ℕ) → i < length text → after_byte c (get_or text i 0) ≡ None → is_idle_from c (drop i text) ≡ false
unfolding is_idle_from
idle_stop c i text lt e =
    ap (is_idle_from c) (drop_more text i 0 lt)
    ∙ ap (λ o. elim o as (λ _. Bool) [ Some comment ↦ is_idle_from comment (drop (i + 1) text) | None ↦ false ]) e

pub idle_end : (c : Bool) (i : ℕ) (text : List ℕ) → length text ≤ i → is_idle_from c (drop i text) ≡ true
unfolding is_idle_from
idle_end c i text le = ap (is_idle_from c) (drop_of_length-le text le)
