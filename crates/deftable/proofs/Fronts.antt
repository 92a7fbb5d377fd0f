-- What `strip_prefix` returns.
use Rattle.std.proofs.Common.{◌≡◌, ℕ, ◌+◌, true, false, List, length, take, drop, Option, Some, None, Bor, ap, refl}
use Rattle.std.specs.Prelude.{option_map, bytes_eq, if◌then◌else◌}
use Rattle.std.specs.Option.{MatchOption}

pub stripped : (front text : List ℕ) (r : Option (Bor (List ℕ)))
    → MatchOption r (bytes_eq (take (length front) text) front ≡ false) (λ x. (bytes_eq (take (length front) text) front ≡ true) × (x.now ≡ drop (length front) text) × (length x.now + length front ≡ length text))
    → option_map (λ t. t.now) r ≡ (if bytes_eq (take (length front) text) front then Some (drop (length front) text) else None)
stripped front text None lacks = rw lacks refl
stripped front text (Some x) has = rw (has.0) (ap (λ t. Some t) has.1)
