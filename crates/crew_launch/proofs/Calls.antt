-- Requests that are made one after the other.
use Rattle.std.proofs.Common.{◌≡◌, List, ◌++◌, Option, Some, None, Result, Ok, Err, OnOk, ap, ◌∙◌, subst, append_assoc}
use Rattle.crew_launch.specs.Launch.{Adds, SystemCall}

adds_both : (a b c : Option (List SystemCall)) (first second : List SystemCall) → Adds a b first → Adds b c second → Adds a c (first ++ second)
adds_both None None None first second p q = tt
adds_both None None (Some new) first second p q = absurd q
adds_both None (Some mid) c first second p q = absurd p
adds_both (Some old) None c first second p q = absurd p
adds_both (Some old) (Some mid) None first second p q = absurd q
adds_both (Some old) (Some mid) (Some new) first second p q = q ∙ ap (λ calls. calls ++ second) p ∙ append_assoc old first second

-- a request after others, if it isn't refused
pub adds_then : {V E : Type 0} (r : Result V E) (a b c : Option (List SystemCall)) (first second same : List SystemCall) → Adds a b first → second ≡ same
    → OnOk r (Adds b c second) → OnOk r (Adds a c (first ++ same))
adds_then (Ok v) a b c first second same p is q = adds_both a b c first same p (subst (Adds b c) is q)
adds_then (Err e) a b c first second same p is q = tt
