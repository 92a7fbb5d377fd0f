-- What is found from a place where nothing is open.
use Rattle.std.proofs.Common.{◌≡◌, ℕ, ◌-◌, ◌≤◌, ◌==◌, true, List, [], ◌∷◌, length, take, Some, refl, subst, arith}
use Rattle.std.proofs.lemmas.Bool.{eqb-true}
use Rattle.ac_parts.specs.declared.kind.Part.{Part}
use Rattle.port_match.specs.declared.pattern.Pat.{Pat}
use Rattle.port_match.specs.declared.pattern.Bound.{Bound}
use Rattle.port_match.specs.Matches.{IsMatch}
use Rattle.port_match.specs.Matcher.{matched, at_of}
use Rattle.port_match.proofs.Sound.{match_sound}

pub nil_of : (xs : List ℕ) → (length xs == 0) ≡ true → xs ≡ []
nil_of [] e = refl
nil_of (x ∷ xs) e = absurd (omega (arith, eqb-true (length (x ∷ xs)) 0 e))

pub match_found : (text : List ℕ) (pats : List Pat) (parts rest : List Part) (ends : List ℕ) (bounds : List Bound) → matched text pats (at_of parts [] []) ≡ Some (at_of rest ends bounds) → ends ≡ []
    → (length parts - length rest ≤ length parts) × IsMatch text pats (take (length parts - length rest) parts) bounds
match_found text pats parts rest ends bounds e none =
    let found = match_sound text pats parts rest bounds (subst (λ es. matched text pats (at_of parts [] []) ≡ Some (at_of rest es bounds)) none e) in
    (omega arith, found.1)
