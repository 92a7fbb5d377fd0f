-- One round of pieces.
use Rattle.std.proofs.Common.{◌≡◌, ℕ, zero, suc, ◌+◌, ◌<◌, true, false, cond, List, [], ◌∷◌, length, drop, Option, Some, None, refl, sym, ap, subst, ◌∙◌, arith}
use Rattle.std.specs.Prelude.{MatchOption}
use Rattle.ac_parts.specs.declared.kind.Part.{Part}
use Rattle.port_match.specs.declared.pattern.Piece.{Piece}
use Rattle.port_match.specs.Matcher.{At, are_next, pieces_to, then_to, rounds}

rounds_step : (turns : List Part) (i : ℕ) (pieces : List Piece) (at : At) → i < length turns → rounds (drop i turns) pieces at ≡ cond (are_next pieces at.left) (then_to (rounds (drop (i + 1) turns) pieces) (pieces_to pieces at)) (Some at)
rounds_step [] i pieces at lt = absurd (omega (arith, lt))
rounds_step (turn ∷ turns) zero pieces at lt = refl
rounds_step (turn ∷ turns) (suc i) pieces at lt =
    let n : suc (i + 1) ≡ suc i + 1 = omega arith in
    rounds_step turns i pieces at (omega (arith, lt)) ∙ ap (λ k. cond (are_next pieces at.left) (then_to (rounds (drop k (turn ∷ turns)) pieces) (pieces_to pieces at)) (Some at)) n

pub many_stops : (turns : List Part) (i : ℕ) (pieces : List Piece) (at : At) (start : Option At) → i < length turns → rounds (drop i turns) pieces at ≡ start → are_next pieces at.left ≡ false → start ≡ Some at
many_stops turns i pieces at start lt e no_next =
    sym e ∙ rounds_step turns i pieces at lt ∙ ap (λ b. cond b (then_to (rounds (drop (i + 1) turns) pieces) (pieces_to pieces at)) (Some at)) no_next

pub many_goes : (turns : List Part) (i : ℕ) (pieces : List Piece) (at : At) (start o : Option At) → i < length turns → rounds (drop i turns) pieces at ≡ start → are_next pieces at.left ≡ true → pieces_to pieces at ≡ o
    → then_to (rounds (drop (i + 1) turns) pieces) o ≡ start
many_goes turns i pieces at start o lt e is_next to =
    sym (rounds_step turns i pieces at lt ∙ ap (λ b. cond b (then_to (rounds (drop (i + 1) turns) pieces) (pieces_to pieces at)) (Some at)) is_next ∙ ap (then_to (rounds (drop (i + 1) turns) pieces)) to) ∙ e

-- Where a step leads whose answer is known.
pub none_of : {X : Type 0} (to : Option At) (f : X → At) (o : Option X) → o ≡ None → MatchOption o (to ≡ None) (λ r. to ≡ Some (f r)) → to ≡ None
none_of {X} to f o is m = let P : Option X → Type 0 = λ v. MatchOption v (to ≡ None) (λ r. to ≡ Some (f r)) in subst P is m

pub some_of : {X : Type 0} (to : Option At) (f : X → At) (o : Option X) (x : X) → o ≡ Some x → MatchOption o (to ≡ None) (λ r. to ≡ Some (f r)) → to ≡ Some (f x)
some_of {X} to f o x is m = let P : Option X → Type 0 = λ v. MatchOption v (to ≡ None) (λ r. to ≡ Some (f r)) in subst P is m
