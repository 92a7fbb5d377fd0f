-- One of some patterns matches a text: the relation and the search for it.
use Rattle.std.proofs.Common.{◌≡◌, ℕ, Bool, true, List, [], ◌∷◌, ◌↔◌, ◌∙◌, IsTrue, sym, inl, inr, refl}
use Rattle.std.specs.List.{list_any}
use Rattle.std.proofs.lemmas.Bool.{or_cases, or_right}
use Rattle.shellword.specs.declared.pattern.Piece.{Piece}
use Rattle.shellword.specs.Matching.{MatchesAny, this, another}
use Rattle.shellword.specs.Matcher.{matching, matches_any}
use Rattle.shellword.proofs.Matcher.{matches-matching, matching-matches}

any-found : {patterns : List (List Piece)} {text : List ℕ} → MatchesAny patterns text → list_any (λ pattern. matching pattern text) patterns ≡ true
any-found (this h) = rw (matches-matching h) refl
any-found (another {pattern} {others} {text} h) = or_right (matching pattern text) (list_any (λ p. matching p text) others) (any-found h)

found-any : (patterns : List (List Piece)) (text : List ℕ) → list_any (λ pattern. matching pattern text) patterns ≡ true → MatchesAny patterns text
found-any [] text h = absurd cc
found-any (p ∷ ps) text h =
    elim (or_cases (matching p text) (list_any (λ p. matching p text) ps) h) [
      | inl e ↦ this (matching-matches p text e)
      | inr e ↦ another (found-any ps text e)
    ]

pub any_matches : (patterns : List (List Piece)) (text : List ℕ) (found : Bool) → found ≡ matches_any patterns text → IsTrue found ↔ MatchesAny patterns text
any_matches patterns text found e = (λ h. found-any patterns text (sym e ∙ h), λ h. e ∙ any-found h)
