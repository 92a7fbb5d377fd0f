-- Whether a pattern matches a text, and the next step of the matcher, as functions on lists. All are own.
use Rattle.std.specs.Prelude.{ℕ, Bool, true, false, ◌&&◌, ◌||◌, List, [], ◌∷◌, ◌==◌, if◌then◌else◌}
use Rattle.std.specs.List.{list_any}
use Rattle.shellword.specs.declared.pattern.Piece.{Piece}
use Rattle.shellword.specs.declared.pattern.Piece.TheVariants.{AnyBytes, OneByte, Byte}
use Rattle.shellword.specs.declared.matching.Step.{Step}
use Rattle.shellword.specs.declared.matching.Step.TheVariants.{Star, Taken, End, Stuck}

-- Some suffix of the text passes the test.
abbrev pub some_rest : (List ℕ → Bool) → List ℕ → Bool
some_rest test [] = test []
some_rest test (b ∷ bs) = test (b ∷ bs) || some_rest test bs

-- Whether the pattern matches the text.
unfoldable pub matching : List Piece → List ℕ → Bool
matching [] [] = true
matching [] (b ∷ bs) = false
matching (AnyBytes ∷ pieces) text = some_rest (matching pieces) text
matching (OneByte ∷ pieces) [] = false
matching (OneByte ∷ pieces) (b ∷ bs) = matching pieces bs
matching (Byte c ∷ pieces) [] = false
matching (Byte c ∷ pieces) (b ∷ bs) = (b == c) && matching pieces bs

-- Whether one of the patterns matches the text.
abbrev pub matches_any : List (List Piece) → List ℕ → Bool
matches_any patterns text = list_any (λ pattern. matching pattern text) patterns

-- The next step of the matcher if these pieces and this text are left.
abbrev pub step_of : List Piece → List ℕ → Step
step_of [] [] = End
step_of [] (b ∷ bs) = Stuck
step_of (AnyBytes ∷ pieces) text = Star
step_of (OneByte ∷ pieces) [] = Stuck
step_of (OneByte ∷ pieces) (b ∷ bs) = Taken
step_of (Byte c ∷ pieces) [] = Stuck
step_of (Byte c ∷ pieces) (b ∷ bs) = if b == c then Taken else Stuck
