-- Bare text without its line continuations, as a function on lists. All of it is own.
use Rattle.std.specs.Prelude.{ℕ, Bool, true, false, ◌&&◌, List, [], ◌∷◌, ◌++◌, ◌==◌, if◌then◌else◌}
use Rattle.shellword.specs.Text.{backslash, newline}
use Rattle.shell_bare.specs.declared.continuation.BareContext.{BareContext}
use Rattle.shell_bare.specs.declared.continuation.BareContext.TheVariants.{Start}
use Rattle.shell_bare.specs.declared.continuation.State.{State}
use Rattle.shell_bare.specs.Continuation.{escapes, following, after_quoted}

-- A state: the context of a byte, and whether a backslash quotes it.
abbrev pub state : BareContext → Bool → State
state place escaped = record { place = place; escaped = escaped }

-- The bytes that remain of a byte, with the backslash that quotes it.
abbrev pub written : State → ℕ → List ℕ
written s b =
    if s.escaped then (if b == newline then [] else backslash ∷ b ∷ [])
    else (if b == backslash && escapes s.place then [] else b ∷ [])

-- The state after a byte.
abbrev pub next : State → ℕ → State
next s b =
    if s.escaped then (if b == newline then state s.place false else state (after_quoted s.place) false)
    else (if b == backslash && escapes s.place then state s.place true else state (following s.place b) false)

-- The bytes that remain at the end of the text.
abbrev pub bytes_left : State → List ℕ
bytes_left s = if s.escaped then backslash ∷ [] else []

-- The rest of bare text without its line continuations, from a state on.
unfoldable pub joined_from : State → List ℕ → List ℕ
joined_from s [] = bytes_left s
joined_from s (b ∷ bs) = written s b ++ joined_from (next s b) bs

-- Bare text without its line continuations.
unfoldable pub joined : List ℕ → List ℕ
joined text = joined_from (state Start false) text
