-- Line continuations: a backslash before a newline, both of which are removed from bare text. (POSIX shell, 2.2.1)
use Rattle.std.specs.Prelude.{◌≡◌, ℕ, Bool, true, false, ◌&&◌, List, [], ◌∷◌, ◌==◌, if◌then◌else◌}
use Rattle.shellword.specs.Text.{single_quote, double_quote, backslash, newline}
use Rattle.shell_bare.specs.declared.continuation.BareContext.{BareContext}
use Rattle.shell_bare.specs.declared.continuation.BareContext.TheVariants.{Start, Word, Single, Double, Comment}
use Rattle.shell_bare.specs.Text.{hash, is_part_end}

-- The contexts in which a backslash quotes the byte after it. (POSIX shell, 2.2.1 to 2.2.3)
abbrev pub escapes : BareContext → Bool
escapes Start = true
escapes Word = true
escapes Double = true
escapes Single = false
escapes Comment = false

-- The context after a byte outside quotes that begins no comment. (POSIX shell, 2.2 and 2.3)
abbrev pub after_bare : ℕ → BareContext
after_bare b = if is_part_end b then Start else (if b == single_quote then Single else (if b == double_quote then Double else Word))

-- The context after a byte that no backslash quotes. (POSIX shell, 2.2 and 2.3)
abbrev pub following : BareContext → ℕ → BareContext
following Start b = if b == hash then Comment else after_bare b
following Word b = after_bare b
following Single b = if b == single_quote then Word else Single
following Double b = if b == double_quote then Word else Double
following Comment b = if b == newline then Start else Comment

-- The context after a byte that a backslash quotes. (POSIX shell, 2.2 and 2.3)
abbrev pub after_quoted : BareContext → BareContext
after_quoted Start = Word
after_quoted p = p

-- The second text is the first without its line continuations, if the first byte is in this context. (POSIX shell,
-- 2.2.1)
pub data IsJoined : BareContext → List ℕ → List ℕ → Type 0 where
  at_end : {p : BareContext} → IsJoined p [] []
  -- A backslash before a newline: both are removed.
  continued : {p : BareContext} {rest out : List ℕ} → escapes p ≡ true → IsJoined p rest out → IsJoined p (backslash ∷ newline ∷ rest) out
  -- A backslash quotes any other byte, and both are kept; a backslash at the end is kept too.
  quoted : {p : BareContext} {b : ℕ} {rest out : List ℕ} → escapes p ≡ true → (b == newline) ≡ false → IsJoined (after_quoted p) rest out
      → IsJoined p (backslash ∷ b ∷ rest) (backslash ∷ b ∷ out)
  last : {p : BareContext} → escapes p ≡ true → IsJoined p (backslash ∷ []) (backslash ∷ [])
  -- Any other byte is kept.
  other : {p : BareContext} {b : ℕ} {rest out : List ℕ} → (b == backslash && escapes p) ≡ false → IsJoined (following p b) rest out
      → IsJoined p (b ∷ rest) (b ∷ out)
