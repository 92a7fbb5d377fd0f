-- The effect of line continuations on the parts of a word, whose quotes are those of the shell. (POSIX shell, 2.2)
use Rattle.std.specs.Prelude.{◌≡◌, ℕ, false, List, [], ◌∷◌, ◌++◌, ◌==◌}
use Rattle.shellword.specs.Text.{single_quote, backslash, newline, begins_with}
use Rattle.shell_bare.specs.declared.continuation.BareContext.TheVariants.{Word}
use Rattle.shell_bare.specs.Continuation.{IsJoined}

-- The second text is the first without its line continuations, if it isn't in single quotes. (POSIX shell, 2.2.1 and
-- 2.2.3)
pub data IsSpliced : List ℕ → List ℕ → Type 0 where
  nothing : IsSpliced [] []
  continued : {text out : List ℕ} → IsSpliced text out → IsSpliced (backslash ∷ newline ∷ text) out
  escaped : {b : ℕ} {text out : List ℕ} → (b == newline) ≡ false → IsSpliced text out → IsSpliced (backslash ∷ b ∷ text) (backslash ∷ b ∷ out)
  last_backslash : IsSpliced (backslash ∷ []) (backslash ∷ [])
  byte : {b : ℕ} {text out : List ℕ} → (b == backslash) ≡ false → IsSpliced text out → IsSpliced (b ∷ text) (b ∷ out)

-- The text that remains of a part of a word: all of it if it is in single quotes, and otherwise the part without its
-- line continuations. (POSIX shell, 2.2.1 and 2.2.2)
pub data IsLeft : List ℕ → List ℕ → Type 0 where
  in_single : {text : List ℕ} → IsLeft (single_quote ∷ text) (single_quote ∷ text)
  elsewhere : {text left : List ℕ} → begins_with single_quote text ≡ false → IsSpliced text left → IsLeft text left

-- The text, in a word and outside quotes, is a part and then `rest`. What remains of the part, followed by `out`, is the
-- text without its line continuations. (POSIX shell, 2.2)
pub record LeavesPart (text rest out : List ℕ) : Type 0 where
  pub part : List ℕ
  pub left : List ℕ
  pub is : text ≡ part ++ rest
  pub kept : IsLeft part left
  pub joined : IsJoined Word text (left ++ out)
