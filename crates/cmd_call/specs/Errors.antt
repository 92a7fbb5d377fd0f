-- What a run prints on standard error.
use Rattle.std.specs.Prelude.{ℕ, true, List, [], ◌∷◌, ◌++◌, Option, flat_map, take, if◌then◌else◌}
use Rattle.std.specs.Io.KnownBytes.{Appends}
use Rattle.cfglog.specs.Texts.{is_shown}
use Rattle.deftable.specs.declared.note.Note.{Note}
use Rattle.deftable.specs.declared.note.Stream.TheVariants.{Err as ToErr}

-- The text of a message for standard error, and nothing of another message. (own)
abbrev pub error_of : Note → List (List ℕ)
error_of note = if is_shown ToErr true note.stream then note.text ∷ [] else []

-- The texts of the messages for standard error, in order. Quiet doesn't drop them. (Autoconf's manual, "configure
-- Invocation")
abbrev pub errors_of : List Note → List (List ℕ)
errors_of notes = flat_map error_of notes

-- The bytes consist of a front of each of these texts, in order. (own)
pub data AreFronts : List (List ℕ) → List ℕ → Type 0 where
  none : AreFronts [] []
  more : (n : ℕ) (text : List ℕ) {texts : List (List ℕ)} {bytes : List ℕ} → AreFronts texts bytes → AreFronts (text ∷ texts) (take n text ++ bytes)

-- What a stream is known to hold grew by a front of each of these texts, in order: a write that fails cuts its text
-- short. (own)
pub record AreTold (old new : Option (List ℕ)) (texts : List (List ℕ)) : Type 0 where
  pub bytes : List ℕ
  pub fronts : AreFronts texts bytes
  pub appended : Appends old new bytes
