-- What is said on standard error of a source whose template is not printed. All of this is own.
use Rattle.std.specs.Prelude.{◌≡◌, ◌⊎◌, ℕ, Bool, true, List, [], Option, Some, None, codes}
use Rattle.std.specs.Io.KnownBytes.{Appends}
use Rattle.cmd_call.specs.Calls.{is_input}
use Rattle.cmd_call.specs.Lines.{IsTold, error_line}
use Rattle.lint_sources.specs.Sources.{IsNamed, IsUnread}
use Rattle.file_disk.specs.Known.{Known}
use Rattle.lint_errors.specs.Errors.{IsAccepted}

-- The line that memory ran out, or, if standard output has failed, that it didn't take the text.
pub data IsLost (is_full : Bool) : List ℕ → Type 0 where
  no_memory : IsLost is_full (error_line (codes "memory") [])
  unwritten : is_full ≡ true → IsLost is_full (error_line (codes "file") (codes "standard output"))

-- What is said of a source that has this text: the line of what was lost, or a text about its errors, if acrun doesn't accept it.
pub data IsSaidOf (is_full : Bool) (text : List ℕ) : List ℕ → Type 0 where
  lost : {line : List ℕ} → IsLost is_full line → IsSaidOf is_full text line
  wrong : (page : List ℕ) → (IsAccepted text → ⊥) → IsSaidOf is_full text page

-- What is said of the source of a name: that it can't be read, if it can't; that memory ran out; or what is said of its text.
pub data IsSaidFor (files : Option Known) (is_full is_stream : Bool) (name : List ℕ) : List ℕ → Type 0 where
  unread : IsUnread files is_stream name → IsSaidFor files is_full is_stream name (error_line (codes "file") name)
  without : {line : List ℕ} → IsLost is_full line → IsSaidFor files is_full is_stream name line
  of_text : {said : List ℕ} (text directory : List ℕ) → IsNamed files is_stream name text directory → IsSaidOf is_full text said → IsSaidFor files is_full is_stream name said

-- A text of this kind was said, or the stream has failed.
abbrev pub Says : {E : Type 0} → (E → Option (List ℕ)) → (E → Bool) → E → E → (List ℕ → Type 0) → Type 0
Says contents has_failed old new is_so = (has_failed new ≡ true) ⊎ ((said : List ℕ) × is_so said × IsTold contents has_failed old new said)

-- What is said of wrong words is the line for them; and of a source that is asked for, what is said of its name.
abbrev pub IsSaid : Option Known → Bool → Option (List ℕ) → List ℕ → Type 0
IsSaid files is_full None said = said ≡ error_line (codes "usage") []
IsSaid files is_full (Some name) said = IsSaidFor files is_full (is_input name) name said

-- This is all that was said: nothing, if it is empty, and then the stream is as it was.
abbrev pub HasSaid : {E : Type 0} → (E → Option (List ℕ)) → E → E → List ℕ → Type 0
HasSaid contents old new said = ((said ≡ []) × (new ≡ old)) ⊎ Appends (contents old) (contents new) said
