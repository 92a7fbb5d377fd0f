-- What a command writes to its streams.
use Rattle.std.specs.Prelude.{ℕ, Bool, List, [], ◌++◌, Option, if◌then◌else◌}
use Rattle.cfglog.specs.Texts.{messages_of}
use Rattle.cmd_call.specs.Lines.{IsBegun, SaysLines}
use Rattle.deftable.specs.declared.note.Note.{Note}
use Rattle.deftable.specs.declared.note.Stream.TheVariants.{Out}

-- What is printed on standard output: the messages of the run, and the lines on its outputs, which quiet drops. (own)
abbrev pub printed : Bool → List Note → List ℕ → List ℕ
printed quiet notes lines = messages_of Out quiet notes ++ (if quiet then [] else lines)

-- A text for standard output, and lines for standard error. (own)
pub record Written : Type 0 where
  pub out : List ℕ
  pub lines : List (List ℕ)

-- These lines alone. (own)
abbrev pub only_lines : List (List ℕ) → Written
only_lines lines = record { out = []; lines = lines }

-- Standard output took the text, or a front of it if it was cut, as then it has failed. Standard error took the lines, with pages
-- among them if it is asked why, and nothing else, or a front of each if it has failed. (own)
pub record IsWritten {W E : Type 0} (taken : W → Option (List ℕ)) (is_full : W → Bool) (said : E → Option (List ℕ)) (has_failed : E → Bool) (output now : W) (old new : E) (is_asked is_cut : Bool) (written : Written) : Type 0 where
  pub prints : IsBegun (taken output) (taken now) (is_full now) is_cut written.out
  pub says : SaysLines said has_failed old new is_asked written.lines

-- This is so of what is written, and it is written in this way. (own)
abbrev pub WritesSo : {W E : Type 0} → (W → Option (List ℕ)) → (W → Bool) → (E → Option (List ℕ)) → (E → Bool) → W → W → E → E → Bool → Bool → (Written → Type 0) → Type 0
WritesSo taken is_full said has_failed output now old new is_asked is_cut is_so =
    (written : Written) × is_so written × IsWritten taken is_full said has_failed output now old new is_asked is_cut written
