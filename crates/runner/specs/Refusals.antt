-- What a command that explains the program says if it refuses what it is asked.
use Rattle.std.specs.Prelude.{◌≡◌, ◌⊎◌, ℕ, Bool, true, List, [], ◌∷◌, Option, codes}
use Rattle.cmd_call.specs.Calls.{ProgramCall, Help, Version, Unknown}
use Rattle.cmd_call.specs.Lines.{SaysLines, error_line}

-- The line of words that the program doesn't know was written, with pages if it is asked why. (own)
abbrev pub IsUsageTold : {E : Type 0} → (E → Option (List ℕ)) → (E → Bool) → E → E → Bool → Type 0
IsUsageTold contents has_failed old new is_asked = SaysLines contents has_failed old new is_asked (error_line (codes "usage") [] ∷ [])

-- Standard output has failed, and the line of it was written, with pages if it is asked why. (own)
abbrev pub IsOutputTold : {E : Type 0} → (E → Option (List ℕ)) → (E → Bool) → E → E → Bool → Bool → Type 0
IsOutputTold contents has_failed old new is_asked is_full = (is_full ≡ true) × SaysLines contents has_failed old new is_asked (error_line (codes "file") (codes "standard output") ∷ [])

-- What was said after a status of 2: for help and the version, the line of the words or of standard output; for words that are no
-- command, the line of the words. (own)
abbrev pub TellsWhy : {E : Type 0} → (E → Option (List ℕ)) → (E → Bool) → E → E → Bool → Bool → ProgramCall → Type 0
TellsWhy contents has_failed old new is_asked is_full (Help words) = IsUsageTold contents has_failed old new is_asked ⊎ IsOutputTold contents has_failed old new is_asked is_full
TellsWhy contents has_failed old new is_asked is_full Version = IsUsageTold contents has_failed old new is_asked ⊎ IsOutputTold contents has_failed old new is_asked is_full
TellsWhy contents has_failed old new is_asked is_full Unknown = IsUsageTold contents has_failed old new is_asked
TellsWhy contents has_failed old new is_asked is_full call = Unit {0}
