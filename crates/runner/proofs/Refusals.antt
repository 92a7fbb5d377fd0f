-- What is said of words that are no command.
use Rattle.std.specs.Prelude.{◌≡◌, ◌⊎◌, ℕ, Bool, true, List, [], Option, codes}
use Rattle.std.proofs.Common.{inl, inr}
use Rattle.cmd_call.specs.Lines.{IsTold, SaysLines, error_line}
use Rattle.cmd_call.proofs.Pages.{line_paged, says_line}
use Rattle.cmd_call.specs.Calls.{ProgramCall, Help, Version, Unknown}
use Rattle.runner.specs.Refusals.{IsOutputTold, IsUsageTold, TellsWhy}

-- The line of the words is told, whatever the call is.
pub usage_told : {E : Type 0} (contents : E → Option (List ℕ)) (has_failed : E → Bool) (old new : E) (is_asked is_full : Bool) (call : ProgramCall)
    → IsUsageTold contents has_failed old new is_asked → TellsWhy contents has_failed old new is_asked is_full call
usage_told contents has_failed old new is_asked is_full (Help words) told = inl told
usage_told contents has_failed old new is_asked is_full Version told = inl told
usage_told contents has_failed old new is_asked is_full Unknown told = told
usage_told contents has_failed old new is_asked is_full call told = tt

-- A line of help was told, and then pages.
pub help_told : {E : Type 0} (contents : E → Option (List ℕ)) (has_failed : E → Bool) (old mid new : E) (is_asked is_full : Bool)
    → IsTold contents has_failed old mid (error_line (codes "usage") []) ⊎ ((is_full ≡ true) × IsTold contents has_failed old mid (error_line (codes "file") (codes "standard output")))
    → SaysLines contents has_failed mid new is_asked [] → IsUsageTold contents has_failed old new is_asked ⊎ IsOutputTold contents has_failed old new is_asked is_full
help_told contents has_failed old mid new is_asked is_full (inl told) pages = inl (line_paged contents has_failed old mid new is_asked _ told pages)
help_told contents has_failed old mid new is_asked is_full (inr told) pages = inr (told.0, line_paged contents has_failed old mid new is_asked _ told.1 pages)

-- The line of the version's text was told.
pub version_told : {E : Type 0} (contents : E → Option (List ℕ)) (has_failed : E → Bool) (old new : E) (is_asked is_full : Bool)
    → (is_full ≡ true) × IsTold contents has_failed old new (error_line (codes "file") (codes "standard output"))
    → IsUsageTold contents has_failed old new is_asked ⊎ IsOutputTold contents has_failed old new is_asked is_full
version_told contents has_failed old new is_asked is_full told = inr (told.0, says_line contents has_failed old new is_asked _ told.1)
