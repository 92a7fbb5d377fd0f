-- The line of a fault, by what was told.
use Rattle.std.proofs.Common.{◌≡◌, ℕ, Bool, List, Option, sym, subst}
use Rattle.cmd_call.specs.Lines.{IsTold}

-- A text that was told is the line of the fault.
pub told_as : {E : Type 0} (contents : E → Option (List ℕ)) (has_failed : E → Bool) (old new : E) (wanted text : List ℕ) → wanted ≡ text → IsTold contents has_failed old new text → IsTold contents has_failed old new wanted
told_as contents has_failed old new wanted text is told = subst (IsTold contents has_failed old new) (sym is) told
