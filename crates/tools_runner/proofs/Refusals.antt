-- What is said of words that are no command.
use Rattle.std.specs.Prelude.{ℕ, Bool, List, Option}
use Rattle.std.proofs.Common.{inl}
use Rattle.cmd_call.specs.Calls.{ProgramCall, Header, Lint, Port, Why, Help, Version}
use Rattle.tools_runner.specs.Refusals.{IsUsageTold, TellsWhy}

-- The line of the words is told, whatever the call is.
pub usage_told : {E : Type 0} (contents : E → Option (List ℕ)) (has_failed : E → Bool) (old new : E) (is_full : Bool) (call : ProgramCall)
    → IsUsageTold contents has_failed old new → TellsWhy contents has_failed old new is_full call
usage_told contents has_failed old new is_full (Help words) told = inl told
usage_told contents has_failed old new is_full Version told = inl told
usage_told contents has_failed old new is_full (Lint words) told = λ e. told
usage_told contents has_failed old new is_full (Port words) told = λ e. told
usage_told contents has_failed old new is_full (Header words) told = λ e. told
usage_told contents has_failed old new is_full (Why words) told = tt
usage_told contents has_failed old new is_full call told = told
