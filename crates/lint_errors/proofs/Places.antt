-- The place of what is there instead of AC_INIT.
use Rattle.std.proofs.Common.{ℕ, ◌≤◌, List, length, inr, refl, arith}
use Rattle.ac_statement.specs.declared.fault.ParseFault.TheVariants as parse
use Rattle.lint_errors.specs.Errors.{IsFaultPlace}

pub of_init : (text : List ℕ) (place : ℕ) → place ≤ length text → IsFaultPlace text parse.NoInit place
of_init text place within = inr (refl, inr (omega arith, within))
