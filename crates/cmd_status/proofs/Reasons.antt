-- The lines of what happened, by what was told.
use Rattle.std.proofs.Common.{◌≡◌, ℕ, Bool, false, List, [], ◌∷◌, ◌++◌, Option, Some, None, Result, Ok, Err, sym, subst, refl}
use Rattle.std.specs.Prelude.{codes, decimal, not}
use Rattle.std.specs.List.{concat}
use Rattle.std.specs.Io.KnownBytes.{Appends}
use Rattle.cmd_call.specs.Errors.{AreTold, errors_of}
use Rattle.cmd_call.specs.Lines.{IsBegun, IsTold, SaysLines, error_line}
use Rattle.cmd_call.proofs.Pages.{line_paged, says_lines, says_nothing, says_then}
use Rattle.cmd_status.specs.Printed.{printed}
use Rattle.cmd_status.specs.Reasons.{answer_line, put_line, run_line}
use Rattle.deftable.specs.declared.note.Note.{Note}
use Rattle.engine_frame.specs.declared.fault.Fault.{Fault}
use Rattle.engine_frame.specs.declared.fault.Fault.TheVariants as faults
use Rattle.engine_frame.specs.declared.fault.RemakeFault.{RemakeFault}
use Rattle.fault_spots.specs.FaultLines.{fault_line, remake_line}
use Rattle.options.specs.declared.fault.PreciousFault.{PreciousFault}

-- The line of a fault that is none of a precious variable has no name of one.
pub other_line : (names : Option (List (List ℕ))) (f : Fault) → ((p : PreciousFault) → f ≡ faults.Precious p → ⊥) → run_line names f ≡ fault_line f
other_line None f other = refl
other_line (Some ns) (faults.Precious p) other = absurd (other p refl)
other_line (Some ns) f other = refl

-- ---- what a run leaves

-- The text was taken whole if this is so, and otherwise a front of it.
pub taken_unless : (start now : Option (List ℕ)) (has_failed is_cut is_taken : Bool) (text : List ℕ)
    → is_cut ≡ not is_taken → IsBegun start now has_failed is_cut text → IsBegun start now has_failed (not is_taken) text
taken_unless start now has_failed is_cut is_taken text is begun = subst (λ b. IsBegun start now has_failed b text) is begun

-- What is printed of a run.
pub printed_unless : (start now : Option (List ℕ)) (has_failed is_cut is_taken quiet : Bool) (lent messages : List Note) (handed lines : List ℕ)
    → lent ≡ messages → handed ≡ lines → is_cut ≡ not is_taken → IsBegun start now has_failed is_cut (printed quiet lent handed) → IsBegun start now has_failed (not is_taken) (printed quiet messages lines)
printed_unless start now has_failed is_cut is_taken quiet lent messages handed lines same same_lines is begun =
    subst (λ ls. IsBegun start now has_failed (not is_taken) (printed quiet messages ls)) same_lines
    (subst (λ ms. IsBegun start now has_failed (not is_taken) (printed quiet ms handed)) same (taken_unless start now has_failed is_cut is_taken (printed quiet lent handed) is begun))

-- The messages of a run were printed, and pages, and then lines were said.
pub report_said : {E : Type 0} (contents : E → Option (List ℕ)) (has_failed : E → Bool) (old mid paged new : E) (is_asked : Bool) (lent messages : List Note) (lines : List (List ℕ)) → lent ≡ messages
    → AreTold (contents old) (contents mid) (errors_of lent) → (has_failed mid ≡ false → Appends (contents old) (contents mid) (concat (errors_of lent))) → (has_failed mid ≡ false → has_failed old ≡ false)
    → SaysLines contents has_failed mid paged is_asked [] → SaysLines contents has_failed paged new is_asked lines → SaysLines contents has_failed old new is_asked (errors_of messages ++ lines)
report_said contents has_failed old mid paged new is_asked lent messages lines is told whole kept pages more =
    subst (λ ms. SaysLines contents has_failed old new is_asked (errors_of ms ++ lines)) is
    (says_then contents has_failed old mid new is_asked (errors_of lent) lines
    (says_lines contents has_failed old mid is_asked (errors_of lent) (record { told = told; whole = whole; kept = kept }))
    (says_then contents has_failed mid paged new is_asked [] lines pages more))

-- No put was refused.
pub no_put_said : {E : Type 0} (contents : E → Option (List ℕ)) (has_failed : E → Bool) (e : E) (is_asked : Bool) (refused : Option ℕ) → refused ≡ None → SaysLines contents has_failed e e is_asked (put_line refused)
no_put_said contents has_failed e is_asked refused is = subst (λ r. SaysLines contents has_failed e e is_asked (put_line r)) (sym is) (says_nothing contents has_failed e is_asked)

-- The line of a refused put was told, and pages.
pub put_said : {E : Type 0} (contents : E → Option (List ℕ)) (has_failed : E → Bool) (old mid new : E) (is_asked : Bool) (refused : Option ℕ) (number : ℕ) → refused ≡ Some number
    → IsTold contents has_failed old mid (error_line (codes "put " ++ decimal number) []) → SaysLines contents has_failed mid new is_asked [] → SaysLines contents has_failed old new is_asked (put_line refused)
put_said contents has_failed old mid new is_asked refused number is told pages =
    subst (λ r. SaysLines contents has_failed old new is_asked (put_line r)) (sym is) (line_paged contents has_failed old mid new is_asked _ told pages)

-- ---- outputs that are made again

-- They have no fault.
pub no_fault_said : {E : Type 0} (contents : E → Option (List ℕ)) (has_failed : E → Bool) (e : E) (is_asked : Bool) (answer : Result ℕ RemakeFault) (n : ℕ) → answer ≡ Ok n → SaysLines contents has_failed e e is_asked (answer_line answer)
no_fault_said contents has_failed e is_asked answer n is = subst (λ a. SaysLines contents has_failed e e is_asked (answer_line a)) (sym is) (says_nothing contents has_failed e is_asked)

-- The line of their fault was told.
pub fault_said : {E : Type 0} (contents : E → Option (List ℕ)) (has_failed : E → Bool) (old new : E) (is_asked : Bool) (answer : Result ℕ RemakeFault) (f : RemakeFault) → answer ≡ Err f
    → SaysLines contents has_failed old new is_asked (remake_line f ∷ []) → SaysLines contents has_failed old new is_asked (answer_line answer)
fault_said contents has_failed old new is_asked answer f is told = subst (λ a. SaysLines contents has_failed old new is_asked (answer_line a)) (sym is) told
