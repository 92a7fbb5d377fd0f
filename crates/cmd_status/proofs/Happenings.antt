-- What happened, and what follows from its exit status.
use Rattle.std.proofs.Common.{◌≡◌, ◌≢◌, ℕ, Bool, true, false, ◌&&◌, List, [], ◌∷◌, ◌++◌, Option, Some, None, Err, refl, sym, subst, ap, ◌∙◌}
use Rattle.std.specs.Prelude.{codes, is_none, not, if◌then◌else◌}
use Rattle.std.specs.Io.KnownBytes.{Appends}
use Rattle.std.proofs.lemmas.List.{append-nil}
use Rattle.std.proofs.lemmas.Bool.{and_parts}
use Rattle.cmd_call.specs.Errors.{errors_of}
use Rattle.cmd_call.specs.Lines.{IsBegun, SaysLines}
use Rattle.cmd_call.proofs.Lines.{none_begun}
use Rattle.cmd_status.specs.Happened.{after_fault, is_all_done, is_output_cut, is_whole, left_status, status_after}
use Rattle.cmd_status.specs.Left.{IsFinished}
use Rattle.cmd_status.specs.Printed.{IsWritten, only_lines}
use Rattle.cmd_status.specs.Reasons.{left_lines, lines_after, put_line, run_line, unwritten}
use Rattle.cmd_status.specs.declared.happened.Happened.{Happened}
use Rattle.cmd_status.specs.declared.happened.Happened.TheVariants.{NotRead, NotRecorded, Refused, OutOfMemory, Shown, Ran}
use Rattle.cmd_status.specs.declared.happened.RunLeft.{RunLeft}
use Rattle.engine_frame.specs.declared.fault.Fault.{Fault}
use Rattle.engine_frame.specs.declared.fault.Fault.TheVariants as faults
use Rattle.engine_frame.specs.declared.report.Report.{Report}
use Rattle.file_disk.specs.Known.{Known}
use Rattle.file_texts.specs.Held.{Held}

-- ---- what is whole

none_is : (o : Option ℕ) → is_none o ≡ true → o ≡ None
none_is None e = refl
none_is (Some n) e = absurd (cc)

-- What holds if nothing of what a run leaves is missing.
pub record Whole (left : RunLeft) : Type 0 where
  pub unrefused : left.refused ≡ None
  pub printed : left.is_printed ≡ true
  pub logged : left.is_logged ≡ true

pub whole_parts : (left : RunLeft) → is_whole left ≡ true → Whole left
whole_parts left e =
    let both = and_parts (is_none left.refused && left.is_printed) left.is_logged e in
    let first = and_parts (is_none left.refused) left.is_printed both.0 in
    record { unrefused = none_is left.refused first.0; printed = first.1; logged = both.1 }

whole_status : (b : Bool) (status : ℕ) → b ≡ true → (if b then status else 2) ≡ status
whole_status true status e = refl
whole_status false status e = absurd (cc)

-- Then the exit status is that of the outcome.
pub status_whole : (left : RunLeft) → is_whole left ≡ true → left_status left ≡ left.status
status_whole left e = whole_status (is_whole left) left.status e

-- If a put was refused, something is missing.
pub not_whole : (left : RunLeft) (number : ℕ) → left.refused ≡ Some number → is_whole left ≡ false
not_whole left number e =
    subst (λ (o : Option ℕ). ((is_none o && left.is_printed) && left.is_logged) ≡ false) (sym e) refl

-- ---- by the exit status

other_than : (b : Bool) (status : ℕ) → (if b then status else 2) ≢ 2 → b ≡ true
other_than true status ne = refl
other_than false status ne = absurd (ne refl)

-- If the exit status is not 2, all was done.
pub done_unless : (happened : Happened) → status_after happened ≢ 2 → is_all_done happened ≡ true
done_unless NotRead ne = absurd (ne refl)
done_unless (NotRecorded f) ne = absurd (ne refl)
done_unless (Refused f) ne = absurd (ne refl)
done_unless OutOfMemory ne = absurd (ne refl)
done_unless (Shown is_printed) ne = other_than is_printed 0 ne
done_unless (Ran left) ne = other_than (is_whole left) left.status ne

-- After a fault not all is done.
pub unfinished : (f : Fault) → is_all_done (after_fault f) ≡ false
unfinished faults.OutOfMemory = refl
unfinished f = refl

-- ---- a run that is finished

-- Any fault but a refused put is told alone.
pub told_alone : {D : Type 0} (known : D → Option Known) (quiet : Bool) (old new : Held D) (precious : List (List ℕ)) (f : Fault) (happened : Happened)
    → ((number : ℕ) (report : Report) → f ≡ faults.PutRefused number report → ⊥) → happened ≡ after_fault f → new ≡ old → IsFinished known quiet old new precious (Err f) happened (only_lines (run_line (Some precious) f ∷ []))
told_alone known quiet old new precious (faults.PutRefused number report) happened other is same = absurd (other number report refl)
told_alone known quiet old new precious f happened other is same = (is, same, refl)

uncut_after : (f : Fault) → is_output_cut (after_fault f) ≡ false
uncut_after faults.OutOfMemory = refl
uncut_after f = refl

-- After a fault nothing is printed.
pub only_said : {W E : Type 0} (taken : W → Option (List ℕ)) (is_full : W → Bool) (said : E → Option (List ℕ)) (has_failed : E → Bool) (output : W) (old new : E) (is_asked is_cut : Bool) (lines : List (List ℕ))
    → is_cut ≡ false → SaysLines said has_failed old new is_asked lines → IsWritten taken is_full said has_failed output output old new is_asked is_cut (only_lines lines)
only_said taken is_full said has_failed output old new is_asked is_cut lines is says = record {
  prints = subst (λ b. IsBegun (taken output) (taken output) (is_full output) b []) (sym is) (none_begun (taken output) (is_full output));
  says = says;
}

pub uncut : {W E : Type 0} (taken : W → Option (List ℕ)) (is_full : W → Bool) (said : E → Option (List ℕ)) (has_failed : E → Bool) (output : W) (old new : E) (is_asked : Bool) (f : Fault) (happened : Happened) (lines : List (List ℕ))
    → happened ≡ after_fault f → SaysLines said has_failed old new is_asked lines → IsWritten taken is_full said has_failed output output old new is_asked (is_output_cut happened) (only_lines lines)
uncut taken is_full said has_failed output old new is_asked f happened lines is says =
    only_said taken is_full said has_failed output old new is_asked (is_output_cut happened) lines (ap is_output_cut is ∙ uncut_after f) says

-- If nothing is missing, all was printed, and nothing but the messages is said.
pub all_printed : (left : RunLeft) (start now : Option (List ℕ)) (has_failed : Bool) (text : List ℕ) → Whole left → IsBegun start now has_failed (not left.is_printed) text → Appends start now text
all_printed left start now has_failed text whole begun = begun.whole (ap not whole.printed)

lines_whole : (left : RunLeft) → Whole left → left_lines left ≡ []
lines_whole left whole =
    ap (λ b. unwritten (codes "standard output") b ++ (put_line left.refused ++ unwritten (codes "config.log") left.is_logged)) whole.printed
    ∙ ap (λ r. put_line r ++ unwritten (codes "config.log") left.is_logged) whole.unrefused
    ∙ ap (λ b. unwritten (codes "config.log") b) whole.logged

pub all_said : {E : Type 0} (left : RunLeft) (report : Report) (contents : E → Option (List ℕ)) (has_failed : E → Bool) (old new : E) (is_asked : Bool)
    → Whole left → SaysLines contents has_failed old new is_asked (lines_after report left) → SaysLines contents has_failed old new is_asked (errors_of report.messages)
all_said left report contents has_failed old new is_asked whole says =
    subst (SaysLines contents has_failed old new is_asked) (ap (λ ls. errors_of report.messages ++ ls) (lines_whole left whole) ∙ append-nil (errors_of report.messages)) says
