-- The line that was told, by what is known of a log, of a record and of words.
use Rattle.std.proofs.Common.{◌≡◌, ◌⊎◌, inl, inr, ℕ, Bool, false, List, [], ◌∷◌, ◌++◌, map, Option, Some, None, refl, ap, sym, subst, ◌∙◌}
use Rattle.std.specs.Prelude.{codes}
use Rattle.file_disk.specs.Known.{Known}
use Rattle.cfglog.specs.Log.{is_log}
use Rattle.cmd_call.specs.Lines.{IsTold, error_line}
use Rattle.cmd_call.specs.Supplies.{ReadsWhole}
use Rattle.status_record.specs.FaultText.{fault_text}
use Rattle.status_record.specs.Reading.{Fails, record_in}
use Rattle.status_record.specs.declared.fault.RecordFault.{RecordFault}
use Rattle.status_record.specs.declared.fault.RecordFault.TheVariants as records
use Rattle.cmd_why.specs.Lines.{Line, checks, is_run}
use Rattle.cmd_why.specs.Views.{check_seen}
use Rattle.cmd_why.specs.declared.lines.Check.{Check}
use Rattle.cmd_why.specs.Quoting.{arguments_in}
use Rattle.cmd_why.specs.Refusals.{IsLost, IsNoLog, IsSaidForWord, IsSaidOfLog, IsSaidOfRecord, IsSaidOfRun, IsSaidOfText, Tells, record_line, no_memory, unwritten, lost, no_log, unread, unmade, of_text, faulty, no_arguments, line_lost, no_record, run_lost, of_record}

-- A line of another kind is told if each of the one kind is one of the other.
other : {E : Type 0} (contents : E → Option (List ℕ)) (has_failed : E → Bool) (old new : E) (P Q : List ℕ → Type 0) → ((line : List ℕ) → P line → Q line)
    → Tells contents has_failed old new P → Tells contents has_failed old new Q
other contents has_failed old new P Q from told = (told.0, from told.0 told.1, told.2)

-- ---- what is lost

pub output_lost : {E : Type 0} (contents : E → Option (List ℕ)) (has_failed : E → Bool) (old new : E) → IsTold contents has_failed old new (error_line (codes "file") (codes "standard output"))
    → Tells contents has_failed old new IsLost
output_lost contents has_failed old new told = (_, unwritten, told)

-- ---- a log

-- The lines have nothing of a run, by their checks.
pub nothing_of_run : (lines : List Line) (items slice : List Check) → slice ≡ items → map check_seen items ≡ checks lines → is_run (map check_seen slice) lines ≡ false → is_run (checks lines) lines ≡ false
nothing_of_run lines items slice lent are none =
    subst (λ list. is_run list lines ≡ false) (ap (λ list. map check_seen list) lent ∙ are) none

pub lost_text : {E : Type 0} (contents : E → Option (List ℕ)) (has_failed : E → Bool) (old new : E) (name text : List ℕ) (status : ℕ)
    → (status ≡ 2 → Tells contents has_failed old new IsLost) → status ≡ 2 → Tells contents has_failed old new (IsSaidOfText name text)
lost_text contents has_failed old new name text status told two = other contents has_failed old new IsLost (IsSaidOfText name text) (λ line l. lost l) (told two)

pub no_log_told : {E : Type 0} (contents : E → Option (List ℕ)) (has_failed : E → Bool) (old new : E) (name text : List ℕ) → IsNoLog text
    → IsTold contents has_failed old new (error_line (codes "log") name) → Tells contents has_failed old new (IsSaidOfText name text)
no_log_told contents has_failed old new name text is told = (_, no_log is, told)

pub memory_of_text : {E : Type 0} (contents : E → Option (List ℕ)) (has_failed : E → Bool) (old new : E) (name text : List ℕ)
    → IsTold contents has_failed old new (error_line (codes "memory") []) → Tells contents has_failed old new (IsSaidOfText name text)
memory_of_text contents has_failed old new name text told = (_, lost no_memory, told)

pub text_told : {E : Type 0} (contents : E → Option (List ℕ)) (has_failed : E → Bool) (old new : E) (files : Option Known) (name text slice : List ℕ) (status : ℕ) → slice ≡ text → ReadsWhole files name (Some text)
    → (status ≡ 2 → Tells contents has_failed old new (IsSaidOfText name slice)) → status ≡ 2 → Tells contents has_failed old new (IsSaidOfLog files name)
text_told contents has_failed old new files name text slice status lent read told two =
    other contents has_failed old new (IsSaidOfText name slice) (IsSaidOfLog files name) (λ line s. of_text slice (subst (λ (t : List ℕ). ReadsWhole files name (Some t)) (sym lent) read) s) (told two)

pub unread_told : {E : Type 0} (contents : E → Option (List ℕ)) (has_failed : E → Bool) (old new : E) (files : Option Known) (name : List ℕ) → ReadsWhole files name None
    → IsTold contents has_failed old new (error_line (codes "file") name) → Tells contents has_failed old new (IsSaidOfLog files name)
unread_told contents has_failed old new files name read told = (_, unread read, told)

pub memory_of_log : {E : Type 0} (contents : E → Option (List ℕ)) (has_failed : E → Bool) (old new : E) (files : Option Known) (name : List ℕ)
    → IsTold contents has_failed old new (error_line (codes "memory") []) → Tells contents has_failed old new (IsSaidOfLog files name)
memory_of_log contents has_failed old new files name told = (_, unmade no_memory, told)

-- The words name no log.
pub usage_told : {E : Type 0} (contents : E → Option (List ℕ)) (has_failed : E → Bool) (old new : E) (files : Option Known) (name : Option (List ℕ)) → name ≡ None
    → IsTold contents has_failed old new (error_line (codes "usage") []) → Tells contents has_failed old new (IsSaidForWord files name)
usage_told contents has_failed old new files name is told = subst (λ n. Tells contents has_failed old new (IsSaidForWord files n)) (sym is) (_, refl, told)

-- ---- a record

-- The line of a fault other than that memory ran out.
pub fault_line_is : (fault : RecordFault) → (fault ≡ records.OutOfMemory → ⊥) → record_line fault ≡ error_line (codes "record " ++ fault_text fault) []
fault_line_is records.OutOfMemory ne = absurd (ne refl)
fault_line_is fault ne = refl

pub lost_record : {E : Type 0} (contents : E → Option (List ℕ)) (has_failed : E → Bool) (old new : E) (text : List ℕ) (status : ℕ)
    → (status ≡ 2 → Tells contents has_failed old new IsLost) → status ≡ 2 → Tells contents has_failed old new (IsSaidOfRecord text)
lost_record contents has_failed old new text status told two = other contents has_failed old new IsLost (IsSaidOfRecord text) (λ line l. line_lost l) (told two)

pub none_told : {E : Type 0} (contents : E → Option (List ℕ)) (has_failed : E → Bool) (old new : E) (text : List ℕ) → arguments_in (record_in text) ≡ None
    → IsTold contents has_failed old new (error_line (codes "record has no arguments") []) → Tells contents has_failed old new (IsSaidOfRecord text)
none_told contents has_failed old new text is told = (_, no_arguments is, told)

pub fault_told : {E : Type 0} (contents : E → Option (List ℕ)) (has_failed : E → Bool) (old new : E) (text : List ℕ) (fault : RecordFault) → Fails fault (record_in text)
    → IsTold contents has_failed old new (record_line fault) → Tells contents has_failed old new (IsSaidOfRecord text)
fault_told contents has_failed old new text fault fails told = (_, faulty fault fails, told)

pub record_told : {E : Type 0} (contents : E → Option (List ℕ)) (has_failed : E → Bool) (old new : E) (files : Option Known) (text slice : List ℕ) (status : ℕ) → slice ≡ text → ReadsWhole files (codes "config.status") (Some text)
    → (status ≡ 2 → Tells contents has_failed old new (IsSaidOfRecord slice)) → status ≡ 2 → Tells contents has_failed old new (IsSaidOfRun files)
record_told contents has_failed old new files text slice status lent read told two =
    other contents has_failed old new (IsSaidOfRecord slice) (IsSaidOfRun files) (λ line s. of_record slice (subst (λ (t : List ℕ). ReadsWhole files (codes "config.status") (Some t)) (sym lent) read) s) (told two)

pub no_record_told : {E : Type 0} (contents : E → Option (List ℕ)) (has_failed : E → Bool) (old new : E) (files : Option Known) → ReadsWhole files (codes "config.status") None
    → IsTold contents has_failed old new (error_line (codes "usage") []) → Tells contents has_failed old new (IsSaidOfRun files)
no_record_told contents has_failed old new files read told = (_, no_record read, told)

pub memory_of_run : {E : Type 0} (contents : E → Option (List ℕ)) (has_failed : E → Bool) (old new : E) (files : Option Known)
    → IsTold contents has_failed old new (error_line (codes "memory") []) → Tells contents has_failed old new (IsSaidOfRun files)
memory_of_run contents has_failed old new files told = (_, run_lost no_memory, told)
