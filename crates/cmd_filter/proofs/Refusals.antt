-- Errors of the filter and of its parts.
use Rattle.std.proofs.Common.{◌≡◌, ◌≢◌, ℕ, List, Option, Some, None, Result, Ok, Err, refl, sym, subst, ◌∙◌}
use Rattle.std.specs.Prelude.{IfOk, IfErr, IfSome, IsErrAnd}
use Rattle.ac_statement.specs.declared.fault.ParseFault.{ParseFault}
use Rattle.ac_statement.specs.declared.fault.ParseFault.TheVariants as parse_faults
use Rattle.ac_statement.specs.Reading.{Fails}
use Rattle.acparse.specs.Profile.{source_of}
use Rattle.acparse.specs.Source.{IsSource, IsSourceFault}
use Rattle.engine_frame.specs.Faults.{of_parse}
use Rattle.engine_frame.specs.Given.{Accepted}
use Rattle.engine_frame.specs.declared.fault.Fault.{Fault}
use Rattle.file_texts.specs.Parted.{IsParted}
use Rattle.file_texts.specs.declared.input_fault.ReadFault.{ReadFault}
use Rattle.file_texts.specs.declared.input_fault.ReadFault.TheVariants as reads
use Rattle.ac_tree.specs.Script.{Script}
use Rattle.cmd_filter.specs.Faults.{of_run}
use Rattle.cmd_filter.specs.Filtered.{IsRun, IsFiltered, IsInputFault, IsRefused, fault, unread, unwritten, memory, parse, not_run, no_memory_to_parse}
use Rattle.cmd_filter.specs.Handed.{IsNotRun, judged_alone, templates_of, no_memory}
use Rattle.cmd_filter.specs.declared.fault.FilterFault.{FilterFault}
use Rattle.cmd_filter.specs.declared.fault.FilterFault.TheVariants.{Read, Write, OutOfMemory}

-- Memory ran out.
pub memory_not_run : {A : Type 0} (j : Result Accepted Fault) (r : Result A FilterFault) → IsErrAnd r (λ e. e ≡ OutOfMemory) → IfErr r (IsNotRun j)
memory_not_run j (Ok x) h = absurd h
memory_not_run j (Err e) h = subst (IsNotRun j) (sym h) no_memory

pub parse_refused : {A : Type 0} (input source template : List ℕ) (f : ParseFault) (r : Result A FilterFault) → IsParted input source template → Fails f (source_of source) → (f ≢ parse_faults.OutOfMemory → IsSourceFault source f)
    → IsErrAnd r (λ e. e ≡ of_run (of_parse f)) → IfErr r (IsInputFault input)
parse_refused input source template f (Ok x) parted exact bad h = absurd h
parse_refused input source template parse_faults.OutOfMemory (Err e) parted exact bad h = subst (IsInputFault input) (sym h) no_memory_to_parse
parse_refused input source template f (Err e) parted exact bad h = subst (IsInputFault input) (sym h) (parse parted (λ e. cc) exact (bad (λ e. cc)))

pub run_found : {A : Type 0} (input source template : List ℕ) (s : Script) (r : Result A FilterFault) (text errors : A → List ℕ) (status : A → ℕ) → IsParted input source template → IsSource source s
    → IfOk r (λ a. IsRun s template (text a) (errors a) (status a)) → IfOk r (λ a. IsFiltered input (text a) (errors a) (status a))
run_found input source template s (Ok a) text errors status parted is h = record { source = source; template = template; parted = parted; statements = s; is_source = is; run = h }
run_found input source template s (Err e) text errors status parted is h = tt

pub not_run_refused : {A : Type 0} (input source template : List ℕ) (s : Script) (r : Result A FilterFault) → IsParted input source template → IsSource source s
    → IfErr r (IsNotRun (judged_alone s (templates_of s template))) → IfErr r (IsInputFault input)
not_run_refused input source template s (Ok x) parted is h = tt
not_run_refused input source template s (Err e) parted is h = not_run parted is h

-- The input is the text that was read.
whole_is : (o : Option (List ℕ)) (text items : List ℕ) (says : List ℕ → Type 0) → text ≡ items → IfSome o (λ input. items ≡ input) → says text → IfSome o says
whole_is None text items says whole same h = tt
whole_is (Some input) text items says whole same h = subst says (whole ∙ same) h

pub whole_ok : {A E : Type 0} (r : Result A E) (o : Option (List ℕ)) (text items : List ℕ) (says : A → List ℕ → Type 0) → text ≡ items → IfSome o (λ input. items ≡ input) → IfOk r (λ a. says a text)
    → IfOk r (λ a. IfSome o (says a))
whole_ok (Ok a) o text items says whole same h = whole_is o text items (says a) whole same h
whole_ok (Err e) o text items says whole same h = tt

pub whole_err : {A E : Type 0} (r : Result A E) (o : Option (List ℕ)) (text items : List ℕ) (says : List ℕ → E → Type 0) → text ≡ items → IfSome o (λ input. items ≡ input) → IfErr r (says text)
    → IfErr r (λ e. IfSome o (λ input. says input e))
whole_err (Ok a) o text items says whole same h = tt
whole_err (Err e) o text items says whole same h = whole_is o text items (λ input. says input e) whole same h

pub read_refused : {A : Type 0} (o : Option (List ℕ)) (f : ReadFault) (r : Result A FilterFault) → IsErrAnd r (λ e. (f ≡ reads.Read → e ≡ Read) × (f ≡ reads.OutOfMemory → e ≡ OutOfMemory))
    → IfErr r (λ e. IfSome o (λ input. IsRefused input e))
read_refused o f (Ok x) h = absurd h
read_refused None f (Err e) h = tt
read_refused (Some input) reads.Read (Err e) h = subst (IsRefused input) (sym (h.0 refl)) unread
read_refused (Some input) reads.OutOfMemory (Err e) h = subst (IsRefused input) (sym (h.1 refl)) memory
