-- What a run leaves, if no start was taken.
use Rattle.std.proofs.Common.{◌≡◌, ℕ, zero, suc, ◌+◌, true, false, List, [], ◌∷◌, ◌++◌, length, Result, Ok, Err, inl, inr, refl, sym, ap, ◌∙◌, subst, arith}
use Rattle.std.proofs.lemmas.Bool.Decides.{eqb_tells}
use Rattle.std.specs.Prelude.{◌==◌, IfOk, IfErr, IsErrAnd, replicate}
use Rattle.crew_trait.specs.Events.{Account, replies_in}
use Rattle.crew_trait.specs.declared.reply.Reply.TheVariants.{StartRefused}
use Rattle.engine.specs.Configured.{Ran, RunEnd, outcome_from, IfReport, IfStarts, IsAnswer, IsMeant, artifacts}
use Rattle.engine_frame.specs.Faults.{Fails}
use Rattle.engine_frame.specs.Given.{Accepted, Shows, Starts}
use Rattle.engine_frame.specs.declared.starting.Start.{Start}
use Rattle.engine_frame.specs.declared.fault.Fault.{Fault}
use Rattle.engine_frame.specs.declared.fault.Fault.TheVariants as faults
use Rattle.engine_frame.specs.declared.report.Report.{Report}
use Rattle.meaning.specs.Play.{play, all_jobs, first_refused}
use Rattle.meaning.specs.State.{Run}
use Rattle.output_put.specs.Receipt.{Receipt, with_artifacts}
use Rattle.ac_tree.specs.Script.{Script}
use Rattle.cmd_filter.specs.Faults.{of_run}
use Rattle.cmd_filter.specs.Handed.{IsNotRun, refused, no_memory, IsReported}
use Rattle.cmd_filter.specs.Ran.{RanAlone, IsAlone, refusals}
use Rattle.cmd_filter.specs.declared.fault.FilterFault.{FilterFault}

pub nothing_listed : {A : Type 0} (xs : List A) → (length xs == 0) ≡ true → xs ≡ []
nothing_listed [] h = refl
nothing_listed (x ∷ xs) h =
    elim (eqb_tells (length (x ∷ xs)) 0) [
      | inl w ↦ absurd (omega (arith, w.1))
      | inr w ↦ (let z : false ≡ true = sym w.0 ∙ h in cc)
    ]

none_taken : (base count : ℕ) → replies_in base count [] ≡ replicate count StartRefused
none_taken base zero = refl
none_taken base (suc count) = ap (λ rs. StartRefused ∷ rs) (none_taken (base + 1) count)

alone : (run : Run) (before now : Account) (end : RunEnd) → before.events ≡ [] → now.events ≡ [] → Ran 1 run before now end → RanAlone run end
alone run before now end fresh none r =
    let nothing : r.since ≡ [] = ap (λ es. es ++ r.since) (sym fresh) ∙ sym r.events ∙ none in
    let count : ℕ = length (all_jobs r.groups) in
    let is : replies_in before.attempts count r.since ≡ refusals r.groups = ap (replies_in before.attempts count) nothing ∙ none_taken before.attempts count in
    record {
      groups = r.groups;
      how = r.how;
      meaning = ap (play run) (sym is) ∙ r.meaning;
      outcome = ap (λ rs. outcome_from r.how (first_refused rs)) (sym is) ∙ r.outcome;
    }

is_alone : (script : Script) (start : Start) (before now : Account) (report : Report) → before.events ≡ [] → now.events ≡ [] → IsMeant 1 script start before now report → IsAlone script start report
is_alone script start before now report fresh none m = record { end = m.end; ran = alone _ before now m.end fresh none m.ran; told = m.told }

pub is_reported : (j : Result Accepted Fault) (templates : List (List ℕ × List ℕ)) (before now : Account) (old new : Receipt) (report : Report) → before.events ≡ [] → now.events ≡ [] → old.handed ≡ []
    → IsAnswer j (Ok report) → IfStarts j (λ script start. IfReport (Ok report) (IsMeant 1 script start before now))
    → IfStarts j (λ script start. IfOk (let r : Result Report Fault = Ok report in r) (λ r. new ≡ with_artifacts old (artifacts script start templates r))) → IsReported j templates report new.handed
is_reported (Ok (Starts script start)) templates before now old new report fresh none empty a m h =
    (is_alone script start before now report fresh none m, ap (λ (r : Receipt). r.handed) h ∙ ap (λ l. l ++ artifacts script start templates report) empty)
is_reported (Ok (Shows script settings)) templates before now old new report fresh none empty a m h = cc
is_reported (Err f) templates before now old new report fresh none empty a m h = cc

pub not_run : {A : Type 0} (j : Result Accepted Fault) (f : Fault) (r : Result A FilterFault) → IsAnswer j (Err f) → IsErrAnd r (λ e. e ≡ of_run f) → IfErr r (IsNotRun j)
not_run j f (Ok x) a h = absurd h
not_run j faults.OutOfMemory (Err e) a h = subst (IsNotRun j) (sym h) no_memory
not_run j (faults.PutRefused number report) (Err e) a h = subst (IsNotRun j) (sym h) no_memory
not_run (Err g) f (Err e) a h = subst (IsNotRun (Err g)) (sym h) (refused cc)
not_run (Ok (Shows script settings)) f (Err e) a h = cc
not_run (Ok (Starts script start)) f (Err e) a h = absurd a

-- The same, if a part failed with this fault.
pub not_run_by : {A : Type 0} (f : Fault) (r : Result A FilterFault) (j : Result Accepted Fault) → Fails f j → IsErrAnd r (λ e. e ≡ of_run f) → IfErr r (IsNotRun j)
not_run_by f (Ok x) j is h = absurd h
not_run_by faults.OutOfMemory (Err e) j is h = subst (IsNotRun j) (sym h) no_memory
not_run_by (faults.PutRefused number report) (Err e) j is h = subst (IsNotRun j) (sym h) no_memory
not_run_by f (Err e) j is h = subst (IsNotRun j) (sym h) (refused is)
