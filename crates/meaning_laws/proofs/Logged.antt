-- The children in the log.
use Rattle.std.proofs.Common.{◌≡◌, ℕ, ◌+◌, Option, Some, None, List, [], ◌∷◌, ◌++◌, length, codes, Bool, false, refl, ◌∙◌, subst, ⊎_elim, sym}
use Rattle.std.proofs.lemmas.Bool.{cases_Bool}
use Rattle.std.proofs.lemmas.List.{append-nil}
use Rattle.crew_jobs.specs.declared.job.Job.{Job}
use Rattle.crew_trait.specs.declared.reply.Reply.{Reply}
use Rattle.deftable.specs.declared.note.Stream.{Stream}
use Rattle.deftable.specs.declared.note.Stream.TheVariants.{Out, Err}
use Rattle.meaning.specs.State.{State, piece, with_note, with_child, without_variable, How, Goes_on, Cut, Run, Ends, Asks, then_run, ended, as_is}
use Rattle.meaning.specs.Asking.{success, only_reply, after_child}
use Rattle.meaning.specs.Tests.{broken}
use Rattle.meaning.specs.Play.{first_number, refused_after, with_cut_line, cut_line, last_words}
use Rattle.meaning.specs.Meaning.{meaning}
use Rattle.meaning.specs.Forms.{FormTest}
use Rattle.meaning.specs.Batches.{AreBatched, asking, jobs_in, asks_all, committed, batched}
use Rattle.meaning_laws.specs.Logged.{children_of, paired, Logs, ChildrenAreLogged}
use Rattle.meaning_laws.specs.Batched.{lacks_compiler}
use Rattle.meaning_laws.proofs.BatchEntries.{said, added}
use Rattle.meaning_laws.proofs.BatchLemmas.{batch_commits, batch_stops}
use Rattle.meaning_laws.proofs.Statements.{Children, AllSteps, meaning_holds}

abbrev kids : State → List (Job × Reply)
kids st = children_of st.log

told_kids : (stream : Stream) (text : List ℕ) (st : State) → kids (with_note stream text st) ≡ kids st
told_kids stream text st = said st.log (piece stream text)

then_logs : (b : List (Job × Reply)) (r : Run) (f : State → Run) → Logs b r → ((st : State) → Logs (kids st) (f st)) → Logs b (then_run r f)
then_logs b (Ends Goes_on st) f h k = subst (λ x. Logs x (f st)) h (k st)
then_logs b (Ends _ st) f h k = h
then_logs b (Asks jobs ask) f h k = λ replies len. then_logs (b ++ paired jobs replies) (ask replies) f (h replies len) k

ended_logs : (b : List (Job × Reply)) (early : How → State → State) (r : Run) → Logs b r → ((how : How) (st : State) → kids (early how st) ≡ kids st) → Logs b (ended early r)
ended_logs b early (Ends how st) h e = e how st ∙ h
ended_logs b early (Asks jobs ask) h e = λ replies len. ended_logs (b ++ paired jobs replies) early (ask replies) (h replies len) e

broken_kids : (name : List ℕ) (how : How) (st : State) → kids (broken name how st) ≡ kids st
broken_kids name Cut st = told_kids Out (codes "refused\n") (without_variable name st)
broken_kids name _ st = refl

heard_logs : (answer : Option Bool) (st : State) (go : Bool → State → Run) → ((b : Bool) (now : State) → Logs (kids now) (go b now)) → Logs (kids st) (after_child as_is answer st go)
heard_logs None st go k = refl
heard_logs (Some b) st go k = k b st

child_logs : Children (λ st run. Logs (kids st) run)
child_logs job st go k =
    λ replies len.
    let now = with_child job (only_reply replies) st in
    subst (λ x. Logs x (after_child as_is (success (only_reply replies)) now go)) (added st.log job (only_reply replies)) (heard_logs (success (only_reply replies)) now go k)

-- A batch, with a compiler and without one.
asks_all_logs : (b : List (Job × Reply)) (jobs : List Job) (next : List Reply → Run) → ((replies : List Reply) → length replies ≡ length jobs → Logs (b ++ paired jobs replies) (next replies)) → Logs b (asks_all jobs next)
asks_all_logs b [] next h = subst (λ l. Logs l (next [])) (append-nil b) (h [] refl)
asks_all_logs b (job ∷ jobs) next h = h

batch_logs : (tests : List FormTest) → AreBatched tests → (st : State) → Logs (kids st) (batched tests st)
batch_logs tests all st =
    let asks = asking 1 [] tests st in
    ⊎_elim
    (λ lacks. let s = batch_stops tests st all lacks in subst (Logs (kids st)) (sym s.is) s.logged)
    (λ has. asks_all_logs (kids st) (jobs_in asks) (λ replies. committed st asks replies false st)
    (λ replies len. let c = batch_commits tests st replies all has len in subst (Logs (kids st ++ paired (jobs_in asks) replies)) (sym c.is) c.logged))
    (cases_Bool (lacks_compiler st))

steps_log : AllSteps (λ st run. Logs (kids st) run)
steps_log = record {
  steps = record {
    goes = λ st. refl;
    completes = λ st. refl;
    stops = λ status st. refl;
    tells = λ stream text st run h. subst (λ l. Logs l run) (told_kids stream text st) h;
    variables = λ name value st run h. h;
    definitions = λ name value st run h. h;
    children = child_logs;
    guards = λ name st run e h. ended_logs (kids st) (broken name) run h (broken_kids name);
    joins = λ st run rest h k. then_logs (kids st) run rest h k;
  };
  batches = batch_logs;
}

-- The line of a cut.
cut_kids : (refused : Option ℕ) (st : State) → kids (with_cut_line refused st) ≡ kids st
cut_kids None st = refl
cut_kids (Some number) st = told_kids Err (cut_line number) st

last_logs : (b : List (Job × Reply)) (before : ℕ) (refused : Option ℕ) (r : Run) → Logs b r → Logs b (last_words before refused r)
last_logs b before refused (Ends Cut st) h = cut_kids refused st ∙ h
last_logs b before refused (Ends _ st) h = h
last_logs b before refused (Asks jobs ask) h =
    λ replies len. last_logs (b ++ paired jobs replies) (before + length jobs) (first_number refused (refused_after before replies)) (ask replies) (h replies len)

pub children_are_logged : ChildrenAreLogged
children_are_logged script st = last_logs (kids st) 0 None (meaning script st) (meaning_holds (λ first run. Logs (kids first) run) steps_log script st)
