-- A run of statements is cut exactly if a reply is refused.
use Rattle.std.proofs.Common.{◌≡◌, ℕ, suc, Option, Some, None, List, [], ◌∷◌, ◌++◌, length, take, drop, Bool, true, false, cond, refl, sym, ap, ◌∙◌, subst, ⊎_elim}
use Rattle.std.specs.Prelude.{◌||◌, option_map}
use Rattle.std.proofs.lemmas.Bool.{cases_Bool}
use Rattle.std.proofs.lemmas.List.{length-take-le}
use Rattle.crew_jobs.specs.declared.job.Job.{Job}
use Rattle.crew_trait.specs.declared.reply.Reply.{Reply}
use Rattle.meaning.specs.State.{State, with_child, How, Goes_on, Stopped, Cut, Run, Ends, Asks, then_run, ended, as_is}
use Rattle.meaning.specs.Asking.{success, after_child}
use Rattle.meaning.specs.Tests.{broken}
use Rattle.meaning.specs.Forms.{FormTest}
use Rattle.meaning.specs.Batches.{AreBatched, asking, jobs_in, asks_all, batched}
use Rattle.meaning.specs.Meaning.{meaning}
use Rattle.meaning.specs.Play.{first_refused, refused_here}
use Rattle.meaning_laws.specs.Batched.{lacks_compiler, cut_by, all_set}
use Rattle.meaning_laws.proofs.BatchEntries.{how_if, flag_of, refused_in, or_right}
use Rattle.meaning_laws.proofs.BatchLemmas.{how_is, batch_commits, batch_stops}
use Rattle.meaning_laws.proofs.Statements.{Children, AllSteps, meaning_holds}
use Rattle.meaning_laws.specs.Finished.{finish, Enough}
use Rattle.meaning_laws.specs.Refusals.{played, CutsAtRefusals, CutsAreTold}
use Rattle.meaning_laws.proofs.Plays.{whole_how, whole_enough, whole_taken, with_line, whole_line}

abbrev is_cut : How → Bool
is_cut Cut = true
is_cut how = false

-- Each end shows whether a reply was refused, here or before.
abbrev Tells : Bool → Run → Type 0
Tells b (Ends how st) = b ≡ is_cut how
Tells b (Asks jobs next) = (replies : List Reply) → length replies ≡ length jobs → Tells (b || refused_in replies) (next replies)

then_tells : (b : Bool) (r : Run) (f : State → Run) → Tells b r → ((st : State) → Tells false (f st)) → Tells b (then_run r f)
then_tells b (Ends Goes_on st) f h k = subst (λ x. Tells x (f st)) (sym h) (k st)
then_tells b (Ends _ st) f h k = h
then_tells b (Asks jobs ask) f h k = λ replies len. then_tells (b || refused_in replies) (ask replies) f (h replies len) k

ended_tells : (b : Bool) (early : How → State → State) (r : Run) → Tells b r → Tells b (ended early r)
ended_tells b early (Ends how st) h = h
ended_tells b early (Asks jobs ask) h = λ replies len. ended_tells (b || refused_in replies) early (ask replies) (h replies len)

heard_tells : (answer : Option Bool) (st : State) (go : Bool → State → Run) → ((b : Bool) (now : State) → Tells false (go b now)) → Tells (flag_of answer || false) (after_child as_is answer st go)
heard_tells None st go k = refl
heard_tells (Some b) st go k = k b st

child_tells : Children (λ st run. Tells false run)
child_tells job st go k [] len = cc
child_tells job st go k (r ∷ []) len = heard_tells (success r) (with_child job r st) go k
child_tells job st go k (r ∷ s ∷ more) len = cc

-- ---- batches

asks_tell : (jobs : List Job) (next : List Reply → Run) → ((replies : List Reply) → length replies ≡ length jobs → Tells (refused_in replies) (next replies)) → Tells false (asks_all jobs next)
asks_tell [] next h = h [] refl
asks_tell (job ∷ more) next h = h

flag_is : (b : Bool) → b ≡ is_cut (how_if b)
flag_is true = refl
flag_is false = refl

cut_tells : (replies : List Reply) (st : State) → Tells (refused_in replies) (Ends (cut_by (first_refused replies)) st)
cut_tells replies st = flag_is (refused_in replies) ∙ ap is_cut (how_is replies)

stop_tells : (goes : Bool) (st : State) → Tells false (Ends (cond goes Goes_on (Stopped 1)) st)
stop_tells true st = refl
stop_tells false st = refl

batch_tells : (tests : List FormTest) → AreBatched tests → (st : State) → Tells false (batched tests st)
batch_tells tests all st =
    ⊎_elim
    (λ e. let s = batch_stops tests st all e in subst (Tells false) (sym s.is) (stop_tells (all_set tests st) s.now))
    (λ c. asks_tell (jobs_in (asking 1 [] tests st)) _
    (λ replies len. let end = batch_commits tests st replies all c len in subst (Tells (refused_in replies)) (sym end.is) (cut_tells replies end.now)))
    (cases_Bool (lacks_compiler st))

-- ---- statements

steps_tell : AllSteps (λ st run. Tells false run)
steps_tell = record {
  steps = record {
    goes = λ st. refl;
    completes = λ st. refl;
    stops = λ status st. refl;
    tells = λ stream text st run h. h;
    variables = λ name value st run h. h;
    definitions = λ name value st run h. h;
    children = child_tells;
    guards = λ name st run e h. ended_tells false (broken name) run h;
    joins = λ st run rest h k. then_tells false run rest h k;
  };
  batches = batch_tells;
}

-- ---- what that says of given replies

grouped : (x y z : Bool) → x || (y || z) ≡ (x || y) || z
grouped true y z = refl
grouped false y z = refl

refused_both : (a b : List Reply) → refused_in (a ++ b) ≡ refused_in a || refused_in b
refused_both [] b = refl
refused_both (r ∷ a) b = ap (λ x. flag_of (success r) || x) (refused_both a b) ∙ grouped (flag_of (success r)) (refused_in a) (refused_in b)

tells_all : (b : Bool) (run : Run) (rs : List Reply) → Tells b run → Enough run rs → b || refused_in (finish run rs).taken ≡ is_cut (finish run rs).how
tells_all b (Ends how st) rs h e = or_right b ∙ h
tells_all b (Asks jobs ask) rs h e =
    let r = take (length jobs) rs in
    let f = finish (ask r) (drop (length jobs) rs) in
    ap (λ x. b || x) (refused_both r f.taken)
    ∙ grouped b (refused_in r) (refused_in f.taken)
    ∙ tells_all (b || refused_in r) (ask r) (drop (length jobs) rs) (h r (length-take-le (length jobs) rs e.0)) e.1

later_number : (o : Option ℕ) → (number : ℕ) × (o ≡ Some number) → (number : ℕ) × (option_map suc o ≡ Some number)
later_number o h = (suc h.0, ap (option_map suc) h.1)

here_number : (s : Option Bool) (rs : List Reply) → flag_of s || refused_in rs ≡ true → (refused_in rs ≡ true → (number : ℕ) × (first_refused rs ≡ Some number)) → (number : ℕ) × (refused_here s (first_refused rs) ≡ Some number)
here_number None rs e h = (1, refl)
here_number (Some c) rs e h = later_number (first_refused rs) (h e)

number_there : (rs : List Reply) → refused_in rs ≡ true → (number : ℕ) × (first_refused rs ≡ Some number)
number_there [] e = cc
number_there (r ∷ rs) e = here_number (success r) rs e (number_there rs)

here_none : (s : Option Bool) (rs : List Reply) → flag_of s || refused_in rs ≡ false → (refused_in rs ≡ false → first_refused rs ≡ None) → refused_here s (first_refused rs) ≡ None
here_none None rs e h = cc
here_none (Some c) rs e h = ap (option_map suc) (h e)

no_number : (rs : List Reply) → refused_in rs ≡ false → first_refused rs ≡ None
no_number [] e = refl
no_number (r ∷ rs) e = here_none (success r) rs e (no_number rs)

cut_or_not : (how : How) → (how ≡ Cut → ⊥) → is_cut how ≡ false
cut_or_not Cut h = absurd (h refl)
cut_or_not _ h = refl

pub cuts_at_refusals : CutsAtRefusals
cuts_at_refusals script st replies e =
    let f = finish (meaning script st) replies in
    let how : (played script st replies).how ≡ f.how = whole_how (meaning script st) replies in
    let told : refused_in replies ≡ is_cut f.how = ap refused_in (sym (whole_taken (meaning script st) replies e)) ∙ tells_all false (meaning script st) replies (meaning_holds (λ first run. Tells false run) steps_tell script st) (whole_enough (meaning script st) replies e) in
    record {
      cut = λ c. number_there replies (told ∙ ap is_cut (sym how ∙ c));
      uncut = λ u. no_number replies (told ∙ cut_or_not f.how (λ c. u (how ∙ c)));
    }

no_line : (how : How) (o : Option ℕ) (st : State) → (how ≡ Cut → ⊥) → (with_line how o st).messages ≡ st.messages
no_line Cut o st u = absurd (u refl)
no_line _ o st u = refl

pub cuts_are_told : CutsAreTold
cuts_are_told script st replies e =
    let run = meaning script st in
    let f = finish run replies in
    let how : (played script st replies).how ≡ f.how = whole_how run replies in
    let line : (played script st replies).state.messages ≡ (with_line f.how (first_refused replies) f.state).messages = ap (λ (s : State). s.messages) (whole_line run replies e) in
    record {
      cut = λ number c is. line ∙ ap (λ h. (with_line h (first_refused replies) f.state).messages) (sym how ∙ c) ∙ ap (λ o. (with_line Cut o f.state).messages) is;
      uncut = λ u. line ∙ no_line f.how (first_refused replies) f.state (λ c. u (how ∙ c));
    }
