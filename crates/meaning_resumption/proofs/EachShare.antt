-- What holds of each share of a run.
use Rattle.std.proofs.Common.{◌≡◌, ℕ, List, [], ◌∷◌, ◌++◌, length, take, drop, Bool, true, false, cond, Some, refl}
use Rattle.std.specs.Prelude.{is_some}
use Rattle.std.specs.List.{AllByRecursion}
use Rattle.crew_jobs.specs.declared.job.Job.{Job}
use Rattle.crew_trait.specs.declared.reply.Reply.{Reply}
use Rattle.meaning.specs.State.{State, Scope, answered, Goes_on, Completed, Run, Ends, Asks}
use Rattle.meaning_laws.proofs.Kept.{Keeps}
use Rattle.meaning_resumption.specs.Asked.{Share, shares_after, shares_answered, owned}

abbrev pub Each : (Share → Type 0) → List Share → Type 0
Each P l = AllByRecursion P l

pub each_both : (P : Share → Type 0) (a b : List Share) → Each P a → Each P b → Each P (a ++ b)
each_both P [] b h k = k
each_both P (share ∷ a) b h k = (h.0, each_both P a b h.1 k)

pub each_either : (P : Share → Type 0) (b : Bool) (x y : List Share) → Each P x → Each P y → Each P (cond b x y)
each_either P true x y h k = h
each_either P false x y h k = k

-- What follows a run that keeps something.
pub each_after : (P : Share → Type 0) (I : State → Type 0) (run : Run) (rs : List Reply) (rest : State → List Reply → List Share) → Keeps I run → ((st : State) (left : List Reply) → I st → Each P (rest st left)) → Each P (shares_after run rs rest)
each_after P I (Ends Goes_on st) rs rest h k = k st rs h
each_after P I (Ends _ st) rs rest h k = tt
each_after P I (Asks jobs next) rs rest h k = each_after P I (next (take (length jobs) rs)) (drop (length jobs) rs) rest (h (take (length jobs) rs)) k

pub each_answered : (P : Share → Type 0) (I : State → Type 0) (run : Run) (rs : List Reply) (rest : Scope → State → List Reply → List Share) → Keeps I run → ((c : Scope) (st : State) (left : List Reply) → I st → Each P (rest c st left)) → Each P (shares_answered run rs rest)
each_answered P I (Ends Goes_on st) rs rest h k = k (answered true) st rs h
each_answered P I (Ends Completed st) rs rest h k = k (answered false) st rs h
each_answered P I (Ends _ st) rs rest h k = tt
each_answered P I (Asks jobs next) rs rest h k = each_answered P I (next (take (length jobs) rs)) (drop (length jobs) rs) rest (h (take (length jobs) rs)) k

pub each_owned : (P : Share → Type 0) (name : List ℕ) (jobs : List Job) (l : List Share) → ((own : List Job) → P (record { name = Some name; jobs = own })) → Each (λ share. is_some share.name ≡ true → P share) l → Each P (owned name jobs l)
each_owned P name jobs [] own h = (own jobs, tt)
each_owned P name jobs (share ∷ l) own h = by_test (is_some share.name) h.0 (each_owned P name [] l own h.1) (each_owned P name (jobs ++ share.jobs) l own h.1)
  where
    by_test : (b : Bool) → (b ≡ true → P share) → Each P (owned name [] l) → Each P (owned name (jobs ++ share.jobs) l) → Each P (cond b (record { name = Some name; jobs = jobs } ∷ share ∷ owned name [] l) (owned name (jobs ++ share.jobs) l))
    by_test true k x y = (own jobs, (k refl, x))
    by_test false k x y = y

-- What is known of each share is known of those of tests.
pub each_test : (P : Share → Type 0) (l : List Share) → Each P l → Each (λ share. is_some share.name ≡ true → P share) l
each_test P [] h = tt
each_test P (share ∷ l) h = (λ e. h.0, each_test P l h.1)

-- Any run keeps this.
abbrev pub Always : State → Type 0
Always st = Unit {0}

pub always : (run : Run) → Keeps Always run
always (Ends how st) = tt
always (Asks jobs next) = λ replies. always (next replies)
