-- What holds at the ends of runs that are made of others.
use Rattle.std.proofs.Common.{ℕ, Option, Some, None, List, [], ◌∷◌, Bool, true, false, cond}
use Rattle.crew_jobs.specs.declared.job.Job.{Job}
use Rattle.crew_trait.specs.declared.reply.Reply.{Reply}
use Rattle.meaning.specs.State.{State, How, Goes_on, Cut, Run, Ends, Asks, then_run, ended, as_is, with_child}
use Rattle.meaning.specs.Asking.{success, only_reply, after_child, child, compiled, without_compiler, same, Attempt, attempted}
use Rattle.meaning.specs.Batches.{asks_all, commits}
use Rattle.meaning_laws.specs.Ends.{AtEnds, Breaks}

pub ends_then : (P Q : How → State → Type 0) (r : Run) (f : State → Run) → AtEnds P r → ((st : State) → P Goes_on st → AtEnds Q (f st)) → ((how : How) (st : State) → Breaks how → P how st → Q how st) → AtEnds Q (then_run r f)
ends_then P Q (Ends Goes_on st) f h on off = on st h
ends_then P Q (Ends how st) f h on off = off how st (λ e. cc) h
ends_then P Q (Asks jobs ask) f h on off = λ replies. ends_then P Q (ask replies) f (h replies) on off

pub ends_ended : (P Q : How → State → Type 0) (early : How → State → State) (r : Run) → AtEnds P r → ((how : How) (st : State) → P how st → Q how (early how st)) → AtEnds Q (ended early r)
ends_ended P Q early (Ends how st) h to = to how st h
ends_ended P Q early (Asks jobs ask) h to = λ replies. ends_ended P Q early (ask replies) (h replies) to

pub ends_map : (P Q : How → State → Type 0) (r : Run) → AtEnds P r → ((how : How) (st : State) → P how st → Q how st) → AtEnds Q r
ends_map P Q (Ends how st) h to = to how st h
ends_map P Q (Asks jobs ask) h to = λ replies. ends_map P Q (ask replies) (h replies) to

pub ends_either : (P : How → State → Type 0) (b : Bool) (x y : Run) → AtEnds P x → AtEnds P y → AtEnds P (cond b x y)
ends_either P true x y h k = h
ends_either P false x y h k = k

-- An entry of a batch, and those after it.
pub ends_commits : (P Q : How → State → Type 0) (r : Run) (refused : Bool) (rest : Bool → State → Run) → AtEnds P r → ((how : How) (b : Bool) (st : State) → P how st → AtEnds Q (rest b st)) → ((how : How) (st : State) → P how st → Q how st)
    → AtEnds Q (commits r refused rest)
ends_commits P Q (Ends Goes_on st) refused rest h on off = on Goes_on refused st h
ends_commits P Q (Ends Cut st) refused rest h on off = on Cut true st h
ends_commits P Q (Ends how st) refused rest h on off = off how st h
ends_commits P Q (Asks jobs ask) refused rest h on off = λ replies. ends_commits P Q (ask replies) refused rest (h replies) on off

pub ends_asks_all : (P : How → State → Type 0) (jobs : List Job) (next : List Reply → Run) → ((replies : List Reply) → AtEnds P (next replies)) → AtEnds P (asks_all jobs next)
ends_asks_all P [] next h = h []
ends_asks_all P (job ∷ jobs) next h = h

-- Something of states that a child's reply doesn't change.
abbrev pub Spares : (State → Type 0) → Type 0
Spares I = (job : Job) (reply : Reply) (st : State) → I st → I (with_child job reply st)

pub ends_heard : (I : State → Type 0) (P : How → State → Type 0) (answer : Option Bool) (st : State) (go : Bool → State → Run) → ((now : State) → I now → P Cut now) → ((b : Bool) (now : State) → I now → AtEnds P (go b now)) → I st → AtEnds P (after_child as_is answer st go)
ends_heard I P None st go cut goes h = cut st h
ends_heard I P (Some b) st go cut goes h = goes b st h

pub ends_child : (I : State → Type 0) (P : How → State → Type 0) → Spares I → (job : Job) (st : State) (go : Bool → State → Run) → ((now : State) → I now → P Cut now) → ((b : Bool) (now : State) → I now → AtEnds P (go b now)) → I st → AtEnds P (child as_is job st go)
ends_child I P spares job st go cut goes h =
    λ replies. ends_heard I P (success (only_reply replies)) (with_child job (only_reply replies) st) go cut goes (spares job (only_reply replies) st h)

pub ends_compiled : (I : State → Type 0) (P : How → State → Type 0) → Spares I → (job : Option Job) (st : State) (go : Bool → State → Run) → ((now : State) → I now → AtEnds P (without_compiler as_is now)) → ((now : State) → I now → P Cut now)
    → ((b : Bool) (now : State) → I now → AtEnds P (go b now)) → I st → AtEnds P (compiled as_is job st go)
ends_compiled I P spares None st go none cut goes h = none st h
ends_compiled I P spares (Some job) st go none cut goes h = ends_child I P spares job st go cut goes h

-- Attempts that keep something up to their end.
pub ends_attempted : (I : State → Type 0) (P : How → State → Type 0) → Spares I → (attempts : List Attempt) (otherwise : Option (List ℕ)) (go : Option (List ℕ) → State → Run)
    → ((now : State) → I now → AtEnds P (without_compiler as_is now)) → ((now : State) → I now → P Cut now) → ((value : Option (List ℕ)) (now : State) → I now → AtEnds P (go value now))
    → (st : State) → I st → AtEnds P (attempted as_is attempts otherwise st go)
ends_attempted I P spares [] otherwise go none cut goes st h = goes otherwise st h
ends_attempted I P spares (a ∷ more) otherwise go none cut goes st h =
    ends_compiled I P spares a.job st _ none cut
    (λ b now k. ends_either P (same a.ends_on b) (go a.value now) (attempted as_is more otherwise now go) (goes a.value now k) (ends_attempted I P spares more otherwise go none cut goes now k)) h
