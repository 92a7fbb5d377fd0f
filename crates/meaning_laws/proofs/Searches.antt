-- Programs that are looked for, one place after the other.
use Rattle.std.proofs.Common.{◌≡◌, ℕ, suc, Option, Some, None, List, [], ◌∷◌, ◌++◌, Bool, true, false, refl, sym, subst, append_assoc, arith}
use Rattle.std.specs.Prelude.{option_map}
use Rattle.std.proofs.lemmas.List.{append-nil}
use Rattle.crew_jobs.specs.declared.job.Job.{Job}
use Rattle.crew_jobs.specs.Probe.{path_of}
use Rattle.crew_trait.specs.declared.reply.Reply.{Reply}
use Rattle.meaning.specs.State.{State, Goes_on, Run, Ends, Asks}
use Rattle.meaning.specs.Asking.{success}
use Rattle.meaning.specs.Play.{first_refused, refused_here}
use Rattle.meaning_laws.specs.Finished.{finish, Enough}
use Rattle.meaning_laws.specs.Programs.{if_found, found_at, searched}

-- By an answer: the first for yes, the second for no. A refused reply asks for neither.
abbrev pub Answered : Option Bool → Type 0 → Type 0 → Type 0
Answered None here later = Unit {0}
Answered (Some true) here later = here
Answered (Some false) here later = later

abbrev pub Ending : (Option (List ℕ) → List (Job × Reply) → State → Type 0) → Option (List ℕ) → List (Job × Reply) → Run → Type 0
Ending P found kids run = (now : State) × ((run ≡ Ends Goes_on now) × P found kids now)

-- The run asks for these places in order, and ends with the first that has its program.
abbrev pub Hunt : List (List ℕ × List ℕ) → (Option (List ℕ) → List (Job × Reply) → State → Type 0) → List (Job × Reply) → Run → Type 0
Hunt [] P kids run = Ending P None kids run
Hunt (place ∷ more) P kids run =
    (next : List Reply → Run) × ((run ≡ Asks (path_of place.1 ∷ []) next)
    × ((reply : Reply) → Answered (success reply) (Ending P (Some place.0) (kids ++ (path_of place.1, reply) ∷ []) (next (reply ∷ []))) (Hunt more P (kids ++ (path_of place.1, reply) ∷ []) (next (reply ∷ [])))))

none_before : (o : Option ℕ) → option_map suc o ≡ None → o ≡ None
none_before None e = refl
none_before (Some k) e = cc

-- What that says of given replies.
abbrev pub Caught : (Option (List ℕ) → List (Job × Reply) → State → Type 0) → Option (List ℕ) → List (Job × Reply) → Run → List Reply → Type 0
Caught P found kids run rs = ((finish run rs).how ≡ Goes_on) × P found kids (finish run rs).state

ended_so : (P : Option (List ℕ) → List (Job × Reply) → State → Type 0) (found : Option (List ℕ)) (kids : List (Job × Reply)) (run : Run) (rs : List Reply) → Ending P found kids run → Caught P found kids run rs
ended_so P found kids run rs h = subst (λ r. Caught P found kids r rs) (sym h.1.0) (refl, h.1.1)

pub hunted : (places : List (List ℕ × List ℕ)) (P : Option (List ℕ) → List (Job × Reply) → State → Type 0) (kids : List (Job × Reply)) (run : Run) (rs : List Reply) → Hunt places P kids run → Enough run rs → first_refused rs ≡ None
    → Caught P (found_at places rs) (kids ++ searched places rs) run rs
hunted [] P kids run rs h e none = subst (λ l. Caught P None l run rs) (sym (append-nil kids)) (ended_so P None kids run rs h)
hunted (place ∷ more) P kids run [] h e none = let few = (subst (λ x. Enough x []) h.1.0 e).0 in absurd (omega (arith, few))
hunted (place ∷ more) P kids run (r ∷ rs) h e none =
    let asks = h.1.0 in
    subst (λ x. Caught P (found_at (place ∷ more) (r ∷ rs)) (kids ++ searched (place ∷ more) (r ∷ rs)) x (r ∷ rs)) (sym asks)
    (by_answer (success r) (h.1.1 r) none (subst (λ x. Enough x (r ∷ rs)) asks e).1
    (λ k n x. hunted more P (kids ++ (path_of place.1, r) ∷ []) (h.0 (r ∷ [])) rs k x n))
  where
    by_answer : (o : Option Bool) → Answered o (Ending P (Some place.0) (kids ++ (path_of place.1, r) ∷ []) (h.0 (r ∷ []))) (Hunt more P (kids ++ (path_of place.1, r) ∷ []) (h.0 (r ∷ [])))
        → refused_here o (first_refused rs) ≡ None → Enough (h.0 (r ∷ [])) rs
        → (Hunt more P (kids ++ (path_of place.1, r) ∷ []) (h.0 (r ∷ [])) → first_refused rs ≡ None → Enough (h.0 (r ∷ [])) rs → Caught P (found_at more rs) ((kids ++ (path_of place.1, r) ∷ []) ++ searched more rs) (h.0 (r ∷ [])) rs)
        → Caught P (if_found o (Some place.0) (found_at more rs)) (kids ++ (path_of place.1, r) ∷ if_found o [] (searched more rs)) (h.0 (r ∷ [])) rs
    by_answer None k n x rest = cc
    by_answer (Some true) k n x rest = ended_so P (Some place.0) (kids ++ (path_of place.1, r) ∷ []) (h.0 (r ∷ [])) rs k
    by_answer (Some false) k n x rest =
        subst (λ l. Caught P (found_at more rs) l (h.0 (r ∷ [])) rs) (append_assoc kids ((path_of place.1, r) ∷ []) (searched more rs))
        (rest k (none_before (first_refused rs) n) x)
