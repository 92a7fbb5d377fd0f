-- A run reads no reply past those to the jobs that it asks for.
use Rattle.std.proofs.Common.{◌≡◌, ℕ, zero, suc, ◌+◌, ◌-◌, ◌≤◌, List, [], ◌∷◌, length, take, drop, Some, refl, sym, ap, ◌∙◌, subst, ⊎_elim, arith, length-append}
use Rattle.std.specs.Prelude.{slice_get}
use Rattle.std.proofs.lemmas.List.{length-drop}
use Rattle.crew_jobs.specs.declared.job.Job.{Job}
use Rattle.crew_trait.specs.declared.event.CrewEvent.{CrewEvent}
use Rattle.crew_trait.specs.declared.event.CrewEvent.TheVariants.{Started, Ended}
use Rattle.crew_trait.specs.declared.reply.Reply.{Reply}
use Rattle.crew_trait.specs.Events.{replies_in}
use Rattle.meaning.specs.State.{Run, Ends, Asks}
use Rattle.meaning.specs.Play.{Played, play, after, all_jobs, first_refused}
use Rattle.run_machine.specs.declared.machine.RunEnd.{RunEnd}
use Rattle.proberun.specs.Ran.{outcome_from, state_of}
use Rattle.proberun.specs.Starts.{StartsAre}
use Rattle.proberun.specs.Agreeing.{Agree, HasStart, RunsAgree}
use Rattle.proberun.proofs.RunLemmas.{length-replies}
use Rattle.proberun.proofs.WholeLemmas.{end_of}

agree_take : (n : ℕ) (xs ys : List Reply) → n ≤ length xs → n ≤ length ys → Agree xs ys → take n xs ≡ take n ys
agree_take zero xs ys lx ly g = refl
agree_take (suc n) [] ys lx ly g = absurd (omega arith)
agree_take (suc n) (x ∷ xs) [] lx ly g = absurd (omega arith)
agree_take (suc n) (x ∷ xs) (y ∷ ys) lx ly g =
    ap (λ z. z ∷ take n xs) g.0 ∙ ap (λ l. y ∷ l) (agree_take n xs ys (omega arith) (omega arith) g.1)

agree_drop : (n : ℕ) (xs ys : List Reply) → Agree xs ys → Agree (drop n xs) (drop n ys)
agree_drop zero xs ys g = g
agree_drop (suc n) [] ys g = tt
agree_drop (suc n) (x ∷ xs) [] g = agree_nothing (drop n xs)
  where
    agree_nothing : (xs : List Reply) → Agree xs []
    agree_nothing [] = tt
    agree_nothing (x ∷ xs) = tt
agree_drop (suc n) (x ∷ xs) (y ∷ ys) g = agree_drop n xs ys g.1

agree_all : (xs ys : List Reply) → length xs ≡ length ys → Agree xs ys → xs ≡ ys
agree_all [] [] e g = refl
agree_all [] (y ∷ ys) e g = absurd (omega arith)
agree_all (x ∷ xs) [] e g = absurd (omega arith)
agree_all (x ∷ xs) (y ∷ ys) e g = ap (λ z. z ∷ xs) g.0 ∙ ap (λ l. y ∷ l) (agree_all xs ys (omega arith) g.1)

-- There are enough replies for the groups.
abbrev Enough : Played → List Reply → Type 0
Enough p replies = length replies ≡ length (all_jobs p.groups)

-- The replies after those to the first group.
rest_enough : (jobs : List Job) (p : Played) (xs : List Reply) → Enough (after (jobs ∷ []) p) xs → (length jobs ≤ length xs) × Enough p (drop (length jobs) xs)
rest_enough jobs p xs e =
    let parts = length-append jobs (all_jobs p.groups) in
    let left = length-drop (length jobs) xs in
    (omega (arith, e, parts), omega (arith, e, parts, left))

same_play : (run : Run) (xs ys : List Reply) → Enough (play run xs) xs → Enough (play run ys) ys → Agree xs ys → play run xs ≡ play run ys
same_play (Ends how st) xs ys a b g = refl
same_play (Asks jobs next) xs ys a b g =
    let n = length jobs in
    let x = rest_enough jobs (play (next (take n xs)) (drop n xs)) xs a in
    let y = rest_enough jobs (play (next (take n ys)) (drop n ys)) ys b in
    let front : take n xs ≡ take n ys = agree_take n xs ys x.0 y.0 g in
    let back : Enough (play (next (take n xs)) (drop n ys)) (drop n ys) = subst (λ l. Enough (play (next l) (drop n ys)) (drop n ys)) (sym front) y.1 in
    ap (after (jobs ∷ [])) (same_play (next (take n xs)) (drop n xs) (drop n ys) x.1 back (agree_drop n xs ys g))
    ∙ ap (λ l. after (jobs ∷ []) (play (next l) (drop n ys))) front

same_end : (end other : RunEnd) → end.outcome ≡ other.outcome → state_of end ≡ state_of other → end ≡ other
same_end end other o s =
    let a : end_of end.outcome (state_of end) ≡ end_of other.outcome (state_of end) = ap (λ x. end_of x (state_of end)) o in
    let b : end_of other.outcome (state_of end) ≡ end_of other.outcome (state_of other) = ap (end_of other.outcome) s in
    a ∙ b

-- The n-th start has the n-th job.
start_is : (jobs : List Job) (n base : ℕ) (job : Job) (events : List CrewEvent) → StartsAre jobs base events → HasStart n job base events → slice_get jobs (n - 1) ≡ Some job
start_is jobs n base job [] all h = absurd h
start_is jobs n base job (Started slot its number ∷ events) all h =
    ⊎_elim
    (λ k. let at : n - 1 ≡ number - (base + 1) = omega (arith, k.0) in ap (slice_get jobs) at ∙ all.1 ∙ ap Some k.1)
    (λ k. start_is jobs n base job events all.2 k)
    h
start_is jobs n base job (Ended slot reply number ∷ events) all h = start_is jobs n base job events all h

one_job : (a b : Job) → Some a ≡ Some b → a ≡ b
one_job a b e = cc

-- As many starts as jobs.
as_many : (count other before now other_before other_now : ℕ) → count ≡ other → now ≡ before + count → other_now ≡ other_before + other → now - before ≡ other_now - other_before
as_many count other before now other_before other_now same one two = omega (arith, same, one, two)

pub runs_agree : RunsAgree
runs_agree run window other_window before now other_before other_now end other_end one other g =
    let xs = replies_in before.attempts (length (all_jobs one.groups)) one.since in
    let ys = replies_in other_before.attempts (length (all_jobs other.groups)) other.since in
    let enough : Enough (play run xs) xs = length-replies before.attempts (length (all_jobs one.groups)) one.since ∙ ap (λ p. length (all_jobs p.groups)) (sym one.meaning) in
    let other_enough : Enough (play run ys) ys = length-replies other_before.attempts (length (all_jobs other.groups)) other.since ∙ ap (λ p. length (all_jobs p.groups)) (sym other.meaning) in
    let same = sym one.meaning ∙ same_play run xs ys enough other_enough g ∙ other.meaning in
    let groups : one.groups ≡ other.groups = ap (λ p. p.groups) same in
    let how : one.how ≡ other.how = ap (λ p. p.how) same in
    let count : length xs ≡ length ys =
    length-replies before.attempts (length (all_jobs one.groups)) one.since ∙ ap (λ l. length (all_jobs l)) groups
    ∙ sym (length-replies other_before.attempts (length (all_jobs other.groups)) other.since) in
    let replies : xs ≡ ys = agree_all xs ys count g in
    let outcomes : Some end.outcome ≡ Some other_end.outcome =
    sym one.outcome ∙ ap (λ h. outcome_from h (first_refused xs)) how ∙ ap (λ l. outcome_from other.how (first_refused l)) replies ∙ other.outcome in (
      groups,
      same_end end other_end (cc) (ap (λ p. p.state) same),
      as_many (length (all_jobs one.groups)) (length (all_jobs other.groups)) before.attempts now.attempts other_before.attempts other_now.attempts (ap (λ g. length (all_jobs g)) groups) one.attempts other.attempts,
      λ n job its h k. one_job job its
          (sym (start_is (all_jobs one.groups) n before.attempts job one.since one.starts h)
          ∙ ap (λ g. slice_get (all_jobs g) (n - 1)) groups ∙ start_is (all_jobs other.groups) n other_before.attempts its other.since other.starts k),
    )
