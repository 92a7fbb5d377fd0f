-- What the deeds of a batch account for.
use Rattle.std.proofs.Common.{◌≡◌, ℕ, suc, Option, Some, None, List, [], ◌∷◌, length, take, drop, Bool, true, false, cond, inl, inr, refl, sym, ap, ◌∙◌, subst, ⊎_elim}
use Rattle.std.proofs.Math.Path.{fun_ext}
use Rattle.std.specs.Prelude.{bytes_eq, flat_map, is_some, ◌||◌}
use Rattle.std.proofs.lemmas.Bool.{cases_Bool}
use Rattle.crew_jobs.specs.declared.job.Job.{Job}
use Rattle.crew_trait.specs.declared.reply.Reply.{Reply}
use Rattle.crew_trait.specs.declared.reply.Reply.TheVariants.{Answer, StartRefused, EndRefused}
use Rattle.deftable.specs.Table.{value_of}
use Rattle.meaning.specs.State.{State, How, Run, Ends}
use Rattle.meaning.specs.Asking.{only_reply}
use Rattle.meaning.specs.Forms.{FormTest, form_name}
use Rattle.meaning.specs.Batches.{AreBatched, asking, jobs_in, asks_all, commits, committed, batched}
use Rattle.meaning.specs.Tests.{tested}
use Rattle.meaning.specs.Play.{play, first_refused}
use Rattle.meaning_laws.specs.Cached.{IsSet, IsUnset}
use Rattle.meaning_laws.specs.Batched.{lacks_compiler, answer_to, value_by, cut_by, names_asked}
use Rattle.meaning_laws.specs.Deeds.{Deed, Assigned, Tested, replied_deeds, batch_deeds, Among, Accounts, AnswersAreLeft}
use Rattle.meaning_laws.proofs.Values.{same_text, cond_false, cases_value}
use Rattle.meaning_laws.proofs.BatchEntries.{row_at, by_none}
use Rattle.meaning_laws.proofs.BatchLemmas.{unasked, no_jobs, batch_commits, batch_stops}
use Rattle.meaning_laws.proofs.DeedLemmas.{name_in, among_left, among_right, among_either}

-- ---- the values that a batch leaves, under any replies

-- The reply to each job; one that is missing is a refused start.
abbrev heard_of : List (FormTest × Option Job) → List Reply → List Reply
heard_of [] rs = []
heard_of ((test, None) ∷ more) rs = heard_of more rs
heard_of ((test, Some job) ∷ more) rs = only_reply rs ∷ heard_of more (drop 1 rs)

as_many : (asks : List (FormTest × Option Job)) (rs : List Reply) → length (heard_of asks rs) ≡ length (jobs_in asks)
as_many [] rs = refl
as_many ((test, None) ∷ more) rs = as_many more rs
as_many ((test, Some job) ∷ more) rs = ap suc (as_many more (drop 1 rs))

same_taken : (asks : List (FormTest × Option Job)) (rs : List Reply) → heard_of asks (take (length (jobs_in asks)) rs) ≡ heard_of asks rs
same_taken [] rs = refl
same_taken ((test, None) ∷ more) rs = same_taken more rs
same_taken ((test, Some job) ∷ more) [] = refl
same_taken ((test, Some job) ∷ more) (r ∷ rs) = ap (λ l. r ∷ l) (same_taken more rs)

same_answer : (n : List ℕ) (asks : List (FormTest × Option Job)) (rs : List Reply) → answer_to n asks (heard_of asks rs) ≡ answer_to n asks rs
same_answer n [] rs = refl
same_answer n ((test, None) ∷ more) rs = same_answer n more rs
same_answer n ((test, Some job) ∷ more) rs =
    ap (cond (bytes_eq n (form_name test.form)) (Some (only_reply rs))) (same_answer n more (drop 1 rs))

same_commits : (first : State) (asks : List (FormTest × Option Job)) (rs : List Reply) (refused : Bool) (st : State)
    → committed first asks (heard_of asks rs) refused st ≡ committed first asks rs refused st
same_commits first [] rs true st = refl
same_commits first [] rs false st = refl
same_commits first ((test, None) ∷ more) rs refused st =
    ap (commits (tested (row_at test None (only_reply rs) first) st) refused) (fun_ext (λ b. fun_ext (λ now. same_commits first more rs b now)))
same_commits first ((test, Some job) ∷ more) rs refused st =
    ap (commits (tested (row_at test (Some job) (only_reply rs) first) st) refused) (fun_ext (λ b. fun_ext (λ now. same_commits first more (drop 1 rs) b now)))

played_all : (jobs : List Job) (next : List Reply → Run) (rs : List Reply) (how : How) (now : State) → next (take (length jobs) rs) ≡ Ends how now → (play (asks_all jobs next) rs).state ≡ now
played_all [] next rs how now e = ap (λ run. (play run rs).state) e
played_all (job ∷ jobs) next rs how now e = ap (λ run. (play run (drop (length (job ∷ jobs)) rs)).state) e

unanswered : (n : List ℕ) (asks : List (FormTest × Option Job)) (rs : List Reply) → jobs_in asks ≡ [] → answer_to n asks rs ≡ None
unanswered n [] rs e = refl
unanswered n ((test, None) ∷ more) rs e = unanswered n more rs e
unanswered n ((test, Some job) ∷ more) rs e = cc

abbrev reply_to : List ℕ → List FormTest → State → List Reply → Option Reply
reply_to n tests st rs = answer_to n (asking 1 [] tests st) rs

value_left : (tests : List FormTest) → AreBatched tests → (st : State) (rs : List Reply) (n : List ℕ) → value_of (play (batched tests st) rs).state.vars n ≡ value_by (value_of st.vars n) (reply_to n tests st rs)
value_left tests all st rs n =
    let asks = asking 1 [] tests st in
    ⊎_elim
    (λ c.
    let s = batch_stops tests st all c in
    ap (λ run. value_of (play run rs).state.vars n) s.is ∙ ap (λ l. value_of l n) s.vars ∙ by_none (value_of st.vars n)
    ∙ ap (value_by (value_of st.vars n)) (sym (unanswered n asks rs (no_jobs tests all 1 [] st c))))
    (λ c.
    let heard = heard_of asks rs in
    let end = batch_commits tests st heard all c (as_many asks rs) in
    let taken = take (length (jobs_in asks)) rs in
    let is : committed st asks taken false st ≡ Ends (cut_by (first_refused heard)) end.now =
    sym (same_commits st asks taken false st) ∙ ap (λ l. committed st asks l false st) (same_taken asks rs) ∙ end.is in
    ap (λ now. value_of now.vars n) (played_all (jobs_in asks) (λ replies. committed st asks replies false st) rs (cut_by (first_refused heard)) end.now is)
    ∙ end.value n ∙ ap (value_by (value_of st.vars n)) (same_answer n asks rs))
    (cases_Bool (lacks_compiler st))

-- ---- the deeds, by the replies

in_some : (d : Deed) (f : List ℕ → List Deed) (names : List (List ℕ)) → Among d (flat_map f names) → (n : List ℕ) × Among d (f n)
in_some d f [] h = absurd h
in_some d f (n ∷ names) h = ⊎_elim (λ k. (n, k)) (λ k. in_some d f names k) (among_either d (f n) (flat_map f names) h)

of_asked : (n : List ℕ) (asks : List (FormTest × Option Job)) (rs : List Reply) (reply : Reply) (d : Deed) (f : List ℕ → List Deed) → answer_to n asks rs ≡ Some reply → Among d (f n) → Among d (flat_map f (names_asked asks))
of_asked n [] rs reply d f e h = cc
of_asked n ((test, None) ∷ more) rs reply d f e h = of_asked n more rs reply d f e h
of_asked n ((test, Some job) ∷ more) rs reply d f e h =
    let name = form_name test.form in
    ⊎_elim
    (λ t. among_left d (f name) (flat_map f (names_asked more)) (subst (λ q. Among d (f q)) (same_text n name t) h))
    (λ ne. among_right d (f name) (flat_map f (names_asked more))
    (of_asked n more (drop 1 rs) reply d f (sym (cond_false (bytes_eq n name) (Some (only_reply rs)) (answer_to n more (drop 1 rs)) ne) ∙ e) h))
    (cases_Bool (bytes_eq n name))

-- A deed by a reply is that of a test that got its value.
record Got (n : List ℕ) (d : Deed) (reply : Option Reply) : Type 0 where
  is : Tested n ≡ d
  value : List ℕ
  by : value_by None reply ≡ Some value

got : (n : List ℕ) (d : Deed) (reply : Option Reply) → Among d (replied_deeds n reply) → Got n d reply
got n d None h = absurd h
got n d (Some (Answer status text)) h = record { is = ⊎_elim (λ e. e) (λ z. absurd z) h; value = _; by = refl }
got n d (Some StartRefused) h = absurd h
got n d (Some EndRefused) h = absurd h

gets : (n v : List ℕ) (reply : Option Reply) → value_by None reply ≡ Some v → (r : Reply) × ((reply ≡ Some r) × Among (Tested n) (replied_deeds n reply))
gets n v None e = cc
gets n v (Some (Answer status text)) e = (Answer status text, (refl, inl refl))
gets n v (Some StartRefused) e = cc
gets n v (Some EndRefused) e = cc

abbrev found_in : List FormTest → State → List Reply → Deed → Type 0
found_in tests st rs d = (n : List ℕ) × ((Tested n ≡ d) × (IsUnset n st.vars × IsSet n (play (batched tests st) rs).state.vars))

found : (tests : List FormTest) → AreBatched tests → (st : State) (rs : List Reply) (d : Deed) → Among d (batch_deeds tests st rs) → found_in tests st rs d
found tests all st rs d h =
    let asks = asking 1 [] tests st in
    let some = in_some d (λ name. replied_deeds name (answer_to name asks rs)) (names_asked asks) h in
    let n = some.0 in
    let own = got n d (reply_to n tests st rs) some.1 in
    let unset : IsUnset n st.vars =
    ⊎_elim
    (λ e. e)
    (λ v.
    let none : reply_to n tests st rs ≡ None = unasked tests 1 [] st n rs (ap (λ o. is_some o || false) v.1) in
    let z : None ≡ Some own.value = ap (value_by None) (sym none) ∙ own.by in cc)
    (cases_value (value_of st.vars n)) in
    (n, (own.is, (unset, (own.value, value_left tests all st rs n ∙ ap (λ o. value_by o (reply_to n tests st rs)) unset ∙ own.by))))

has : (tests : List FormTest) → AreBatched tests → (st : State) (rs : List Reply) (n : List ℕ) → IsUnset n st.vars → IsSet n (play (batched tests st) rs).state.vars → Among (Tested n) (batch_deeds tests st rs)
has tests all st rs n u set =
    let asks = asking 1 [] tests st in
    let own = gets n set.0 (reply_to n tests st rs) (ap (λ o. value_by o (reply_to n tests st rs)) (sym u) ∙ sym (value_left tests all st rs n) ∙ set.1) in
    of_asked n asks rs own.0 (Tested n) (λ name. replied_deeds name (answer_to name asks rs)) own.1.0 own.1.1

pub answers_are_left : AnswersAreLeft
answers_are_left tests st rs n all = (
  λ h. let d = found tests all st rs (Tested n) h in subst (λ q. IsUnset q st.vars × IsSet q (play (batched tests st) rs).state.vars) (ap name_in d.1.0) d.1.1,
  λ h. has tests all st rs n h.0 h.1,
)

pub batch_accounts : (tests : List FormTest) → AreBatched tests → (st : State) (rs : List Reply) → Accounts st.vars (batch_deeds tests st rs) (play (batched tests st) rs).state.vars
batch_accounts tests all st rs =
    let stays : (n v : List ℕ) → value_of st.vars n ≡ Some v → value_of (play (batched tests st) rs).state.vars n ≡ Some v =
    λ n v e. value_left tests all st rs n ∙ ap (λ o. value_by o (reply_to n tests st rs)) e in
    record {
      only = λ n h. ⊎_elim (λ u. inr (inr (has tests all st rs n u h))) (λ some. inl some) (cases_value (value_of st.vars n));
      all = λ n h. ⊎_elim
          (λ k. (k.0, stays n k.0 k.1))
          (λ k. ⊎_elim (λ a. let z = (found tests all st rs (Assigned n) a).1.0 in cc) (λ a. ((answers_are_left tests st rs n all).0 a).1) k)
          h;
      tested = λ n h. ((answers_are_left tests st rs n all).0 h).0;
      keeps = λ n v e no. stays n v e;
    }
