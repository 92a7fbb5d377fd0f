-- Entries, jobs and replies, one after the other.
use Rattle.std.proofs.Common.{◌≡◌, ℕ, suc, ◌+◌, ◌<◌, ◌≤◌, Option, Some, None, List, [], ◌∷◌, ◌++◌, Bool, true, false, cond, refl, sym, ap, ◌∙◌, inl, inr, length, map, drop, get_or, arith, append_assoc}
use Rattle.std.proofs.lemmas.Bool.Decides.{eqb_tells}
use Rattle.std.specs.Prelude.{◌||◌, ◌==◌, not, bytes_eq, is_some, option_map, option_to_list, unwrap_or, reverse}
use Rattle.std.specs.List.{list_any}
use Rattle.std.proofs.lemmas.List.{drop_more, reverse-append, reverse-reverse}
use Rattle.std.proofs.lemmas.List.Sorted.{list_any-IsPermutation, IsPermutation-reverse}
use Rattle.crew_jobs.specs.declared.job.Job.{Job}
use Rattle.crew_trait.specs.declared.reply.Reply.{Reply}
use Rattle.crew_trait.specs.declared.reply.Reply.TheVariants.{StartRefused}
use Rattle.shellword.specs.declared.part.Part.{Part}
use Rattle.ac_tree.specs.declared.listed.Listed.{Listed}
use Rattle.deftable.specs.Table.{value_of}
use Rattle.meaning.specs.State.{State, with_child, Cut, Run, Ends}
use Rattle.plan.specs.Broken.{broken_all}
use Rattle.meaning.specs.Asking.{success}
use Rattle.meaning.specs.Batches.{is_known}
use Rattle.meaning.specs.Forms.{form_name}
use Rattle.meaning.specs.Entries.{listed_form}
use Rattle.meaning.specs.Play.{refused_here, first_refused}
use Rattle.meaning.specs.Tests.{checking}
use Rattle.run_forms.specs.Courses.{bare_course}
use Rattle.run_forms.specs.Ends.{heard_end}
use Rattle.run_forms.specs.declared.course.FormCourse.{FormCourse}
use Rattle.run_test.specs.Waits.{all_replies}
use Rattle.run_test.specs.Batched.{after_entries, at_once, batch_end, entry_end, entry_refused, is_refused, known_end, refuses, rest_after, with_asked}
use Rattle.run_test.specs.declared.wait.Waiting as waiting
use Rattle.run_step.specs.Taking.{Takes, TakesReply}
use Rattle.run_step.specs.Waiting.{any_asks, forms_in, front_end, is_named, job_at, jobs_of, names_before, waiting_at, waiting_for}

-- ---- names

any_name : (name : List ℕ) (entries : List waiting.Waiting) → list_any (bytes_eq name) (map (λ e. e.test.name) entries) ≡ is_named name entries
any_name name [] = refl
any_name name (e ∷ more) = ap (λ b. bytes_eq name e.test.name || b) (any_name name more)

pub named_before : (name : List ℕ) (entries : List waiting.Waiting) → is_named name entries ≡ list_any (bytes_eq name) (names_before entries)
named_before name entries =
    sym (any_name name entries)
    ∙ list_any-IsPermutation (bytes_eq name) (map (λ e. e.test.name) entries) (reverse (map (λ e. e.test.name) entries)) (IsPermutation-reverse (map (λ e. e.test.name) entries))

names_map : (a b : List waiting.Waiting) → map (λ e. e.test.name) (a ++ b) ≡ map (λ e. e.test.name) a ++ map (λ e. e.test.name) b
names_map [] b = refl
names_map (e ∷ a) b = ap (λ l. e.test.name ∷ l) (names_map a b)

names_more : (entries : List waiting.Waiting) (e : waiting.Waiting) → names_before (entries ++ e ∷ []) ≡ e.test.name ∷ names_before entries
names_more entries e = ap reverse (names_map entries (e ∷ [])) ∙ reverse-append (map (λ x. x.test.name) entries) (e.test.name ∷ [])

-- ---- the tests and their jobs

pub waiting_more : (what : Listed) (all : List waiting.Waiting) (entries : List (List ℕ)) (i : ℕ) (entry : List ℕ) (st : State) (test : FormCourse) (asks : Bool) (whole : List waiting.Waiting) → i < length entries
    → entry ≡ get_or entries i entry → test ≡ bare_course (listed_form what entry true) → asks ≡ not (is_known test.name (names_before all) st)
    → all ++ waiting_for (names_before all) (forms_in what (drop i entries)) st ≡ whole
    → (all ++ record { test = test; asks = asks } ∷ []) ++ waiting_for (names_before (all ++ record { test = test; asks = asks } ∷ [])) (forms_in what (drop (i + 1) entries)) st ≡ whole
waiting_more what all entries i entry st test asks whole lt is t a so_far =
    let w : waiting.Waiting = record { test = test; asks = asks } in
    let form = listed_form what entry true in
    let asks_is : asks ≡ not (is_known (form_name form) (names_before all) st) = a ∙ ap (λ (x : FormCourse). not (is_known x.name (names_before all) st)) t in
    let w_is : w ≡ waiting_at (names_before all) form st = ap (λ (x : FormCourse). the_waiting x asks) t ∙ ap (the_waiting (bare_course form)) asks_is in
    let rest = forms_in what (drop (i + 1) entries) in
    append_assoc all (w ∷ []) (waiting_for (names_before (all ++ w ∷ [])) rest st)
    ∙ ap (λ names. all ++ w ∷ waiting_for names rest st) (names_more all w)
    ∙ ap (λ (x : waiting.Waiting). all ++ x ∷ waiting_for (x.test.name ∷ names_before all) rest st) w_is
    ∙ ap (λ e. all ++ waiting_for (names_before all) (listed_form what e true ∷ rest) st) is
    ∙ ap (λ l. all ++ waiting_for (names_before all) (forms_in what l) st) (sym (drop_more entries i entry lt))
    ∙ so_far
  where
    the_waiting : FormCourse → Bool → waiting.Waiting
    the_waiting t b = record { test = t; asks = b }

pub jobs_more : (includes : Option (List Part)) (jobs new : List Job) (entries : List waiting.Waiting) (i number : ℕ) (e : waiting.Waiting) (st : State) (job : Option Job) (whole : List Job) → i < length entries
    → e ≡ get_or entries i e → number ≡ i + 1 → job ≡ job_at includes number e st → new ≡ jobs ++ option_to_list job
    → jobs ++ jobs_of includes (i + 1) (drop i entries) st ≡ whole
    → new ++ jobs_of includes (i + 1 + 1) (drop (i + 1) entries) st ≡ whole
jobs_more includes jobs new entries i number e st job whole lt is n j made so_far =
    let rest = drop (i + 1) entries in
    ap (λ l. l ++ jobs_of includes (i + 1 + 1) rest st) made
    ∙ append_assoc jobs (option_to_list job) (jobs_of includes (i + 1 + 1) rest st)
    ∙ ap (λ o. jobs ++ (option_to_list o ++ jobs_of includes (i + 1 + 1) rest st)) (j ∙ ap (λ k. job_at includes k e st) n)
    ∙ ap (λ k. jobs ++ (option_to_list (job_at includes (i + 1) e st) ++ jobs_of includes k rest st)) (next (i + 1))
    ∙ ap (λ (x : waiting.Waiting). jobs ++ jobs_of includes (i + 1) (x ∷ rest) st) is
    ∙ ap (λ l. jobs ++ jobs_of includes (i + 1) l st) (sym (drop_more entries i e lt))
    ∙ so_far
  where
    next : (k : ℕ) → k + 1 ≡ suc k
    next k = omega arith

-- ---- the front

pub front_more : (entries : List waiting.Waiting) (i : ℕ) (e : waiting.Waiting) (st now last : State) (asks : Bool) → i < length entries → e ≡ get_or entries i e → e.asks ≡ false
    → now ≡ known_end (value_of st.vars e.test.name) e.test (checking e.test.form.message st)
    → (any_asks (drop i entries) ≡ asks) × (front_end (drop i entries) st ≡ last)
    → (any_asks (drop (i + 1) entries) ≡ asks) × (front_end (drop (i + 1) entries) now ≡ last)
front_more entries i e st now last asks lt is no_ask moved so_far =
    let rest = drop (i + 1) entries in
    let here : drop i entries ≡ e ∷ rest = drop_more entries i e lt ∙ ap (λ (x : waiting.Waiting). x ∷ rest) (sym is) in (
      ap (λ b. b || any_asks rest) (sym no_ask) ∙ ap any_asks (sym here) ∙ so_far.0,
      ap (front_end rest) moved
          ∙ ap (λ b. cond b st (front_end rest (known_end (value_of st.vars e.test.name) e.test (checking e.test.form.message st)))) (sym no_ask)
          ∙ ap (λ l. front_end l st) (sym here) ∙ so_far.1,
    )

pub front_asks : (entries : List waiting.Waiting) (i : ℕ) (e : waiting.Waiting) (st last : State) (asks : Bool) → i < length entries → e ≡ get_or entries i e → e.asks ≡ true
    → (any_asks (drop i entries) ≡ asks) × (front_end (drop i entries) st ≡ last) → (true ≡ asks) × (st ≡ last)
front_asks entries i e st last asks lt is ask so_far =
    let rest = drop (i + 1) entries in
    let here : drop i entries ≡ e ∷ rest = drop_more entries i e lt ∙ ap (λ (x : waiting.Waiting). x ∷ rest) (sym is) in (
      ap (λ b. b || any_asks rest) (sym ask) ∙ ap any_asks (sym here) ∙ so_far.0,
      ap (λ b. cond b st (front_end rest (known_end (value_of st.vars e.test.name) e.test (checking e.test.form.message st)))) (sym ask)
          ∙ ap (λ l. front_end l st) (sym here) ∙ so_far.1,
    )

-- ---- the replies

entry_by : (asks : Bool) (t : FormCourse) (jobs left taken : List Job) (replies rest : List Reply) (reply : Reply) (st : State) → Takes asks jobs left taken → TakesReply asks replies rest reply
    → (entry_end asks t taken (reply ∷ []) st ≡ entry_end asks t jobs replies st) × (left ≡ rest_after asks jobs) × (rest ≡ rest_after asks replies)
entry_by true t [] left taken replies rest reply st job r =
    (ap (λ (x : List Job). heard_end (success reply) t (with_asked x (reply ∷ []) (checking t.form.message st))) job.0 ∙ ap (λ (x : Reply). heard_end (success x) t (checking t.form.message st)) r.0, job.1, r.1)
entry_by true t (j ∷ js) left taken replies rest reply st job r =
    (ap (λ (x : List Job). heard_end (success reply) t (with_asked x (reply ∷ []) (checking t.form.message st))) job.0 ∙ ap (λ (x : Reply). heard_end (success x) t (with_child j x (checking t.form.message st))) r.0, job.1, r.1)
entry_by false t jobs left taken replies rest reply st job r = (refl, job.1, r.1)

pub entries_more : (entries : List waiting.Waiting) (i : ℕ) (e : waiting.Waiting) (jobs left taken : List Job) (replies rest : List Reply) (reply : Reply) (st now last : State) → i < length entries → e ≡ get_or entries i e
    → Takes e.asks jobs left taken → TakesReply e.asks replies rest reply → now ≡ entry_end e.asks e.test taken (reply ∷ []) st
    → after_entries (drop i entries) jobs replies st ≡ last
    → after_entries (drop (i + 1) entries) left rest now ≡ last
entries_more entries i e jobs left taken replies rest reply st now last lt is job r moved so_far =
    let others = drop (i + 1) entries in
    let by = entry_by e.asks e.test jobs left taken replies rest reply st job r in
    ap (after_entries others left rest) (moved ∙ by.0)
    ∙ ap (λ l. after_entries others l rest (entry_end e.asks e.test jobs replies st)) by.1
    ∙ ap (λ l. after_entries others (rest_after e.asks jobs) l (entry_end e.asks e.test jobs replies st)) by.2
    ∙ ap (λ (x : waiting.Waiting). after_entries (x ∷ others) jobs replies st) is
    ∙ ap (λ l. after_entries l jobs replies st) (sym (drop_more entries i e lt))
    ∙ so_far

pub entries_start : (entries : List waiting.Waiting) (jobs back : List Job) (replies turned : List (Option Reply)) (st : State) → back ≡ reverse jobs → turned ≡ reverse replies
    → after_entries entries (reverse back) (all_replies (reverse turned)) st ≡ after_entries entries jobs (all_replies replies) st
entries_start entries jobs back replies turned st b t =
    ap (λ l. after_entries entries (reverse l) (all_replies (reverse turned)) st) b
    ∙ ap (λ l. after_entries entries l (all_replies (reverse turned)) st) (reverse-reverse jobs)
    ∙ ap (λ l. after_entries entries jobs (all_replies (reverse l)) st) t
    ∙ ap (λ l. after_entries entries jobs (all_replies l) st) (reverse-reverse replies)

-- ---- the first refused reply

pub heard_more : (replies : List (Option Reply)) (i : ℕ) (r : Option Reply) (whole : Option ℕ) → i < length replies → r ≡ get_or replies i r → is_some (success (unwrap_or r StartRefused)) ≡ true
    → option_map (λ k. i + k) (first_refused (all_replies (drop i replies))) ≡ whole → option_map (λ k. i + 1 + k) (first_refused (all_replies (drop (i + 1) replies))) ≡ whole
heard_more replies i r whole lt is answered so_far =
    let rest = drop (i + 1) replies in
    shifted (first_refused (all_replies rest)) (success (unwrap_or r StartRefused)) answered
    ∙ ap (λ x. option_map (λ k. i + k) (refused_here (success (unwrap_or x StartRefused)) (first_refused (all_replies rest)))) is
    ∙ ap (λ l. option_map (λ k. i + k) (first_refused (all_replies l))) (sym (drop_more replies i r lt))
    ∙ so_far
  where
    moved : (k : ℕ) → i + 1 + k ≡ i + suc k
    moved k = omega arith

    shifted : (o : Option ℕ) (s : Option Bool) → is_some s ≡ true → option_map (λ k. i + 1 + k) o ≡ option_map (λ k. i + k) (refused_here s o)
    shifted o None e = absurd cc
    shifted None (Some b) e = refl
    shifted (Some k) (Some b) e = ap Some (moved k)

pub refused_found : (replies : List (Option Reply)) (i number : ℕ) (r : Option Reply) (whole : Option ℕ) → i < length replies → r ≡ get_or replies i r → is_some (success (unwrap_or r StartRefused)) ≡ false
    → number ≡ i + 1 → option_map (λ k. i + k) (first_refused (all_replies (drop i replies))) ≡ whole → Some number ≡ whole
refused_found replies i number r whole lt is refused n so_far =
    let rest = drop (i + 1) replies in
    ap Some n
    ∙ here (first_refused (all_replies rest)) (success (unwrap_or r StartRefused)) refused
    ∙ ap (λ x. option_map (λ k. i + k) (refused_here (success (unwrap_or x StartRefused)) (first_refused (all_replies rest)))) is
    ∙ ap (λ l. option_map (λ k. i + k) (first_refused (all_replies l))) (sym (drop_more replies i r lt))
    ∙ so_far
  where
    here : (o : Option ℕ) (s : Option Bool) → is_some s ≡ false → Some (i + 1) ≡ option_map (λ k. i + k) (refused_here s o)
    here o None e = refl
    here o (Some b) e = absurd cc

pub none_refused : (o : Option ℕ) → option_map (λ k. 0 + k) o ≡ o
none_refused None = refl
none_refused (Some k) = ap Some (from_zero k)
  where
    from_zero : (k : ℕ) → 0 + k ≡ k
    from_zero k = omega arith

-- An entry is refused exactly if a reply is.
pub refused_same : (entries : List waiting.Waiting) (replies : List Reply) → length replies ≡ at_once entries → is_refused entries replies ≡ is_some (first_refused replies)
refused_same [] [] e = refl
refused_same [] (r ∷ rs) e = absurd (omega (arith, e))
refused_same (w ∷ more) replies e = by w.asks replies (refused_same more) e
  where
    none_first : (s : Option Bool) (o : Option ℕ) (b : Bool) → b ≡ is_some o → refuses s || b ≡ is_some (refused_here s o)
    none_first None o b h = refl
    none_first (Some x) None b h = h
    none_first (Some x) (Some k) b h = h

    by : (asks : Bool) (replies : List Reply) → ((rs : List Reply) → length rs ≡ at_once more → is_refused more rs ≡ is_some (first_refused rs)) → length replies ≡ cond asks (suc (at_once more)) (at_once more) → entry_refused asks replies || is_refused more (rest_after asks replies) ≡ is_some (first_refused replies)
    by true [] rec e = absurd (omega (arith, e))
    by true (r ∷ rs) rec e = none_first (success r) (first_refused rs) (is_refused more rs) (rec rs (omega (arith, e)))
    by false replies rec e = rec replies e

pub given_length : (replies : List (Option Reply)) → length (all_replies replies) ≡ length replies
given_length [] = refl
given_length (r ∷ rs) = ap suc (given_length rs)

some_is : {a b : ℕ} → Some a ≡ Some b → a ≡ b
some_is e = ap (λ o. unwrap_or o 0) e

pub refused_within : (replies : List Reply) (n : ℕ) → first_refused replies ≡ Some n → n ≤ length replies
refused_within [] n e = absurd (let z : None ≡ Some n = e in cc)
refused_within (r ∷ rs) n e = by (success r) (first_refused rs) (λ k h. refused_within rs k h) e
  where
    by : (s : Option Bool) (o : Option ℕ) → ((k : ℕ) → o ≡ Some k → k ≤ length rs) → refused_here s o ≡ Some n → n ≤ suc (length rs)
    by None o rec e = let is : 1 ≡ n = some_is e in omega (arith, is)
    by (Some b) None rec e = absurd (let z : None ≡ Some n = e in cc)
    by (Some b) (Some k) rec e = let is : suc k ≡ n = some_is e in omega (arith, is, rec k refl)

-- ---- the end

pub batch_cut : (entries view : List waiting.Waiting) (jobs : List Job) (replies shown : List (Option Reply)) (n : ℕ) (st now : State) (tests : List (List ℕ)) (next : State → Run) → shown ≡ replies → view ≡ entries
    → length replies ≡ length jobs → length jobs ≡ at_once entries → Some n ≡ first_refused (all_replies shown) → now ≡ after_entries view jobs (all_replies replies) st
    → batch_end tests (is_refused entries (all_replies replies)) next (after_entries entries jobs (all_replies replies) st) ≡ Ends Cut (broken_all tests Cut now)
batch_cut entries view jobs replies shown n st now tests next s v same asked cut is =
    ap (λ b. batch_end tests b next (after_entries entries jobs (all_replies replies) st))
    (refused_same entries (all_replies replies) (given_length replies ∙ same ∙ asked) ∙ ap is_some (ap (λ l. first_refused (all_replies l)) (sym s) ∙ sym cut))
    ∙ ap (λ x. Ends Cut (broken_all tests Cut x)) (sym (is ∙ ap (λ l. after_entries l jobs (all_replies replies) st) v))

pub batch_ends : (entries view : List waiting.Waiting) (jobs : List Job) (replies shown : List (Option Reply)) (st now : State) (tests : List (List ℕ)) (next : State → Run) → shown ≡ replies → view ≡ entries
    → length replies ≡ length jobs → length jobs ≡ at_once entries → None ≡ first_refused (all_replies shown) → now ≡ after_entries view jobs (all_replies replies) st
    → batch_end tests (is_refused entries (all_replies replies)) next (after_entries entries jobs (all_replies replies) st) ≡ next now
batch_ends entries view jobs replies shown st now tests next s v same asked goes is =
    ap (λ b. batch_end tests b next (after_entries entries jobs (all_replies replies) st))
    (refused_same entries (all_replies replies) (given_length replies ∙ same ∙ asked) ∙ ap is_some (ap (λ l. first_refused (all_replies l)) (sym s) ∙ sym goes))
    ∙ ap next (sym (is ∙ ap (λ l. after_entries l jobs (all_replies replies) st) v))

pub within_asked : (replies shown : List (Option Reply)) (n : ℕ) → shown ≡ replies → Some n ≡ first_refused (all_replies shown) → n ≤ length replies
within_asked replies shown n s cut = omega (arith, refused_within (all_replies replies) n (ap (λ l. first_refused (all_replies l)) (sym s) ∙ sym cut), given_length replies)

pub is_nothing : {A : Type 0} (xs : List A) (n : ℕ) → n ≡ length xs → true ≡ (n == 0) → xs ≡ []
is_nothing [] n e t = refl
is_nothing (x ∷ xs) n e t = absurd (elim (eqb_tells n 0) [ inl w ↦ omega (arith, w.1, e) | inr w ↦ (let z : true ≡ false = t ∙ w.0 in cc) ])

pub is_something : {A : Type 0} (xs : List A) (n : ℕ) → n ≡ length xs → false ≡ (n == 0) → 0 < length xs
is_something [] n e f = absurd (elim (eqb_tells n 0) [ inl w ↦ (let z : false ≡ true = f ∙ w.0 in cc) | inr w ↦ w.1 e ])
is_something (x ∷ xs) n e f = omega arith
