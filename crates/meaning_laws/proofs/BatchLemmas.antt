-- All entries of a batch.
use Rattle.std.proofs.Common.{◌≡◌, ℕ, suc, ◌≤◌, Option, Some, None, List, [], ◌∷◌, length, drop, Bool, true, false, cond, ◌⊎◌, inl, inr, refl, sym, ap, ◌∙◌, subst, ⊎_elim, arith, ◌++◌, append_assoc}
use Rattle.std.specs.Prelude.{◌||◌, option_map, bytes_eq, is_some}
use Rattle.std.proofs.lemmas.Bool.{cases_Bool}
use Rattle.std.proofs.lemmas.List.{append-nil}
use Rattle.crew_jobs.specs.declared.job.Job.{Job}
use Rattle.crew_trait.specs.declared.reply.Reply.{Reply}
use Rattle.deftable.specs.NameList.{AreDistinct}
use Rattle.deftable.specs.Table.{value_of}
use Rattle.deftable.specs.declared.note.Stream.TheVariants.{Err}
use Rattle.meaning.specs.State.{piece, with_note, State, Goes_on, Stopped, Run, Ends}
use Rattle.meaning.specs.Asking.{success, only_reply, no_compiler}
use Rattle.meaning.specs.Forms.{FormTest, form_name}
use Rattle.meaning.specs.Batches.{AreBatched, IsBatched, test_job, is_known, job_for, asks_all, asking, jobs_in, replies_after, commits, committed}
use Rattle.meaning.specs.Play.{first_refused, refused_here}
use Rattle.meaning_laws.specs.Logged.{children_of}
use Rattle.meaning_laws.specs.Batched.{lacks_compiler, answer_to, defs_all, form_defs, test_pieces, cut_by, BatchCommits, IsEntry, BatchAsksUnset, all_set, StopsUnless, BatchStops, BatchKeepsSet, BatchAsksFew, names_asked, BatchAsksOnce}
use Rattle.meaning.proofs.Batches.{has_job, lacks_job, ready_is}
use Rattle.meaning_laws.proofs.Values.{same_text, same_self, not_same, apart, cond_true, cond_false, cases_value}
use Rattle.meaning_laws.proofs.BatchEntries.{row_at, how_if, flag_of, set_by, asks_line, result_line, refused_in, Stands, Comes, quiet, asked, or_cases, or_false, by_none, all_committed, set_here, set_there, said, unset_flag, unset_stops, one_set}
use Rattle.std.specs.List.{list_any, AllByRecursion, IsDistinct}

-- ---- what is asked for

pub job_true : (test : FormTest) (place : ℕ) (earlier : List (List ℕ)) (st : State) → is_known (form_name test.form) earlier st ≡ true → job_for test place earlier st ≡ None
job_true test place earlier st t = cond_true (is_known (form_name test.form) earlier st) None (test_job test place st) t

pub job_false : (test : FormTest) (place : ℕ) (earlier : List (List ℕ)) (st : State) → IsBatched test.form → lacks_compiler st ≡ false → is_known (form_name test.form) earlier st ≡ false
    → (job : Job) × (job_for test place earlier st ≡ Some job)
job_false test place earlier st one c f =
    let own = has_job test place st one c in
    (own.0, cond_false (is_known (form_name test.form) earlier st) None (test_job test place st) f ∙ own.1)

-- An entry of another name, or one that asks for nothing.
skipped : (n : List ℕ) (test : FormTest) (job : Option Job) (tail : List (FormTest × Option Job)) (replies : List Reply) → (bytes_eq n (form_name test.form) ≡ false) ⊎ (job ≡ None)
    → answer_to n ((test, job) ∷ tail) replies ≡ answer_to n tail (replies_after job replies)
skipped n test None tail replies h = refl
skipped n test (Some job) tail replies h =
    ⊎_elim (λ f. cond_false (bytes_eq n (form_name test.form)) (Some (only_reply replies)) (answer_to n tail (drop 1 replies)) f) (λ z. cc) h

or_more : (a b c : Bool) → a || c ≡ true → a || (b || c) ≡ true
or_more true b c e = refl
or_more false true c e = refl
or_more false false c e = e

or_here_too : (a b c : Bool) → b ≡ true → a || (b || c) ≡ true
or_here_too true b c e = refl
or_here_too false b c e = ap (λ x. x || c) e

-- A name that was set when the batch began, or is that of an earlier entry, asks for nothing.
pub unasked : (tests : List FormTest) (place : ℕ) (earlier : List (List ℕ)) (st : State) (n : List ℕ) (replies : List Reply) → is_some (value_of st.vars n) || list_any (bytes_eq n) earlier ≡ true
    → answer_to n (asking place earlier tests st) replies ≡ None
unasked [] place earlier st n replies h = refl
unasked (test ∷ more) place earlier st n replies h =
    let name = form_name test.form in
    let job = job_for test place earlier st in
    let tail = asking (suc place) (name ∷ earlier) more st in
    skipped n test job tail replies
    (⊎_elim
    (λ t. inr (job_true test place earlier st (subst (λ x. is_some (value_of st.vars x) || list_any (bytes_eq x) earlier ≡ true) (same_text n name t) h)))
    (λ f. inl f)
    (cases_Bool (bytes_eq n name)))
    ∙ unasked more (suc place) (name ∷ earlier) st n (replies_after job replies) (or_more (is_some (value_of st.vars n)) (bytes_eq n name) (list_any (bytes_eq n) earlier) h)

-- A name that is no entry's asks for nothing.
stranger : (tests : List FormTest) (place : ℕ) (earlier : List (List ℕ)) (st : State) (n : List ℕ) (replies : List Reply) → (IsEntry n tests → ⊥) → answer_to n (asking place earlier tests st) replies ≡ None
stranger [] place earlier st n replies h = refl
stranger (test ∷ more) place earlier st n replies h =
    let name = form_name test.form in
    let job = job_for test place earlier st in
    skipped n test job (asking (suc place) (name ∷ earlier) more st) replies (inl (not_same n name (λ e. h (inl (sym e)))))
    ∙ stranger more (suc place) (name ∷ earlier) st n (replies_after job replies) (λ k. h (inr k))

-- An unset name of the list asks for a child.
asks : (tests : List FormTest) (place : ℕ) (earlier : List (List ℕ)) (st : State) (n : List ℕ) (replies : List Reply) → AreBatched tests → lacks_compiler st ≡ false → is_some (value_of st.vars n) || list_any (bytes_eq n) earlier ≡ false → IsEntry n tests
    → (reply : Reply) × (answer_to n (asking place earlier tests st) replies ≡ Some reply)
asks [] place earlier st n replies all c f h = absurd h
asks (test ∷ more) place earlier st n replies all c f h =
    let name = form_name test.form in
    let job = job_for test place earlier st in
    let tail = asking (suc place) (name ∷ earlier) more st in
    ⊎_elim
    (λ t.
    let own = job_false test place earlier st all.0 c (subst (λ x. is_some (value_of st.vars x) || list_any (bytes_eq x) earlier ≡ false) (same_text n name t) f) in
    (only_reply replies, ap (λ j. answer_to n ((test, j) ∷ tail) replies) own.1 ∙ cond_true (bytes_eq n name) (Some (only_reply replies)) (answer_to n tail (drop 1 replies)) t))
    (λ ne.
    let both = or_false (is_some (value_of st.vars n)) (list_any (bytes_eq n) earlier) f in
    let later = asks more (suc place) (name ∷ earlier) st n (replies_after job replies) all.1 c
    (ap (λ x. x || (bytes_eq n name || list_any (bytes_eq n) earlier)) both.0 ∙ ap (λ x. x || list_any (bytes_eq n) earlier) ne ∙ both.1)
    (⊎_elim (λ e. absurd (apart n name ne (sym e))) (λ k. k) h) in
    (later.0, skipped n test job tail replies (inl ne) ∙ later.1))
    (cases_Bool (bytes_eq n name))

some_is : (o : Option (List ℕ)) (v : List ℕ) → o ≡ Some v → is_some o ≡ true
some_is o v e = ap is_some e

none_is : (o : Option (List ℕ)) → o ≡ None → is_some o ≡ false
none_is o e = ap is_some e

or_second : (a b : Bool) → b ≡ true → a || b ≡ true
or_second true b e = refl
or_second false b e = e

or_first : (a b : Bool) → a ≡ true → a || b ≡ true
or_first a b e = ap (λ x. x || b) e

pub batch_asks_unset : BatchAsksUnset
batch_asks_unset tests st name replies all c = record {
  unset = λ h e. asks tests 1 [] st name replies all c (ap (λ x. x || false) (none_is (value_of st.vars name) e)) h;
  known = λ value e. unasked tests 1 [] st name replies (or_first (is_some (value_of st.vars name)) false (some_is (value_of st.vars name) value e));
  stranger = λ h. stranger tests 1 [] st name replies h;
}

-- ---- the entries are committed

some_value : (o : Option (List ℕ)) → is_some o ≡ true → (v : List ℕ) × (o ≡ Some v)
some_value None e = cc
some_value (Some v) e = (v, refl)

pub none_value : (o : Option (List ℕ)) → is_some o ≡ false → o ≡ None
none_value None e = refl
none_value (Some v) e = cc

row_ready : (test : FormTest) (job : Option Job) (reply : Reply) (st : State) → IsBatched test.form → lacks_compiler st ≡ false → (row_at test job reply st).ready ≡ true
row_ready test job reply st one c = ready_is test st one ∙ ap is_some (has_job test 0 st one c).1

-- What is known of the entries after one.
abbrev Later : State → FormTest → List (List ℕ) → ℕ → List FormTest → Type 0
Later first test earlier place more =
    (replies : List Reply) (refused : Bool) (now : State) → Stands (form_name test.form ∷ earlier) refused first now
    → length replies ≡ length (jobs_in (asking (suc place) (form_name test.form ∷ earlier) more first))
    → Comes more (asking (suc place) (form_name test.form ∷ earlier) more first) replies refused now (committed first (asking (suc place) (form_name test.form ∷ earlier) more first) replies refused now)

-- What is to be known of an entry with a job, and of those after it.
abbrev Whole : State → FormTest → Option Job → List (List ℕ) → ℕ → List FormTest → List Reply → Bool → State → Type 0
Whole first test job earlier place more replies refused now =
    length replies ≡ length (jobs_in ((test, job) ∷ asking (suc place) (form_name test.form ∷ earlier) more first))
    → Comes (test ∷ more) ((test, job) ∷ asking (suc place) (form_name test.form ∷ earlier) more first) replies refused now
    (committed first ((test, job) ∷ asking (suc place) (form_name test.form ∷ earlier) more first) replies refused now)

-- Its name was set when the batch began, or is that of an earlier entry.
no_job : (first : State) (test : FormTest) (earlier : List (List ℕ)) (place : ℕ) (more : List FormTest) (replies : List Reply) (refused : Bool) (now : State) → IsBatched test.form → lacks_compiler first ≡ false → Stands earlier refused first now → Later first test earlier place more
    → is_some (value_of first.vars (form_name test.form)) || list_any (bytes_eq (form_name test.form)) earlier ≡ true
    → Whole first test (job_for test place earlier first) earlier place more replies refused now
no_job first test earlier place more replies refused now one c s later t =
    let name = form_name test.form in
    let known : value_of now.vars name ≡ None → refused ≡ true =
    λ e. ⊎_elim
    (λ set. let some = some_value (value_of first.vars name) set in let z : None ≡ Some some.0 = sym e ∙ s.kept name some.0 some.1 in cc)
    (λ early. s.early name early e)
    (or_cases (is_some (value_of first.vars name)) (list_any (bytes_eq name) earlier) t) in
    let stands : (x : State) → x.vars ≡ now.vars → Stands (name ∷ earlier) refused first x =
    λ x same. record {
      early = λ n h e. ⊎_elim
          (λ a. known (ap (λ l. value_of l name) (sym same) ∙ ap (value_of x.vars) (sym (same_text n name a)) ∙ e))
          (λ b. s.early n b (ap (λ l. value_of l n) (sym same) ∙ e))
          (or_cases (bytes_eq n name) (list_any (bytes_eq n) earlier) h);
      kept = λ n v e. ap (λ l. value_of l n) same ∙ s.kept n v e;
      others = λ n h. ap (λ l. value_of l n) same ∙ s.others n (or_false (bytes_eq n name) (list_any (bytes_eq n) earlier) h).1;
    } in
    subst (λ job. Whole first test job earlier place more replies refused now) (sym (job_true test place earlier first t))
    (λ len. quiet test more (asking (suc place) (name ∷ earlier) more first) replies refused first now one (row_ready test None (only_reply replies) first one c) known
    (unasked more (suc place) (name ∷ earlier) first name replies (or_here_too (is_some (value_of first.vars name)) (bytes_eq name name) (list_any (bytes_eq name) earlier) (same_self name)))
    (λ x same. later replies refused x (stands x same) len))

-- Its name is unset, and this is the first entry of it.
own_job : (first : State) (test : FormTest) (earlier : List (List ℕ)) (place : ℕ) (more : List FormTest) (replies : List Reply) (refused : Bool) (now : State) → IsBatched test.form → lacks_compiler first ≡ false → Stands earlier refused first now → Later first test earlier place more
    → is_some (value_of first.vars (form_name test.form)) || list_any (bytes_eq (form_name test.form)) earlier ≡ false
    → (job : Job) → Whole first test (Some job) earlier place more replies refused now
own_job first test earlier place more [] refused now one c s later f job len = cc
own_job first test earlier place more (r ∷ rs) refused now one c s later f job len =
    let name = form_name test.form in
    let tail = asking (suc place) (name ∷ earlier) more first in
    let both = or_false (is_some (value_of first.vars name)) (list_any (bytes_eq name) earlier) f in
    let before : value_of first.vars name ≡ None = none_value (value_of first.vars name) both.0 in
    let unset : value_of now.vars name ≡ None = s.others name both.1 ∙ before in
    let stands : (x : State) → x.vars ≡ set_by (success r) name now.vars → Stands (name ∷ earlier) (flag_of (success r) || refused) first x =
    λ x same. record {
      early = λ n h e. ⊎_elim
          (λ a. or_first (flag_of (success r)) refused (unset_flag (success r) (sym (ap (λ l. value_of l name) same ∙ set_here (success r) now.vars name unset) ∙ ap (value_of x.vars) (sym (same_text n name a)) ∙ e)))
          (λ no_a. or_second (flag_of (success r)) refused (s.early n (⊎_elim (λ a. let z : true ≡ false = sym a ∙ no_a in cc) (λ b. b) (or_cases (bytes_eq n name) (list_any (bytes_eq n) earlier) h)) (sym (ap (λ l. value_of l n) same ∙ set_there (success r) now.vars name n no_a) ∙ e)))
          (cases_Bool (bytes_eq n name));
      kept = λ n v e.
          let ne : bytes_eq n name ≡ false = not_same n name (λ k. let z : None ≡ Some v = sym before ∙ ap (value_of first.vars) (sym k) ∙ e in cc) in
          ap (λ l. value_of l n) same ∙ set_there (success r) now.vars name n ne ∙ s.kept n v e;
      others = λ n h.
          let apart_both = or_false (bytes_eq n name) (list_any (bytes_eq n) earlier) h in
          ap (λ l. value_of l n) same ∙ set_there (success r) now.vars name n apart_both.0 ∙ s.others n apart_both.1;
    } in
    let shorter : length rs ≡ length (jobs_in tail) = omega (arith, len) in
    asked test job more tail r rs refused first now one (row_ready test (Some job) r first one c) unset
    (unasked more (suc place) (name ∷ earlier) first name rs (or_here_too (is_some (value_of first.vars name)) (bytes_eq name name) (list_any (bytes_eq name) earlier) (same_self name)))
    (λ x same. later rs (flag_of (success r) || refused) x (stands x same) shorter)

pub comes : (first : State) → lacks_compiler first ≡ false → (tests : List FormTest) → AreBatched tests → (place : ℕ) (earlier : List (List ℕ)) (replies : List Reply) (refused : Bool) (now : State) → Stands earlier refused first now
    → length replies ≡ length (jobs_in (asking place earlier tests first))
    → Comes tests (asking place earlier tests first) replies refused now (committed first (asking place earlier tests first) replies refused now)
comes first c [] all place earlier [] refused now s len = record { end = now; is = all_committed first [] refused now; value = λ n. by_none (value_of now.vars n); defs = refl; said = sym (append-nil now.messages); logged = sym (append-nil (children_of now.log)) }
comes first c [] all place earlier (r ∷ rs) refused now s len = cc
comes first c (test ∷ more) all place earlier replies refused now s len =
    let later : Later first test earlier place more = λ rs b x k l. comes first c more all.1 (suc place) (form_name test.form ∷ earlier) rs b x k l in
    ⊎_elim
    (λ t. no_job first test earlier place more replies refused now all.0 c s later t len)
    (λ f. let own = job_false test place earlier first all.0 c f in
    subst (λ job. Whole first test job earlier place more replies refused now) (sym own.1)
    (own_job first test earlier place more replies refused now all.0 c s later f own.0) len)
    (cases_Bool (is_some (value_of first.vars (form_name test.form)) || list_any (bytes_eq (form_name test.form)) earlier))

pub how_is : (replies : List Reply) → how_if (refused_in replies) ≡ cut_by (first_refused replies)
how_is [] = refl
how_is (r ∷ rs) = by_first (success r) rs (how_is rs)
  where
    moved : (o : Option ℕ) → cut_by o ≡ cut_by (option_map suc o)
    moved None = refl
    moved (Some k) = refl

    by_first : (s : Option Bool) (rs : List Reply) → how_if (refused_in rs) ≡ cut_by (first_refused rs) → how_if (flag_of s || refused_in rs) ≡ cut_by (refused_here s (first_refused rs))
    by_first None rs h = refl
    by_first (Some b) rs h = h ∙ moved (first_refused rs)

pub batch_commits : BatchCommits
batch_commits tests st replies all c len =
    let go = comes st c tests all 1 [] replies false st (record { early = λ n h e. cc; kept = λ n v e. e; others = λ n h. refl }) len in
    record { now = go.end; is = go.is ∙ ap (λ h. Ends h go.end) (how_is replies); value = go.value; defs = go.defs; said = go.said; logged = go.logged }

-- ---- without a compiler

job_none : (test : FormTest) (place : ℕ) (earlier : List (List ℕ)) (st : State) → IsBatched test.form → lacks_compiler st ≡ true → job_for test place earlier st ≡ None
job_none test place earlier st one c =
    ap (cond (is_known (form_name test.form) earlier st) None) (lacks_job test place st one c) ∙ either (is_known (form_name test.form) earlier st)
  where
    either : (b : Bool) → ◌≡◌ {A = Option Job} (cond b None None) None
    either true = refl
    either false = refl

pub no_jobs : (tests : List FormTest) → AreBatched tests → (place : ℕ) (earlier : List (List ℕ)) (st : State) → lacks_compiler st ≡ true → jobs_in (asking place earlier tests st) ≡ []
no_jobs [] all place earlier st c = refl
no_jobs (test ∷ more) all place earlier st c =
    ap (λ j. jobs_in ((test, j) ∷ asking (suc place) (form_name test.form ∷ earlier) more st)) (job_none test place earlier st all.0 c)
    ∙ no_jobs more all.1 (suc place) (form_name test.form ∷ earlier) st c

stops : (first : State) → lacks_compiler first ≡ true → (tests : List FormTest) → AreBatched tests → (place : ℕ) (earlier : List (List ℕ)) (replies : List Reply) (now : State) → now.vars ≡ first.vars → children_of now.log ≡ children_of first.log
    → StopsUnless (all_set tests first) first (committed first (asking place earlier tests first) replies false now)
stops first c [] all place earlier replies now same logged = record { now = now; is = refl; vars = same; logged = logged }
stops first c (test ∷ more) all place earlier replies now same logged =
    let name = form_name test.form in
    let job = job_for test place earlier first in
    let tail = asking (suc place) (name ∷ earlier) more first in
    let rest = committed first tail (replies_after job replies) in
    let r = row_at test job (only_reply replies) first in
    ⊎_elim
    (λ e.
    let here : is_some (value_of first.vars name) ≡ false = ap is_some (ap (λ l. value_of l name) (sym same) ∙ e) in
    record {
      now = with_note Err no_compiler now;
      is = ap (λ run. commits run false rest) (unset_stops r now e (ready_is test first all.0 ∙ ap is_some (lacks_job test 0 first all.0 c))) ∙ ap (λ b. Ends (cond b Goes_on (Stopped 1)) (with_note Err no_compiler now)) (sym (cond_false (is_some (value_of first.vars name)) (all_set more first) false here));
      vars = same;
      logged = said now.log (piece Err no_compiler) ∙ logged;
    })
    (λ some.
    let here : is_some (value_of first.vars name) ≡ true = ap is_some (ap (λ l. value_of l name) (sym same) ∙ some.1) in
    let one = one_set test job (only_reply replies) first now some.0 all.0 some.1 in
    let later = stops first c more all.1 (suc place) (name ∷ earlier) (replies_after job replies) one.end (one.after ∙ same) (one.logged ∙ logged) in
    record {
      now = later.now;
      is = ap (λ run. commits run false rest) one.is ∙ later.is ∙ ap (λ b. Ends (cond b Goes_on (Stopped 1)) later.now) (sym (cond_true (is_some (value_of first.vars name)) (all_set more first) false here));
      vars = later.vars;
      logged = later.logged;
    })
    (cases_value (value_of now.vars name))

pub batch_stops : BatchStops
batch_stops tests st all c =
    let s = stops st c tests all 1 [] [] st refl refl in
    record { now = s.now; is = ap (λ jobs. asks_all jobs (λ replies. committed st (asking 1 [] tests st) replies false st)) (no_jobs tests all 1 [] st c) ∙ s.is; vars = s.vars; logged = s.logged }

-- ---- a batch whose names are set

both_true : (a b : Bool) → cond a b false ≡ true → (a ≡ true) × (b ≡ true)
both_true true b e = (refl, e)
both_true false b e = cc

pub no_job_set : (test : FormTest) (place : ℕ) (earlier : List (List ℕ)) (st : State) → is_some (value_of st.vars (form_name test.form)) ≡ true → job_for test place earlier st ≡ None
no_job_set test place earlier st e =
    let name = form_name test.form in
    job_true test place earlier st (or_first (is_some (value_of st.vars name)) (list_any (bytes_eq name) earlier) e)

none_asked : (tests : List FormTest) (place : ℕ) (earlier : List (List ℕ)) (st : State) → all_set tests st ≡ true → jobs_in (asking place earlier tests st) ≡ []
none_asked [] place earlier st e = refl
none_asked (test ∷ more) place earlier st e =
    let name = form_name test.form in
    let set = both_true (is_some (value_of st.vars name)) (all_set more st) e in
    ap (λ j. jobs_in ((test, j) ∷ asking (suc place) (name ∷ earlier) more st)) (no_job_set test place earlier st set.0) ∙ none_asked more (suc place) (name ∷ earlier) st set.1

record Kept (tests : List FormTest) (asks : List (FormTest × Option Job)) (now : State) (run : Run) : Type 0 where
  end : State
  is : run ≡ Ends Goes_on end
  vars : end.vars ≡ now.vars
  defs : end.defs ≡ defs_all tests (value_of now.vars) now.defs
  said : end.messages ≡ now.messages ++ test_pieces asks (value_of now.vars)
  logged : children_of end.log ≡ children_of now.log

kept_set : (first : State) (tests : List FormTest) → AreBatched tests → (place : ℕ) (earlier : List (List ℕ)) (replies : List Reply) (now : State) → all_set tests first ≡ true → now.vars ≡ first.vars
    → Kept tests (asking place earlier tests first) now (committed first (asking place earlier tests first) replies false now)
kept_set first [] all place earlier replies now e same = record { end = now; is = refl; vars = refl; defs = refl; said = sym (append-nil now.messages); logged = refl }
kept_set first (test ∷ more) all place earlier replies now e same =
    let name = form_name test.form in
    let set = both_true (is_some (value_of first.vars name)) (all_set more first) e in
    let job = job_for test place earlier first in
    let tail = asking (suc place) (name ∷ earlier) more first in
    let v = some_value (value_of first.vars name) set.0 in
    let one = one_set test job (only_reply replies) first now v.0 all.0 (ap (λ l. value_of l name) same ∙ v.1) in
    let later = kept_set first more all.1 (suc place) (name ∷ earlier) (replies_after job replies) one.end set.1 (one.after ∙ same) in
    let line = asks_line test in
    record {
      end = later.end;
      is = ap (λ run. commits run false (committed first tail (replies_after job replies))) one.is ∙ later.is;
      vars = later.vars ∙ one.after;
      defs = later.defs ∙ ap (λ l. defs_all more (value_of l) one.end.defs) one.after
          ∙ ap (defs_all more (value_of now.vars)) (one.defs ∙ ap (λ l. form_defs test.form (value_of l name) now.defs) one.after);
      said = later.said ∙ ap (λ l. one.end.messages ++ test_pieces tail (value_of l)) one.after
          ∙ ap (λ m. m ++ test_pieces tail (value_of now.vars)) (one.said ∙ ap (λ l. now.messages ++ line ∷ result_line None (value_of l name) ∷ []) one.after)
          ∙ append_assoc now.messages (line ∷ result_line None (value_of now.vars name) ∷ []) (test_pieces tail (value_of now.vars))
          ∙ ap (λ j. now.messages ++ test_pieces ((test, j) ∷ tail) (value_of now.vars)) (sym (no_job_set test place earlier first set.0));
      logged = later.logged ∙ one.logged;
    }

pub batch_keeps_set : BatchKeepsSet
batch_keeps_set tests st all e =
    let k = kept_set st tests all 1 [] [] st e refl in
    record {
      now = k.end;
      is = ap (λ jobs. asks_all jobs (λ replies. committed st (asking 1 [] tests st) replies false st)) (none_asked tests 1 [] st e) ∙ k.is;
      vars = k.vars;
      defs = k.defs;
      said = k.said;
      logged = k.logged;
    }

-- ---- how many jobs

one_job : (test : FormTest) (job : Option Job) (tail : List (FormTest × Option Job)) (n : ℕ) → length (jobs_in tail) ≤ n → length (jobs_in ((test, job) ∷ tail)) ≤ suc n
one_job test None tail n h = omega (arith, h)
one_job test (Some job) tail n h = omega (arith, h)

few : (tests : List FormTest) (place : ℕ) (earlier : List (List ℕ)) (st : State) → length (jobs_in (asking place earlier tests st)) ≤ length tests
few [] place earlier st = omega arith
few (test ∷ more) place earlier st =
    one_job test (job_for test place earlier st) (asking (suc place) (form_name test.form ∷ earlier) more st) (length more) (few more (suc place) (form_name test.form ∷ earlier) st)

pub batch_asks_few : BatchAsksFew
batch_asks_few tests st = few tests 1 [] st

-- ---- each name is asked for once

abbrev Others : List ℕ → List (List ℕ) → Type 0
Others n names = AllByRecursion (λ m. bytes_eq n m ≡ false) names

-- An entry of another name, or one that asks for nothing.
not_here : (test : FormTest) (job : Option Job) (tail : List (FormTest × Option Job)) (n : List ℕ) → (bytes_eq n (form_name test.form) ≡ false) ⊎ (job ≡ None)
    → Others n (names_asked tail) → Others n (names_asked ((test, job) ∷ tail))
not_here test None tail n h later = later
not_here test (Some job) tail n h later = ⊎_elim (λ f. (f, later)) (λ z. cc) h

-- If the name is that of an earlier entry, no child is asked for it.
not_again : (tests : List FormTest) (place : ℕ) (earlier : List (List ℕ)) (st : State) (n : List ℕ) → list_any (bytes_eq n) earlier ≡ true
    → Others n (names_asked (asking place earlier tests st))
not_again [] place earlier st n h = tt
not_again (test ∷ more) place earlier st n h =
    let name = form_name test.form in
    not_here test (job_for test place earlier st) (asking (suc place) (name ∷ earlier) more st) n
    (⊎_elim
    (λ t. inr (job_true test place earlier st (or_second (is_some (value_of st.vars name)) (list_any (bytes_eq name) earlier) (subst (λ x. list_any (bytes_eq x) earlier ≡ true) (same_text n name t) h))))
    (λ f. inl f)
    (cases_Bool (bytes_eq n name)))
    (not_again more (suc place) (name ∷ earlier) st n (or_second (bytes_eq n name) (list_any (bytes_eq n) earlier) h))

asks_apart : (test : FormTest) (job : Option Job) (tail : List (FormTest × Option Job)) → Others (form_name test.form) (names_asked tail) → AreDistinct (names_asked tail)
    → AreDistinct (names_asked ((test, job) ∷ tail))
unfolding IsDistinct
asks_apart test None tail apart_all rest = rest
asks_apart test (Some job) tail apart_all rest = (apart_all, rest)

once_each : (tests : List FormTest) (place : ℕ) (earlier : List (List ℕ)) (st : State) → AreDistinct (names_asked (asking place earlier tests st))
unfolding IsDistinct
once_each [] place earlier st = tt
once_each (test ∷ more) place earlier st =
    let name = form_name test.form in
    asks_apart test (job_for test place earlier st) (asking (suc place) (name ∷ earlier) more st)
    (not_again more (suc place) (name ∷ earlier) st name (or_first (bytes_eq name name) (list_any (bytes_eq name) earlier) (same_self name)))
    (once_each more (suc place) (name ∷ earlier) st)

pub batch_asks_once : BatchAsksOnce
batch_asks_once tests st = once_each tests 1 [] st
