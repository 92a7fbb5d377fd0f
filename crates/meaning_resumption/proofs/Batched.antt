-- Batches: in states that are alike, under replies, and with all names set.
use Rattle.std.proofs.Common.{◌≡◌, ℕ, suc, ◌≤◌, List, [], ◌∷◌, Bool, true, false, cond, length, take, drop, map, Option, Some, None, ◌⊎◌, inl, inr, refl, sym, ap, ◌∙◌, subst, ⊎_elim, arith}
use Rattle.std.specs.Prelude.{◌||◌, bytes_eq, option_map, option_to_list, is_some}
use Rattle.std.specs.List.{list_any}
use Rattle.std.proofs.lemmas.Bool.{cases_Bool}
use Rattle.std.proofs.lemmas.List.{append-nil, length-take-le}
use Rattle.crew_jobs.specs.declared.job.Job.{Job}
use Rattle.crew_trait.specs.declared.reply.Reply.{Reply}
use Rattle.crew_trait.specs.declared.reply.Reply.TheVariants.{StartRefused}
use Rattle.deftable.specs.Table.{value_of}
use Rattle.ac_tree.specs.Resumable.{Among, ReadsAll}
use Rattle.meaning.specs.State.{State, with_child, with_variable, How, Goes_on, Completed, Stopped, Cut, Run, Ends, Asks, as_is}
use Rattle.meaning.specs.Asking.{success, only_reply, after_child}
use Rattle.meaning.specs.Tests.{tested, tested_by, may_begin, cached_test}
use Rattle.meaning.specs.Rows.{message_of, shown_of, after_of, Formed}
use Rattle.meaning.specs.Forms.{FormTest, form_name}
use Rattle.meaning.specs.Batches.{AreBatched, test_job, is_known, job_for, asking, jobs_in, asks_all, with_body, yes_or_no, replied, replies_after, commits, committed, batched}
use Rattle.meaning.specs.Play.{first_refused}
use Rattle.meaning_laws.specs.Ends.{AtEnds}
use Rattle.meaning_laws.specs.Cached.{StandsOnce, KeepsOnce}
use Rattle.meaning_laws.specs.Batched.{lacks_compiler, answer_to, value_by, defs_all, form_defs, cut_by, all_set, IsEntry}
use Rattle.meaning_laws.proofs.Values.{same_text, same_self, cond_true, cond_false, once_with}
use Rattle.meaning_laws.proofs.BatchEntries.{row_at, how_if, flag_of, refused_in, or_false, by_none}
use Rattle.meaning_laws.proofs.BatchLemmas.{job_true, job_false, none_value, how_is, batch_commits, batch_asks_unset, batch_keeps_set}
use Rattle.meaning_resumption.specs.Finished.{Finished, finish, with_taken, Enough}
use Rattle.meaning_resumption.specs.Joint.{answer_or, joint_entries}
use Rattle.meaning_resumption.proofs.Near.{IsCached, Alike, Every, Like}
use Rattle.meaning_laws.proofs.Names.{form_cached}
use Rattle.meaning_resumption.proofs.Names.{same_or_not}
use Rattle.meaning_resumption.proofs.Liking.{like_then, cached_like, heard_like, child_alike, variable_alike, after_alike, row_same, test_job_same}

-- ---- batches in states that are alike

replied_once : (name : List ℕ) (job : Option Job) (reply : Reply) → KeepsOnce name (replied name job reply)
replied_once name None reply st h = h
replied_once name (Some job) reply st h = by_answer (success reply)
  where
    by_answer : (answer : Option Bool) → AtEnds (λ how now. StandsOnce name now.vars) (after_child as_is answer (with_child job reply st) (λ found now. Ends Goes_on (with_variable name (yes_or_no found) now)))
    by_answer None = h
    by_answer (Some b) = once_with st.vars name (yes_or_no b) name h

replied_like : (name : List ℕ) (job : Option Job) (reply : Reply) (s t : State) → Alike Every s t → Like Every (replied name job reply s) (replied name job reply t)
replied_like name None reply s t h = (refl, h)
replied_like name (Some job) reply s t h =
    heard_like Every (success reply) (with_child job reply s) (with_child job reply t) _ _ (child_alike Every job reply s t h)
    (λ b. (refl, variable_alike Every name (yes_or_no b) (with_child job reply s) (with_child job reply t) (child_alike Every job reply s t h)))

entry_by : (test : FormTest) (job : Option Job) (reply : Reply) (first : State) (b : Bool) (s t : State) → Alike Every s t → Like Every (tested_by b (row_at test job reply first) s) (tested_by b (row_at test job reply first) t)
entry_by test job reply first true s t h =
    let kind = Formed test in
    let name = form_name test.form in
    like_then Every (cached_test (row_at test job reply first).test s) (cached_test (row_at test job reply first).test t) _ _
    (cached_like Every name (message_of kind) (message_of kind) (replied name job reply) (shown_of kind) s t tt (replied_once name job reply) (λ x y l. replied_like name job reply x y l) h)
    (λ x y l. (refl, subst (λ o. Alike Every (after_of kind (value_of x.vars name) x) (after_of kind o y)) (l.value name tt) (after_alike Every kind (value_of x.vars name) x y tt l)))
entry_by test job reply first false s t h = (refl, record { defs = h.defs; value = h.value })

-- What the programs of these tests include may be read.
abbrev pub ReadsBatch : List (List ℕ) → List FormTest → Type 0
ReadsBatch names [] = Unit {0}
ReadsBatch names (test ∷ more) = ReadsAll names (option_to_list test.given) × ReadsBatch names more

abbrev ReadsAsked : List (List ℕ) → List (FormTest × Option Job) → Type 0
ReadsAsked names [] = Unit {0}
ReadsAsked names ((test, job) ∷ more) = ReadsAll names (option_to_list test.given) × ReadsAsked names more

reads_asked : (names : List (List ℕ)) (tests : List FormTest) (place : ℕ) (earlier : List (List ℕ)) (st : State) → ReadsBatch names tests → ReadsAsked names (asking place earlier tests st)
reads_asked names [] place earlier st r = tt
reads_asked names (test ∷ more) place earlier st r = (r.0, reads_asked names more (suc place) (form_name test.form ∷ earlier) st r.1)

entry_like : (names : List (List ℕ)) (test : FormTest) (job : Option Job) (reply : Reply) (u v s t : State) → ReadsAll names (option_to_list test.given) → Alike Every u v → Alike Every s t → Like Every (tested (row_at test job reply u) s) (tested (row_at test job reply v) t)
entry_like names test job reply u v s t r uv h =
    let name = form_name test.form in
    let x = row_at test job reply u in
    subst (λ y. Like Every (tested x s) (tested (with_body (replied name job reply) y) t)) (row_same Every names (Formed test) u v (λ n m. tt) r uv)
    (subst (λ o. Like Every (tested x s) (tested_by (may_begin o x.ready) x t)) (h.value name tt) (entry_by test job reply u (may_begin (value_of s.vars name) x.ready) s t h))

commits_like : (a b : Run) (refused : Bool) (k l : Bool → State → Run) → Like Every a b → ((c : Bool) (s t : State) → Alike Every s t → Like Every (k c s) (l c t)) → Like Every (commits a refused k) (commits b refused l)
commits_like (Ends Goes_on s) (Ends Goes_on t) refused k l e rest = rest refused s t e.1
commits_like (Ends Completed s) (Ends Completed t) refused k l e rest = e
commits_like (Ends (Stopped x) s) (Ends (Stopped y) t) refused k l e rest = e
commits_like (Ends Cut s) (Ends Cut t) refused k l e rest = rest true s t e.1
commits_like (Ends _ s) (Ends _ t) refused k l e rest = let h = e.0 in cc
commits_like (Asks js n) (Asks ks m) refused k l e rest = (e.0, λ rs. commits_like (n rs) (m rs) refused k l (e.1 rs) rest)
commits_like _ _ refused k l e rest = absurd e

committed_like : (names : List (List ℕ)) (asks : List (FormTest × Option Job)) (rs : List Reply) (refused : Bool) (u v s t : State) → ReadsAsked names asks → Alike Every u v → Alike Every s t → Like Every (committed u asks rs refused s) (committed v asks rs refused t)
committed_like names [] rs true u v s t r uv h = (refl, h)
committed_like names [] rs false u v s t r uv h = (refl, h)
committed_like names ((test, job) ∷ more) rs refused u v s t r uv h =
    commits_like (tested (row_at test job (only_reply rs) u) s) (tested (row_at test job (only_reply rs) v) t) refused _ _ (entry_like names test job (only_reply rs) u v s t r.0 uv h)
    (λ c x y l. committed_like names more (replies_after job rs) c u v x y r.1 uv l)

for_same : (names : List (List ℕ)) (test : FormTest) (place : ℕ) (earlier : List (List ℕ)) (s t : State) → ReadsAll names (option_to_list test.given) → Alike Every s t → job_for test place earlier s ≡ job_for test place earlier t
for_same names test place earlier s t r h =
    ap (λ o. cond (is_some o || list_any (bytes_eq (form_name test.form)) earlier) None (test_job test place s)) (h.value (form_name test.form) tt)
    ∙ ap (λ j. cond (is_known (form_name test.form) earlier t) None j) (test_job_same Every names test place s t (λ n m. tt) r h)

asking_same : (names : List (List ℕ)) (tests : List FormTest) (place : ℕ) (earlier : List (List ℕ)) (s t : State) → ReadsBatch names tests → Alike Every s t → asking place earlier tests s ≡ asking place earlier tests t
asking_same names [] place earlier s t r h = refl
asking_same names (test ∷ more) place earlier s t r h =
    ap (λ j. (test, j) ∷ asking (suc place) (form_name test.form ∷ earlier) more s) (for_same names test place earlier s t r.0 h)
    ∙ ap (λ l. (test, job_for test place earlier t) ∷ l) (asking_same names more (suc place) (form_name test.form ∷ earlier) s t r.1 h)

asks_like : (js : List Job) (n m : List Reply → Run) → ((rs : List Reply) → Like Every (n rs) (m rs)) → Like Every (asks_all js n) (asks_all js m)
asks_like [] n m h = h []
asks_like (j ∷ js) n m h = (refl, h)

pub batch_like : (names : List (List ℕ)) (tests : List FormTest) (s t : State) → ReadsBatch names tests → Alike Every s t → Like Every (batched tests s) (batched tests t)
batch_like names tests s t r h =
    subst (λ a. Like Every (batched tests s) (asks_all (jobs_in a) (λ rs. committed t a rs false t))) (asking_same names tests 1 [] s t r h)
    (asks_like (jobs_in (asking 1 [] tests s)) _ _ (λ rs. committed_like names (asking 1 [] tests s) rs false s t s t (reads_asked names tests 1 [] s r) h h))

-- ---- a batch under replies

finish_asks : (js : List Job) (next : List Reply → Run) (rs : List Reply) → finish (asks_all js next) rs ≡ with_taken (take (length js) rs) (finish (next (take (length js) rs)) (drop (length js) rs))
finish_asks [] next rs = refl
finish_asks (j ∷ js) next rs = refl

pub enough_asks : (js : List Job) (next : List Reply → Run) (rs : List Reply) → Enough (asks_all js next) rs → length js ≤ length rs
enough_asks [] next rs h = omega arith
enough_asks (j ∷ js) next rs h = h.0

-- The values and the definitions after a batch with these replies.
pub record DoneWith (tests : List FormTest) (st : State) (taken left : List Reply) (f : Finished) : Type 0 where
  pub end : State
  pub is : f ≡ record { how = how_if (refused_in taken); state = end; taken = taken; left = left }
  pub value : (n : List ℕ) → value_of end.vars n ≡ value_by (value_of st.vars n) (answer_to n (asking 1 [] tests st) taken)
  pub defined : end.defs ≡ defs_all tests (value_of end.vars) st.defs

ends_with : (t l : List Reply) (how : How) (end : State) → with_taken t (finish (Ends how end) l) ≡ record { how = how; state = end; taken = t; left = l }
ends_with t l how end = ap (λ x. record { how = how; state = end; taken = x; left = l }) (append-nil t)

pub with_replies : (tests : List FormTest) → AreBatched tests → (st : State) (rs : List Reply) → lacks_compiler st ≡ false → length (jobs_in (asking 1 [] tests st)) ≤ length rs
    → DoneWith tests st (take (length (jobs_in (asking 1 [] tests st))) rs) (drop (length (jobs_in (asking 1 [] tests st))) rs) (finish (batched tests st) rs)
with_replies tests may st rs c h =
    let a = asking 1 [] tests st in
    let t = take (length (jobs_in a)) rs in
    let go = batch_commits tests st t may c (length-take-le (length (jobs_in a)) rs h) in
    let is : finish (batched tests st) rs ≡ record { how = how_if (refused_in t); state = go.now; taken = t; left = drop (length (jobs_in a)) rs } =
    finish_asks (jobs_in a) (λ replies. committed st a replies false st) rs
    ∙ ap (λ run. with_taken t (finish run (drop (length (jobs_in a)) rs))) go.is
    ∙ ends_with t (drop (length (jobs_in a)) rs) (cut_by (first_refused t)) go.now
    ∙ ap (λ how. record { how = how; state = go.now; taken = t; left = drop (length (jobs_in a)) rs }) (sym (how_is t)) in
    record {
      end = go.now;
      is = is;
      value = go.value;
      defined = go.defs;
    }

enough_all : (js : List Job) (next : List Reply → Run) (rs : List Reply) → length js ≤ length rs → Enough (next (take (length js) rs)) (drop (length js) rs) → Enough (asks_all js next) rs
enough_all [] next rs h k = k
enough_all (j ∷ js) next rs h k = (h, k)

-- There are enough replies for a batch if there are as many as jobs.
pub batch_enough : (tests : List FormTest) → AreBatched tests → (st : State) (rs : List Reply) → lacks_compiler st ≡ false → length (jobs_in (asking 1 [] tests st)) ≤ length rs → Enough (batched tests st) rs
batch_enough tests may st rs c h =
    let a = asking 1 [] tests st in
    let t = take (length (jobs_in a)) rs in
    let go = batch_commits tests st t may c (length-take-le (length (jobs_in a)) rs h) in
    enough_all (jobs_in a) (λ replies. committed st a replies false st) rs h (subst (λ run. Enough run (drop (length (jobs_in a)) rs)) (sym go.is) tt)

-- ---- a batch whose names are set

pub record Cached (tests : List FormTest) (now : State) (run : Run) : Type 0 where
  pub end : State
  pub is : run ≡ Ends Goes_on end
  pub vars : end.vars ≡ now.vars
  pub defined : end.defs ≡ defs_all tests (value_of now.vars) now.defs

abbrev pub names_in : List FormTest → List (List ℕ)
names_in tests = map (λ t. form_name t.form) tests

abbrev AllOf : List FormTest → State → Type 0
AllOf tests st = (n : List ℕ) → Among n (names_in tests) → (v : List ℕ) × (value_of st.vars n ≡ Some v)

abbrev pub AllThere : List FormTest → State → Type 0
AllThere tests st = AllOf tests st

all_set_of : (tests : List FormTest) (st : State) → AllOf tests st → all_set tests st ≡ true
all_set_of [] st all = refl
all_set_of (test ∷ more) st all =
    let here = all (form_name test.form) (inl refl) in
    ap (λ o. cond (is_some o) (all_set more st) false) here.1 ∙ all_set_of more st (λ n a. all n (inr a))

pub cached_run : (tests : List FormTest) → AreBatched tests → (st : State) → AllThere tests st → Cached tests st (batched tests st)
cached_run tests may st all =
    let go = batch_keeps_set tests st may (all_set_of tests st all) in
    record { end = go.now; is = go.is; vars = go.vars; defined = go.defs }

-- The definitions are those of the values.
pub defs_same : (tests : List FormTest) (v w : List ℕ → Option (List ℕ)) (d : List (List ℕ × List ℕ)) → ((n : List ℕ) → Among n (names_in tests) → v n ≡ w n) → defs_all tests v d ≡ defs_all tests w d
defs_same [] v w d e = refl
defs_same (test ∷ more) v w d e =
    let name = form_name test.form in
    ap (λ o. defs_all more v (form_defs test.form o d)) (e name (inl refl)) ∙ defs_same more v w (form_defs test.form (w name) d) (λ n a. e n (inr a))

-- ---- entries

is_entry : (tests : List FormTest) (n : List ℕ) → Among n (names_in tests) → IsEntry n tests
is_entry [] n h = h
is_entry (test ∷ more) n h = ⊎_elim (λ e. inl e) (λ k. inr (is_entry more n k)) h

from_entry : (tests : List FormTest) (n : List ℕ) → IsEntry n tests → Among n (names_in tests)
from_entry [] n h = h
from_entry (test ∷ more) n h = ⊎_elim (λ e. inl e) (λ k. inr (from_entry more n k)) h

pub names_cached : (tests : List FormTest) (n : List ℕ) → Among n (names_in tests) → IsCached n
names_cached [] n h = absurd h
names_cached (test ∷ more) n h = ⊎_elim (λ e. subst IsCached e (form_cached test.form)) (λ k. names_cached more n k) h

pub among_or_not : (n : List ℕ) (l : List (List ℕ)) → Among n l ⊎ (Among n l → ⊥)
among_or_not n [] = inr (λ h. h)
among_or_not n (m ∷ ms) =
    ⊎_elim (λ e. inl (inl e))
    (λ ne. ⊎_elim (λ h. inl (inr h)) (λ nh. inr (λ h. ⊎_elim ne nh h)) (among_or_not n ms))
    (same_or_not m n)

pub other_name : (tests : List FormTest) → AreBatched tests → (st : State) (n : List ℕ) (rs : List Reply) → lacks_compiler st ≡ false → (Among n (names_in tests) → ⊥) → value_by (value_of st.vars n) (answer_to n (asking 1 [] tests st) rs) ≡ value_of st.vars n
other_name tests may st n rs c none = ap (value_by (value_of st.vars n)) ((batch_asks_unset tests st n rs may c).stranger (λ h. none (from_entry tests n h))) ∙ sym (by_none (value_of st.vars n))

pub unset_asks : (tests : List FormTest) → AreBatched tests → (st : State) (n : List ℕ) (rs : List Reply) → lacks_compiler st ≡ false → value_of st.vars n ≡ None → Among n (names_in tests) → (r : Reply) × (answer_to n (asking 1 [] tests st) rs ≡ Some r)
unset_asks tests may st n rs c none h = (batch_asks_unset tests st n rs may c).unset (is_entry tests n h) none

pub answered_well : (n : List ℕ) (a : List (FormTest × Option Job)) (rs : List Reply) (r : Reply) → length rs ≡ length (jobs_in a) → refused_in rs ≡ false → answer_to n a rs ≡ Some r → flag_of (success r) ≡ false
answered_well n [] rs r len ok e = cc
answered_well n ((test, None) ∷ more) rs r len ok e = answered_well n more rs r len ok e
answered_well n ((test, Some job) ∷ more) [] r len ok e = absurd (omega (arith, len))
answered_well n ((test, Some job) ∷ more) (x ∷ rs) r len ok e =
    let both = or_false (flag_of (success x)) (refused_in rs) ok in
    ⊎_elim
    (λ t. let same : Some x ≡ Some r = sym (cond_true (bytes_eq n (form_name test.form)) (Some x) (answer_to n more rs) t) ∙ e in let xr : x ≡ r = cc in ap (λ y. flag_of (success y)) (sym xr) ∙ both.0)
    (λ f. answered_well n more rs r (omega (arith, len)) both.1 (sym (cond_false (bytes_eq n (form_name test.form)) (Some x) (answer_to n more rs) f) ∙ e))
    (cases_Bool (bytes_eq n (form_name test.form)))

pub answer_value : (o : Option Bool) → flag_of o ≡ false → (v : List ℕ) × (option_map yes_or_no o ≡ Some v)
answer_value None e = cc
answer_value (Some b) e = (yes_or_no b, refl)

-- ---- joint replies

pub joint_length : (a : List (FormTest × Option Job)) (rs : List Reply) (a2 : List (FormTest × Option Job)) (rs2 : List Reply) → length (joint_entries a rs a2 rs2) ≡ length (jobs_in a)
joint_length [] rs a2 rs2 = refl
joint_length ((test, None) ∷ more) rs a2 rs2 = joint_length more rs a2 rs2
joint_length ((test, Some job) ∷ more) [] a2 rs2 = ap suc (joint_length more [] a2 rs2)
joint_length ((test, Some job) ∷ more) (r ∷ rs) a2 rs2 = ap suc (joint_length more rs a2 rs2)

head_answer : (n name : List ℕ) (r : Reply) (o p : Option Reply) (a2 : List (FormTest × Option Job)) (rs2 : List Reply) → o ≡ option_map (λ x. answer_or (success x) x (answer_to n a2 rs2)) p
    → cond (bytes_eq n name) (Some (answer_or (success r) r (answer_to name a2 rs2))) o ≡ option_map (λ x. answer_or (success x) x (answer_to n a2 rs2)) (cond (bytes_eq n name) (Some r) p)
head_answer n name r o p a2 rs2 e =
    ⊎_elim
    (λ t. cond_true (bytes_eq n name) _ o t ∙ ap (λ m. Some (answer_or (success r) r (answer_to m a2 rs2))) (sym (same_text n name t)) ∙ ap (option_map (λ x. answer_or (success x) x (answer_to n a2 rs2))) (sym (cond_true (bytes_eq n name) (Some r) p t)))
    (λ f. cond_false (bytes_eq n name) _ o f ∙ e ∙ ap (option_map (λ x. answer_or (success x) x (answer_to n a2 rs2))) (sym (cond_false (bytes_eq n name) (Some r) p f)))
    (cases_Bool (bytes_eq n name))

pub joint_answer : (n : List ℕ) (a : List (FormTest × Option Job)) (rs : List Reply) (a2 : List (FormTest × Option Job)) (rs2 : List Reply) → answer_to n a (joint_entries a rs a2 rs2) ≡ option_map (λ x. answer_or (success x) x (answer_to n a2 rs2)) (answer_to n a rs)
joint_answer n [] rs a2 rs2 = refl
joint_answer n ((test, None) ∷ more) rs a2 rs2 = joint_answer n more rs a2 rs2
joint_answer n ((test, Some job) ∷ more) [] a2 rs2 = head_answer n (form_name test.form) StartRefused _ _ a2 rs2 (joint_answer n more [] a2 rs2)
joint_answer n ((test, Some job) ∷ more) (r ∷ rs) a2 rs2 = head_answer n (form_name test.form) r _ _ a2 rs2 (joint_answer n more rs a2 rs2)

pub record Mends (o : Option Reply) : Type 0 where
  pub reply : Reply
  pub is : o ≡ Some reply
  pub well : flag_of (success reply) ≡ false

head_well : (r : Reply) (s : Option Bool) (o : Option Reply) → success r ≡ s → (s ≡ None → Mends o) → flag_of (success (answer_or s r o)) ≡ false
head_well r (Some b) o e m = ap flag_of e
head_well r None None e m = let x = m refl in let z : None ≡ Some x.reply = x.is in cc
head_well r None (Some q) e m = let x = m refl in let same : Some q ≡ Some x.reply = x.is in let y : q ≡ x.reply = cc in ap (λ z. flag_of (success z)) y ∙ x.well

pub joint_ok : (tests : List FormTest) → AreBatched tests → (place : ℕ) (earlier : List (List ℕ)) (first : State) (rs : List Reply) (a2 : List (FormTest × Option Job)) (rs2 : List Reply) (full : List ℕ → Option Reply) → lacks_compiler first ≡ false
    → length rs ≡ length (jobs_in (asking place earlier tests first))
    → ((m : List ℕ) → list_any (bytes_eq m) earlier ≡ false → full m ≡ answer_to m (asking place earlier tests first) rs)
    → ((m : List ℕ) (r : Reply) → value_of first.vars m ≡ None → full m ≡ Some r → success r ≡ None → Among m (names_in tests) → Mends (answer_to m a2 rs2))
    → refused_in (joint_entries (asking place earlier tests first) rs a2 rs2) ≡ false
joint_ok [] may place earlier first rs a2 rs2 full c len g h = refl
joint_ok (test ∷ more) may place earlier first rs a2 rs2 full c len g h =
    let name = form_name test.form in
    let tail = asking (suc place) (name ∷ earlier) more first in
    ⊎_elim
    (λ t.
    let quiet = job_true test place earlier first t in
    subst (λ j. refused_in (joint_entries ((test, j) ∷ tail) rs a2 rs2) ≡ false) (sym quiet)
    (joint_ok more may.1 (suc place) (name ∷ earlier) first rs a2 rs2 full c
    (subst (λ j. length rs ≡ length (jobs_in ((test, j) ∷ tail))) quiet len)
    (λ m no_m. g m (or_false (bytes_eq m name) (list_any (bytes_eq m) earlier) no_m).1 ∙ ap (λ j. answer_to m ((test, j) ∷ tail) rs) quiet)
    (λ m r none e s a. h m r none e s (inr a))))
    (λ f.
    let own = job_false test place earlier first may.0 c f in
    let both = or_false (is_some (value_of first.vars name)) (list_any (bytes_eq name) earlier) f in
    subst (λ j. refused_in (joint_entries ((test, j) ∷ tail) rs a2 rs2) ≡ false) (sym own.1)
    (by_reply own.0 rs
    (subst (λ j. length rs ≡ length (jobs_in ((test, j) ∷ tail))) own.1 len)
    (λ m no_m. g m no_m ∙ ap (λ j. answer_to m ((test, j) ∷ tail) rs) own.1) both.1 (none_value (value_of first.vars name) both.0)
    (λ qs l k. joint_ok more may.1 (suc place) (name ∷ earlier) first qs a2 rs2 full c l k (λ m r none e s a. h m r none e s (inr a)))))
    (cases_Bool (is_some (value_of first.vars name) || list_any (bytes_eq name) earlier))
  where
    by_reply : (job : Job) (rs : List Reply) → length rs ≡ length (jobs_in ((test, Some job) ∷ asking (suc place) (form_name test.form ∷ earlier) more first))
        → ((m : List ℕ) → list_any (bytes_eq m) earlier ≡ false → full m ≡ answer_to m ((test, Some job) ∷ asking (suc place) (form_name test.form ∷ earlier) more first) rs)
        → list_any (bytes_eq (form_name test.form)) earlier ≡ false → value_of first.vars (form_name test.form) ≡ None
        → ((qs : List Reply) → length qs ≡ length (jobs_in (asking (suc place) (form_name test.form ∷ earlier) more first)) → ((m : List ℕ) → list_any (bytes_eq m) (form_name test.form ∷ earlier) ≡ false → full m ≡ answer_to m (asking (suc place) (form_name test.form ∷ earlier) more first) qs) → refused_in (joint_entries (asking (suc place) (form_name test.form ∷ earlier) more first) qs a2 rs2) ≡ false)
        → refused_in (joint_entries ((test, Some job) ∷ asking (suc place) (form_name test.form ∷ earlier) more first) rs a2 rs2) ≡ false
    by_reply job [] l k early none rest = absurd (omega (arith, l))
    by_reply job (r ∷ qs) l k early none rest =
        let name = form_name test.form in
        let tail = asking (suc place) (name ∷ earlier) more first in
        let own : full name ≡ Some r = k name early ∙ cond_true (bytes_eq name name) (Some r) (answer_to name tail qs) (same_self name) in
        let head = head_well r (success r) (answer_to name a2 rs2) refl (λ s. h name r none own s (inl refl)) in
        ap (λ b. b || refused_in (joint_entries tail qs a2 rs2)) head
        ∙ rest qs (omega (arith, l)) (λ m no_m. let pair = or_false (bytes_eq m name) (list_any (bytes_eq m) earlier) no_m in k m pair.1 ∙ cond_false (bytes_eq m name) (Some r) (answer_to m tail qs) pair.0)
