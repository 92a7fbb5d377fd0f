-- The tests of a batch, one after the other: what the meaning says, and what the machine does.
use Rattle.std.proofs.Common.{◌≡◌, ℕ, suc, ◌<◌, ◌≤◌, Option, Some, None, map, List, [], ◌∷◌, ◌++◌, codes, Bool, true, false, cond, ◌⊎◌, inl, inr, refl, sym, ap, ◌∙◌, subst, ⊎_elim, length, arith}
use Rattle.std.specs.Prelude.{◌||◌, not, bytes_eq, is_some, unwrap_or, option_to_list, drop}
use Rattle.std.specs.List.{list_any}
use Rattle.std.proofs.lemmas.Bool.{cases_Bool}
use Rattle.std.proofs.Math.Path.{fun_ext}
use Rattle.crew_jobs.specs.declared.job.Job.{Job}
use Rattle.crew_trait.specs.declared.reply.Reply.{Reply}
use Rattle.deftable.specs.Table.{value_of, with_entry}
use Rattle.deftable.specs.declared.note.Stream.TheVariants as streams
use Rattle.shellword.specs.declared.part.Part.{Part}
use Rattle.ac_tree.specs.declared.listed.Listed.{Listed}
use Rattle.meaning.specs.State.{State, with_note, with_child, with_variable, How, Goes_on, Stopped, Cut, Run, Ends, Asks, then_run, as_is}
use Rattle.meaning.specs.Asking.{success, only_reply, after_child, no_compiler, without_compiler}
use Rattle.meaning.specs.Batches.{IsBatched, asking, asks_all, batched, commits, committed, is_known, job_for, jobs_in, replied, test_job, with_body, yes_or_no}
use Rattle.meaning.specs.Entries.{entry_test, tests_of}
use Rattle.meaning.specs.Forms.{FormTest, form_name}
use Rattle.meaning.specs.Rows.{Formed, row_of}
use Rattle.meaning.specs.Tests.{guarded, checking, with_result, Row, may_begin, test_by, tested, tested_by}
use Rattle.plan.specs.Broken.{broken_all, guarded_all}
use Rattle.meaning.proofs.Batches.{entries_are, has_job, lacks_in, lacks_job, ready_is}
use Rattle.meaning.proofs.Values.{same_text, value_here, value_there, without_unset}
use Rattle.test_forms.specs.Form.{TestForm}
use Rattle.run_forms.specs.Courses.{bare_course}
use Rattle.run_forms.specs.Ends.{heard_end}
use Rattle.run_test.specs.Batched.{after_entries, at_once, batch_end, is_refused, known_end, refuses}
use Rattle.run_test.specs.declared.wait.Waiting as waiting
use Rattle.run_step.specs.Waiting.{any_asks, forms_in, front_end, fronted, job_at, jobs_of, waiting_at, waiting_for}

-- The test of a form that was given this text.
abbrev pub test_of : Option (List Part) → TestForm → FormTest
test_of given form = record { form = form; given = given }

-- The tests of forms.
abbrev pub tests_with : Option (List Part) → List TestForm → List FormTest
tests_with given forms = map (test_of given) forms

-- ---- one entry

abbrev row_at : Option (List Part) → TestForm → Option Job → Reply → State → Row
row_at given form job reply st = with_body (replied (form_name form) job reply) (row_of (Formed (test_of given form)) st)

abbrev how_if : Bool → How
how_if true = Cut
how_if false = Goes_on

abbrev lacks : State → Bool
lacks st = lacks_in st.vars

-- There is no value: the child was refused before.
abbrev is_missing : Option (List ℕ) → Bool
is_missing None = true
is_missing (Some value) = false

quiet_by : (given : Option (List Part)) (form : TestForm) (reply : Reply) (first now : State) (o : Option (List ℕ)) → value_of now.vars (form_name form) ≡ o → (o ≡ None → (row_at given form None reply first).ready ≡ true)
    → tested (row_at given form None reply first) now ≡ Ends (how_if (is_missing o)) (known_end o (bare_course form) (checking form.message now))
quiet_by given form reply first now None e ready =
    let r = row_at given form None reply first in
    ap (λ o. tested_by (may_begin o r.ready) r now) e
    ∙ ap (λ b. tested_by b r now) (ready refl)
    ∙ ap (λ o. then_run (test_by o r.test (checking r.test.message now)) (λ later. Ends Goes_on (r.after (value_of later.vars r.test.name) later))) e
quiet_by given form reply first now (Some value) e ready =
    let r = row_at given form None reply first in
    let last = with_result (codes "(cached) " ++ value) (checking r.test.message now) in
    ap (λ o. tested_by (may_begin o r.ready) r now) e
    ∙ ap (λ o. then_run (test_by o r.test (checking r.test.message now)) (λ later. Ends Goes_on (r.after (value_of later.vars r.test.name) later))) e
    ∙ ap (λ o. Ends Goes_on (r.after o last)) e

asked_by : (given : Option (List Part)) (form : TestForm) (job : Job) (reply : Reply) (first now : State) (s : Option Bool) → success reply ≡ s → value_of now.vars (form_name form) ≡ None → (row_at given form (Some job) reply first).ready ≡ true
    → tested (row_at given form (Some job) reply first) now ≡ Ends (how_if (refuses s)) (heard_end s (bare_course form) (with_child job reply (checking form.message now)))
asked_by given form job reply first now s h e ready =
    let r = row_at given form (Some job) reply first in
    let name = form_name form in
    let st = with_child job reply (checking r.test.message now) in
    ap (λ o. tested_by (may_begin o r.ready) r now) e
    ∙ ap (λ b. tested_by b r now) ready
    ∙ ap (λ o. then_run (test_by o r.test (checking r.test.message now)) (λ later. Ends Goes_on (r.after (value_of later.vars r.test.name) later))) e
    ∙ ap (λ x. then_run (then_run (guarded name (after_child as_is x st (λ found later. Ends Goes_on (with_variable name (yes_or_no found) later)))) (λ later. Ends Goes_on (with_result (r.test.shown (value_of later.vars name)) later))) (λ later. Ends Goes_on (r.after (value_of later.vars name) later))) h
    ∙ ends s
  where
    ends : (s : Option Bool)
        → (let name = form_name form in let r = row_at given form (Some job) reply first in let st = with_child job reply (checking r.test.message now) in
        then_run (then_run (guarded name (after_child as_is s st (λ found later. Ends Goes_on (with_variable name (yes_or_no found) later)))) (λ later. Ends Goes_on (with_result (r.test.shown (value_of later.vars name)) later))) (λ later. Ends Goes_on (r.after (value_of later.vars name) later)))
        ≡ Ends (how_if (refuses s)) (heard_end s (bare_course form) (with_child job reply (checking form.message now)))
    ends None = refl
    ends (Some b) =
        let name = form_name form in
        let r = row_at given form (Some job) reply first in
        let set = with_variable name (yes_or_no b) (with_child job reply (checking r.test.message now)) in
        let here : value_of set.vars name ≡ Some (yes_or_no b) = value_here now.vars name (yes_or_no b) in
        ap (λ o. Ends Goes_on (r.after o (with_result (unwrap_or (value_of set.vars name) []) set))) here
        ∙ ap (λ o. Ends Goes_on (r.after (Some (yes_or_no b)) (with_result (unwrap_or o []) set))) here

commit_one : (b refused : Bool) (run : Run) (s : State) (rest : Bool → State → Run) → run ≡ Ends (how_if b) s → commits run refused rest ≡ rest (b || refused) s
commit_one true refused run s rest e = ap (λ r. commits r refused rest) e
commit_one false refused run s rest e = ap (λ r. commits r refused rest) e

-- ---- jobs

-- The tests of these forms may be in a batch.
abbrev pub AllBatched : List TestForm → Type 0
AllBatched [] = Unit {0}
AllBatched (form ∷ more) = IsBatched form × AllBatched more

-- Those of entries may.
pub entries_may : (what : Listed) (entries : List (List ℕ)) → AllBatched (forms_in what entries)
entries_may what [] = _
entries_may what (entry ∷ more) = ((entries_are what (entry ∷ []) None).0, entries_may what more)

-- The tests of a list are those of its forms.
pub list_is : (what : Listed) (entries : List (List ℕ)) (includes : Option (List Part)) → tests_of what entries includes ≡ tests_with includes (forms_in what entries)
list_is what [] includes = refl
list_is what (entry ∷ more) includes = ap (λ tests. entry_test what includes entry ∷ tests) (list_is what more includes)

is_ready : (given : Option (List Part)) (form : TestForm) (job : Option Job) (reply : Reply) (first : State) → IsBatched form → lacks first ≡ false → (row_at given form job reply first).ready ≡ true
is_ready given form job reply first h e = ready_is (test_of given form) first h ∙ ap is_some (has_job (test_of given form) 0 first h e).1

-- The jobs of the tests are those that the meaning asks for.
at_place : (given : Option (List Part)) (place : ℕ) (earlier : List (List ℕ)) (form : TestForm) (st : State)
    → job_at given place (waiting_at earlier form st) st ≡ job_for (test_of given form) place earlier st
at_place given place earlier form st = flipped (is_known (form_name form) earlier st)
  where
    flipped : (b : Bool) → cond (not b) (test_job (test_of given form) place st) None ≡ cond b None (test_job (test_of given form) place st)
    flipped true = refl
    flipped false = refl

jobs_first : (t : FormTest) (job : Option Job) (more : List (FormTest × Option Job)) → jobs_in ((t, job) ∷ more) ≡ option_to_list job ++ jobs_in more
jobs_first t None more = refl
jobs_first t (Some job) more = refl

pub jobs_are : (given : Option (List Part)) (place : ℕ) (earlier : List (List ℕ)) (forms : List TestForm) (st : State)
    → jobs_of given place (waiting_for earlier forms st) st ≡ jobs_in (asking place earlier (tests_with given forms) st)
jobs_are given place earlier [] st = refl
jobs_are given place earlier (form ∷ more) st =
    let t = test_of given form in
    ap (λ j. option_to_list j ++ jobs_of given (suc place) (waiting_for (form_name form ∷ earlier) more st) st) (at_place given place earlier form st)
    ∙ ap (λ js. option_to_list (job_for t place earlier st) ++ js) (jobs_are given (suc place) (form_name form ∷ earlier) more st)
    ∙ sym (jobs_first t (job_for t place earlier st) (asking (suc place) (form_name form ∷ earlier) (tests_with given more) st))

-- ---- what is known at an entry

-- The names of earlier entries are set, or one was refused, and other names are as they were when the batch began.
record Stands (earlier : List (List ℕ)) (refused : Bool) (first now : State) : Type 0 where
  pub early : (n : List ℕ) → list_any (bytes_eq n) earlier ≡ true → value_of now.vars n ≡ None → refused ≡ true
  pub kept : (n v : List ℕ) → value_of first.vars n ≡ Some v → value_of now.vars n ≡ Some v
  pub others : (n : List ℕ) → list_any (bytes_eq n) earlier ≡ false → value_of now.vars n ≡ value_of first.vars n

or_cases : (a b : Bool) → a || b ≡ true → (a ≡ true) ⊎ (b ≡ true)
or_cases true b e = inl refl
or_cases false b e = inr e

or_false : (a b : Bool) → a || b ≡ false → (a ≡ false) × (b ≡ false)
or_false true b e = cc
or_false false b e = (refl, e)

or_right : (a b : Bool) → b ≡ true → a || b ≡ true
or_right true b e = refl
or_right false b e = e

or_swap : (a b c : Bool) → (a || b) || c ≡ b || (a || c)
or_swap true true c = refl
or_swap true false c = refl
or_swap false b c = refl

some_set : (o : Option (List ℕ)) → is_some o ≡ true → (v : List ℕ) × (o ≡ Some v)
some_set None e = absurd cc
some_set (Some v) e = (v, refl)

none_set : (o : Option (List ℕ)) → is_some o ≡ false → o ≡ None
none_set None e = refl
none_set (Some v) e = absurd cc

not_none : (v : List ℕ) (o : Option (List ℕ)) → o ≡ Some v → o ≡ None → ⊥
not_none v o e n = let z : Some v ≡ None = sym e ∙ n in cc

-- A known entry whose name is unset was refused.
missing : (name : List ℕ) (earlier : List (List ℕ)) (refused : Bool) (first now : State) → Stands earlier refused first now → is_known name earlier first ≡ true → value_of now.vars name ≡ None → refused ≡ true
missing name earlier refused first now s k n =
    ⊎_elim
    (λ set. let v = some_set (value_of first.vars name) set in absurd (not_none v.0 (value_of now.vars name) (s.kept name v.0 v.1) n))
    (λ listed. s.early name listed n)
    (or_cases (is_some (value_of first.vars name)) (list_any (bytes_eq name) earlier) k)

-- An unknown entry's name is unset.
unknown : (name : List ℕ) (earlier : List (List ℕ)) (refused : Bool) (first now : State) → Stands earlier refused first now → is_known name earlier first ≡ false → value_of now.vars name ≡ None
unknown name earlier refused first now s k =
    let p = or_false (is_some (value_of first.vars name)) (list_any (bytes_eq name) earlier) k in
    s.others name p.1 ∙ none_set (value_of first.vars name) p.0

-- The variables after a test.
quiet_vars : (form : TestForm) (now : State) (o : Option (List ℕ)) → IsBatched form → value_of now.vars (form_name form) ≡ o
    → (known_end o (bare_course form) (checking form.message now)).vars ≡ now.vars
quiet_vars form now None h e = without_unset now.vars (form_name form) e
quiet_vars form now (Some value) h e = h.vars (Some value) (with_result (codes "(cached) " ++ value) (checking form.message now))

abbrev set_by : Option Bool → List ℕ → List (List ℕ × List ℕ) → List (List ℕ × List ℕ)
set_by None name vars = vars
set_by (Some b) name vars = with_entry vars name (yes_or_no b)

heard_vars : (form : TestForm) (job : Job) (reply : Reply) (now : State) (s : Option Bool) → IsBatched form → value_of now.vars (form_name form) ≡ None
    → (heard_end s (bare_course form) (with_child job reply (checking form.message now))).vars ≡ set_by s (form_name form) now.vars
heard_vars form job reply now None h e = without_unset now.vars (form_name form) e
heard_vars form job reply now (Some b) h e =
    h.vars (Some (yes_or_no b)) (with_result (yes_or_no b) (with_variable (form_name form) (yes_or_no b) (with_child job reply (checking form.message now))))

after_quiet : (name : List ℕ) (earlier : List (List ℕ)) (refused : Bool) (first now s : State) → Stands earlier refused first now → is_known name earlier first ≡ true → s.vars ≡ now.vars → Stands (name ∷ earlier) refused first s
after_quiet name earlier refused first now s stands k same = record {
  early = λ n h e.
      let gone : value_of now.vars n ≡ None = ap (λ l. value_of l n) (sym same) ∙ e in
      ⊎_elim
      (λ t. missing name earlier refused first now stands k (subst (λ x. value_of now.vars x ≡ None) (same_text n name t) gone))
      (λ t. stands.early n t gone)
      (or_cases (bytes_eq n name) (list_any (bytes_eq n) earlier) h);
  kept = λ n v h. ap (λ l. value_of l n) same ∙ stands.kept n v h;
  others = λ n h. ap (λ l. value_of l n) same ∙ stands.others n (or_false (bytes_eq n name) (list_any (bytes_eq n) earlier) h).1;
}

set_there : (s : Option Bool) (vars : List (List ℕ × List ℕ)) (name n : List ℕ) → bytes_eq n name ≡ false → value_of (set_by s name vars) n ≡ value_of vars n
set_there None vars name n f = refl
set_there (Some b) vars name n f = value_there vars name (yes_or_no b) n f

unset_refuses : (s : Option Bool) (vars : List (List ℕ × List ℕ)) (name : List ℕ) → value_of (set_by s name vars) name ≡ None → refuses s ≡ true
unset_refuses None vars name e = refl
unset_refuses (Some b) vars name e = absurd (not_none (yes_or_no b) _ (value_here vars name (yes_or_no b)) e)

or_left : (a b : Bool) → a ≡ true → a || b ≡ true
or_left true b e = refl
or_left false b e = absurd cc

after_heard : (name : List ℕ) (earlier : List (List ℕ)) (refused : Bool) (first now s : State) (succeeded : Option Bool) → Stands earlier refused first now → is_known name earlier first ≡ false → s.vars ≡ set_by succeeded name now.vars
    → Stands (name ∷ earlier) (refuses succeeded || refused) first s
after_heard name earlier refused first now s succeeded stands k is = record {
  early = λ n h e.
      let gone : value_of (set_by succeeded name now.vars) n ≡ None = ap (λ l. value_of l n) (sym is) ∙ e in
      ⊎_elim
      (λ t. or_left (refuses succeeded) refused (unset_refuses succeeded now.vars name (subst (λ x. value_of (set_by succeeded name now.vars) x ≡ None) (same_text n name t) gone)))
      (λ f. or_right (refuses succeeded) refused (stands.early n (in_earlier n f h) (sym (set_there succeeded now.vars name n f) ∙ gone)))
      (cases_Bool (bytes_eq n name));
  kept = λ n v h.
      ap (λ l. value_of l n) is
      ∙ set_there succeeded now.vars name n (apart_from n v h)
      ∙ stands.kept n v h;
  others = λ n h.
      let p = or_false (bytes_eq n name) (list_any (bytes_eq n) earlier) h in
      ap (λ l. value_of l n) is ∙ set_there succeeded now.vars name n p.0 ∙ stands.others n p.1;
}
  where
    in_earlier : (n : List ℕ) → bytes_eq n name ≡ false → bytes_eq n name || list_any (bytes_eq n) earlier ≡ true → list_any (bytes_eq n) earlier ≡ true
    in_earlier n f h = sym (ap (λ b. b || list_any (bytes_eq n) earlier) f) ∙ h

    first_unset : value_of first.vars name ≡ None
    first_unset = none_set (value_of first.vars name) (or_false (is_some (value_of first.vars name)) (list_any (bytes_eq name) earlier) k).0

    apart_from : (n v : List ℕ) → value_of first.vars n ≡ Some v → bytes_eq n name ≡ false
    apart_from n v h =
        ⊎_elim
        (λ t. absurd (not_none v (value_of first.vars name) (subst (λ x. value_of first.vars x ≡ Some v) (same_text n name t) h) first_unset))
        (λ f. f)
        (cases_Bool (bytes_eq n name))

-- ---- the tests, if there is a compiler

missing_flag : (o : Option (List ℕ)) (refused : Bool) → (o ≡ None → refused ≡ true) → is_missing o || refused ≡ refused
missing_flag None refused h = sym (h refl)
missing_flag (Some v) refused h = refl

-- A test of a batch, and whether it asks.
abbrev waiting_if : TestForm → Bool → waiting.Waiting
waiting_if form asks = record { test = bare_course form; asks = asks }

-- What holds of the test without a job if it is known, and with its own otherwise, holds of it as the batch has it.
by_known : (given : Option (List Part)) (first : State) (place : ℕ) (earlier : List (List ℕ)) (form : TestForm) (tail : List (FormTest × Option Job)) (more : List waiting.Waiting) (Holds : List (FormTest × Option Job) → List waiting.Waiting → Type 0)
    → (is_known (form_name form) earlier first ≡ true → Holds ((test_of given form, None) ∷ tail) (waiting_if form false ∷ more))
    → (is_known (form_name form) earlier first ≡ false → Holds ((test_of given form, test_job (test_of given form) place first) ∷ tail) (waiting_if form true ∷ more))
    → Holds ((test_of given form, job_for (test_of given form) place earlier first) ∷ tail) (waiting_if form (not (is_known (form_name form) earlier first)) ∷ more)
by_known given first place earlier form tail more Holds quiet asked =
    ⊎_elim (λ t. subst at (sym t) (quiet t)) (λ f. subst at (sym f) (asked f)) (cases_Bool (is_known (form_name form) earlier first))
  where
    at : Bool → Type 0
    at b = Holds ((test_of given form, cond b None (test_job (test_of given form) place first)) ∷ tail) (waiting_if form (not b) ∷ more)

-- A known test, and what follows it.
quiet_commits : (given : Option (List Part)) (form : TestForm) (tail : List (FormTest × Option Job)) (replies : List Reply) (refused : Bool) (first now : State) (ends : State → Run) → IsBatched form
    → (value_of now.vars (form_name form) ≡ None → (row_at given form None (only_reply replies) first).ready ≡ true)
    → (value_of now.vars (form_name form) ≡ None → refused ≡ true)
    → ((s : State) → s.vars ≡ now.vars → committed first tail replies refused s ≡ ends s)
    → committed first ((test_of given form, None) ∷ tail) replies refused now
    ≡ ends (known_end (value_of now.vars (form_name form)) (bare_course form) (checking form.message now))
quiet_commits given form tail replies refused first now ends h ready known rest =
    let o = value_of now.vars (form_name form) in
    let s = known_end o (bare_course form) (checking form.message now) in
    commit_one (is_missing o) refused _ s (committed first tail replies) (quiet_by given form (only_reply replies) first now o refl ready)
    ∙ ap (λ b. committed first tail replies b s) (missing_flag o refused known)
    ∙ rest s (quiet_vars form now o h refl)

no_tests : (first : State) (replies : List Reply) (refused : Bool) (now : State) → committed first [] replies refused now ≡ Ends (how_if (refused || false)) now
no_tests first replies true now = refl
no_tests first replies false now = refl

-- The end of these tests, as the machine has it.
abbrev Comes : State → List (FormTest × Option Job) → List waiting.Waiting → List Reply → Bool → State → Type 0
Comes first asks entries replies refused now =
    committed first asks replies refused now ≡ Ends (how_if (refused || is_refused entries replies)) (after_entries entries (jobs_in asks) replies now)

asked_comes : (given : Option (List Part)) (form : TestForm) (job : Job) (tail : List (FormTest × Option Job)) (more : List waiting.Waiting) (replies : List Reply) (refused : Bool) (first now : State) → IsBatched form → lacks first ≡ false
    → value_of now.vars (form_name form) ≡ None
    → ((s : State) → s.vars ≡ set_by (success (only_reply replies)) (form_name form) now.vars → Comes first tail more (drop 1 replies) (refuses (success (only_reply replies)) || refused) s)
    → Comes first ((test_of given form, Some job) ∷ tail) (waiting_if form true ∷ more) replies refused now
asked_comes given form job tail more replies refused first now h has unset rest =
    let reply = only_reply replies in
    let s = heard_end (success reply) (bare_course form) (with_child job reply (checking form.message now)) in
    commit_one (refuses (success reply)) refused _ s (committed first tail (drop 1 replies)) (asked_by given form job reply first now (success reply) refl unset (is_ready given form (Some job) reply first h has))
    ∙ rest s (heard_vars form job reply now (success reply) h unset)
    ∙ ap (λ b. Ends (how_if b) (after_entries more (jobs_in tail) (drop 1 replies) s)) (or_swap (refuses (success reply)) refused (is_refused more (drop 1 replies)))

comes : (given : Option (List Part)) (first : State) → lacks first ≡ false → (forms : List TestForm) → AllBatched forms → (place : ℕ) (earlier : List (List ℕ)) (replies : List Reply) (refused : Bool) (now : State) → Stands earlier refused first now
    → Comes first (asking place earlier (tests_with given forms) first) (waiting_for earlier forms first) replies refused now
comes given first has [] all place earlier replies refused now stands = no_tests first replies refused now
comes given first has (form ∷ more) all place earlier replies refused now stands =
    let name = form_name form in
    let tail = asking (suc place) (name ∷ earlier) (tests_with given more) first in
    let later = waiting_for (name ∷ earlier) more first in
    by_known given first place earlier form tail later (λ asks entries. Comes first asks entries replies refused now)
    (λ t.
    quiet_commits given form tail replies refused first now (λ s. Ends (how_if (refused || is_refused later replies)) (after_entries later (jobs_in tail) replies s)) all.0
    (λ _. is_ready given form None (only_reply replies) first all.0 has) (missing name earlier refused first now stands t)
    (λ s same. comes given first has more all.1 (suc place) (name ∷ earlier) replies refused s (after_quiet name earlier refused first now s stands t same)))
    (λ f. subst (λ job. Comes first ((test_of given form, job) ∷ tail) (waiting_if form true ∷ later) replies refused now) (sym (has_job (test_of given form) place first all.0 has).1)
    (asked_comes given form _ tail later replies refused first now all.0 has (unknown name earlier refused first now stands f)
    (λ s is. comes given first has more all.1 (suc place) (name ∷ earlier) (drop 1 replies) _ s (after_heard name earlier refused first now s (success (only_reply replies)) stands f is))))

-- ---- the tests, if there is nothing to ask for

begins_stands : (first : State) → Stands [] false first first
begins_stands first = record { early = λ n h e. absurd cc; kept = λ n v h. h; others = λ n h. refl }

no_more : (t : FormTest) (job : Option Job) (more : List (FormTest × Option Job)) → jobs_in ((t, job) ∷ more) ≡ [] → (job ≡ None) × (jobs_in more ≡ [])
no_more t None more e = (refl, e)
no_more t (Some job) more e = absurd (let z : job ∷ jobs_in more ≡ [] = e in cc)

abbrev fronts : Bool → State → Run
fronts true st = without_compiler as_is st
fronts false st = Ends Goes_on st

abbrev Fronts : State → List (FormTest × Option Job) → List waiting.Waiting → State → Type 0
Fronts first asks entries now = committed first asks [] false now ≡ fronts (any_asks entries) (front_end entries now)

stops : (given : Option (List Part)) (form : TestForm) (first now : State) → IsBatched form → lacks first ≡ true → value_of now.vars (form_name form) ≡ None
    → tested (row_at given form None (only_reply []) first) now ≡ without_compiler as_is now
stops given form first now h has unset =
    let r = row_at given form None (only_reply []) first in
    ap (λ o. tested_by (may_begin o r.ready) r now) unset
    ∙ ap (λ b. tested_by b r now) (ready_is (test_of given form) first h ∙ ap is_some (lacks_job (test_of given form) 0 first h has))

-- A test without a job has no compiler.
lacking : (given : Option (List Part)) (form : TestForm) (place : ℕ) (first : State) → IsBatched form → test_job (test_of given form) place first ≡ None → lacks first ≡ true
lacking given form place first h none =
    ⊎_elim (λ t. t)
    (λ f. let j = has_job (test_of given form) place first h f in absurd (let z : Some j.0 ≡ None = sym j.1 ∙ none in cc))
    (cases_Bool (lacks first))

fronts_all : (given : Option (List Part)) (first : State) (forms : List TestForm) → AllBatched forms → (place : ℕ) (earlier : List (List ℕ)) (now : State) → jobs_in (asking place earlier (tests_with given forms) first) ≡ [] → Stands earlier false first now
    → Fronts first (asking place earlier (tests_with given forms) first) (waiting_for earlier forms first) now
fronts_all given first [] all place earlier now quiet stands = refl
fronts_all given first (form ∷ more) all place earlier now quiet stands =
    let name = form_name form in
    let t = test_of given form in
    let tail = asking (suc place) (name ∷ earlier) (tests_with given more) first in
    let later = waiting_for (name ∷ earlier) more first in
    by_known given first place earlier form tail later (λ asks entries. Fronts first asks entries now)
    (λ k.
    let known : value_of now.vars name ≡ None → ⊥ = (λ e. let z : false ≡ true = missing name earlier false first now stands k e in cc) in
    quiet_commits given form tail [] false first now (λ s. fronts (any_asks later) (front_end later s)) all.0 (λ e. absurd (known e)) (λ e. absurd (known e))
    (λ s same. fronts_all given first more all.1 (suc place) (name ∷ earlier) s (no_more t _ tail quiet).1 (after_quiet name earlier false first now s stands k same)))
    (λ f.
    let none : test_job t place first ≡ None = sym (ap (λ b. cond b None (test_job t place first)) f) ∙ (no_more t _ tail quiet).0 in
    subst (λ job. Fronts first ((t, job) ∷ tail) (waiting_if form true ∷ later) now) (sym none)
    (ap (λ r. commits r false (committed first tail [])) (stops given form first now all.0 (lacking given form place first all.0 none) (unknown name earlier false first now stands f))))

-- ---- a batch inside tests

asks_nothing : (given : Option (List Part)) (first : State) → lacks first ≡ true → (forms : List TestForm) → AllBatched forms → (place : ℕ) (earlier : List (List ℕ)) → jobs_in (asking place earlier (tests_with given forms) first) ≡ []
asks_nothing given first has [] all place earlier = refl
asks_nothing given first has (form ∷ more) all place earlier =
    let rest = asking (suc place) (form_name form ∷ earlier) (tests_with given more) first in
    jobs_first (test_of given form) (job_for (test_of given form) place earlier first) rest
    ∙ ap (λ j. option_to_list j ++ jobs_in rest) (either (is_known (form_name form) earlier first) (lacks_job (test_of given form) place first all.0 has))
    ∙ asks_nothing given first has more all.1 (suc place) (form_name form ∷ earlier)
  where
    either : (b : Bool) {j : Option Job} → j ≡ None → cond b None j ≡ None
    either true e = refl
    either false e = e

-- The jobs of a batch.
abbrev pub jobs_for : Option (List Part) → List TestForm → State → List Job
jobs_for given forms st = jobs_in (asking 1 [] (tests_with given forms) st)

has_compiler : (given : Option (List Part)) (forms : List TestForm) (st : State) → AllBatched forms → 0 < length (jobs_for given forms st) → lacks st ≡ false
has_compiler given forms st all some =
    ⊎_elim (λ t. absurd (omega (arith, some, ap length (asks_nothing given st t forms all 1 [])))) (λ f. f) (cases_Bool (lacks st))

asks_some : (jobs : List Job) (next : List Reply → Run) → 0 < length jobs → asks_all jobs next ≡ Asks jobs next
asks_some [] next some = absurd (omega (arith, some))
asks_some (job ∷ jobs) next some = refl

ends_as : (tests : List (List ℕ)) (refused : Bool) (st : State) (next : State → Run) → then_run (guarded_all tests (Ends (how_if refused) st)) next ≡ batch_end tests refused next st
ends_as tests true st next = refl
ends_as tests false st next = refl

pub batch_asks : (given : Option (List Part)) (forms : List TestForm) (tests : List (List ℕ)) (st : State) (next : State → Run) → AllBatched forms → 0 < length (jobs_for given forms st)
    → (let entries = waiting_for [] forms st in let jobs = jobs_for given forms st in
    then_run (guarded_all tests (batched (tests_with given forms) st)) next ≡ Asks jobs (λ replies. batch_end tests (is_refused entries replies) next (after_entries entries jobs replies st)))
batch_asks given forms tests st next all some =
    let entries = waiting_for [] forms st in
    let asks = asking 1 [] (tests_with given forms) st in
    ap (λ r. then_run (guarded_all tests r) next) (asks_some (jobs_in asks) (λ replies. committed st asks replies false st) some)
    ∙ ap (Asks (jobs_in asks)) (fun_ext (λ replies.
    ap (λ r. then_run (guarded_all tests r) next) (comes given st (has_compiler given forms st all some) forms all 1 [] replies false st (begins_stands st))
    ∙ ends_as tests (is_refused entries replies) (after_entries entries (jobs_in asks) replies st) next))

fronted_as : (tests : List (List ℕ)) (asks : Bool) (st : State) (next : State → Run)
    → then_run (guarded_all tests (fronts asks st)) next ≡ cond asks (Ends (Stopped 1) (broken_all tests (Stopped 1) (with_note streams.Err no_compiler st))) (next st)
fronted_as tests true st next = refl
fronted_as tests false st next = refl

pub batch_now : (given : Option (List Part)) (forms : List TestForm) (tests : List (List ℕ)) (st : State) (next : State → Run) → AllBatched forms → jobs_for given forms st ≡ []
    → then_run (guarded_all tests (batched (tests_with given forms) st)) next ≡ fronted tests (waiting_for [] forms st) next st
batch_now given forms tests st next all none =
    let entries = waiting_for [] forms st in
    let asks = asking 1 [] (tests_with given forms) st in
    ap (λ js. then_run (guarded_all tests (asks_all js (λ replies. committed st asks replies false st))) next) none
    ∙ ap (λ r. then_run (guarded_all tests r) next) (fronts_all given st forms all 1 [] st none (begins_stands st))
    ∙ fronted_as tests (any_asks entries) (front_end entries st) next

-- ---- how many

at_once_of : (given : Option (List Part)) (first : State) → lacks first ≡ false → (forms : List TestForm) → AllBatched forms → (place : ℕ) (earlier : List (List ℕ))
    → length (jobs_in (asking place earlier (tests_with given forms) first)) ≡ at_once (waiting_for earlier forms first)
at_once_of given first has [] all place earlier = refl
at_once_of given first has (form ∷ more) all place earlier =
    ap length (jobs_first (test_of given form) (job_for (test_of given form) place earlier first) (asking (suc place) (form_name form ∷ earlier) (tests_with given more) first))
    ∙ counted (is_known (form_name form) earlier first) _ (has_job (test_of given form) place first all.0 has).1
    ∙ ap (λ n. cond (not (is_known (form_name form) earlier first)) (suc n) n) (at_once_of given first has more all.1 (suc place) (form_name form ∷ earlier))
  where
    counted : (b : Bool) {j : Option Job} {job : Job} (tail : List Job) → j ≡ Some job → length (option_to_list (cond b None j) ++ tail) ≡ cond (not b) (suc (length tail)) (length tail)
    counted true tail e = refl
    counted false tail e = ap (λ o. length (option_to_list o ++ tail)) e

pub at_once_is : (given : Option (List Part)) (forms : List TestForm) (st : State) → AllBatched forms → 0 < length (jobs_for given forms st) → length (jobs_for given forms st) ≡ at_once (waiting_for [] forms st)
at_once_is given forms st all some = at_once_of given st (has_compiler given forms st all some) forms all 1 []

at_once_few : (entries : List waiting.Waiting) → at_once entries ≤ length entries
at_once_few [] = omega arith
at_once_few (e ∷ more) = by e.asks (at_once_few more)
  where
    by : (b : Bool) {n m : ℕ} → n ≤ m → cond b (suc n) n ≤ suc m
    by true h = omega (arith, h)
    by false h = omega (arith, h)

pub waiting_length : (earlier : List (List ℕ)) (forms : List TestForm) (st : State) → length (waiting_for earlier forms st) ≡ length forms
waiting_length earlier [] st = refl
waiting_length earlier (form ∷ more) st = ap suc (waiting_length (form_name form ∷ earlier) more st)

pub forms_length : (what : Listed) (entries : List (List ℕ)) → length (forms_in what entries) ≡ length entries
forms_length what [] = refl
forms_length what (entry ∷ more) = ap suc (forms_length what more)

pub few_waiting : (what : Listed) (entries : List (List ℕ)) (st : State) → length (waiting_for [] (forms_in what entries) st) ≡ length entries
few_waiting what entries st = waiting_length [] (forms_in what entries) st ∙ forms_length what entries

pub few_jobs : (given : Option (List Part)) (forms : List TestForm) (st : State) → AllBatched forms → 0 < length (jobs_for given forms st) → length (jobs_for given forms st) ≤ length forms
few_jobs given forms st all some =
    omega (arith, at_once_is given forms st all some, at_once_few (waiting_for [] forms st), waiting_length [] forms st)
