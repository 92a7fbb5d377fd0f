-- The ends of a test of one name: its own name was written and what follows was done, or all is as before.
use Rattle.std.proofs.Common.{◌≡◌, ℕ, List, [], ◌∷◌, ◌++◌, map, codes, Bool, true, false, cond, Option, Some, None, inl, inr, refl, sym, ap, ◌∙◌, subst, ⊎_elim}
use Rattle.std.specs.Prelude.{unwrap_or, not, ◌&&◌, bytes_eq}
use Rattle.crew_jobs.specs.declared.job.Job.{Job}
use Rattle.deftable.specs.Table.{value_of}
use Rattle.shellword.specs.declared.part.Part.{Part}
use Rattle.ac_tree.specs.Commands.{AreCommands}
use Rattle.ac_tree.specs.Resumable.{IsOrdinary, MayRead, Resumable}
use Rattle.ac_tree.specs.Script.{Script}
use Rattle.meaning.specs.State.{State, with_definition, How, Goes_on, Run, Ends, as_is}
use Rattle.meaning.specs.Asking.{success, only_reply, compiled, same, Attempt}
use Rattle.meaning.specs.Tests.{Test, broken, checking, cached_test, Row, tested_by, may_begin, tested, with_value, by_attempts}
use Rattle.test_forms.specs.declared.form.Gives.{Gives}
use Rattle.test_forms.specs.declared.form.Gives.TheVariants.{Nothing, Have, HaveOrNot, AddsLibrary, AddsValue}
use Rattle.test_forms.specs.declared.form.TryForm.{TryForm}
use Rattle.meaning.specs.Forms.{FormTest, attempt_of_try, form_name, is_linked, says_found, symbol_part, value_in, with_given, with_library, with_library_if, with_linked}
use Rattle.meaning.specs.Rows.{TestKind, Program, Formed, name_of, attempts_of, otherwise_of, after_of, row_of}
use Rattle.meaning.proofs.Forms.{defined_vars}
use Rattle.meaning.specs.Meaning.{check, meaning}
use Rattle.meaning_laws.specs.Ends.{AtEnds, Breaks}
use Rattle.meaning_laws.specs.Cached.{IsSet, with_cached}
use Rattle.meaning_laws.proofs.Values.{cases_value, value_here}
use Rattle.meaning_laws.proofs.Endings.{ends_then, ends_map, ends_either, ends_heard}
use Rattle.meaning_laws.proofs.CachedTests.{set_cached, set_row_asks_nothing, broken_ends, broken_vars}
use Rattle.meaning_laws.proofs.CommandLemmas.{OwnOnly, own_unset, broken_defs, row_alone, commands_write_alone}
use Rattle.meaning_resumption.specs.Joint.{checks}
use Rattle.meaning_resumption.proofs.Near.{Within, IsCached, Alike, Every, Like}
use Rattle.meaning_resumption.proofs.Names.{value_else, cached_apart, libs_plain}
use Rattle.meaning_resumption.proofs.Liking.{Reads, wider_reads, ReadsKind, row_like, after_alike}
use Rattle.meaning_resumption.proofs.CommandLiking.{check_like}

-- No name but its own was written since, and nothing was defined.
pub record Own (name : List ℕ) (before now : State) : Type 0 where
  pub others : (n : List ℕ) → (name ≡ n → ⊥) → value_of now.vars n ≡ value_of before.vars n
  pub defs : now.defs ≡ before.defs

pub own_else : (name : List ℕ) (before now : State) (n : List ℕ) → Own name before now → (name ≡ n → ⊥) → value_of now.vars n ≡ value_of before.vars n
own_else name before now n own ne = own.others n ne

pub own_from : (name : List ℕ) (before now : State) → OwnOnly name before now → Own name before now
own_from name before now own = record {
  others = λ n ne. ⊎_elim (λ e. ap (λ l. value_of l n) e) (λ set. ap (λ l. value_of l n) set.1 ∙ value_else before.vars name set.0 n ne) own.0;
  defs = own.1;
}

pub alike_refl : (at : List ℕ → Type 0) (s : State) → Alike at s s
alike_refl at s = record { defs = refl; value = λ n a. refl }

pub alike_trans : (at : List ℕ → Type 0) (a b c : State) → Alike at a b → Alike at b c → Alike at a c
alike_trans at a b c x y = record { defs = x.defs ∙ y.defs; value = λ n k. x.value n k ∙ y.value n k }

pub alike_sym : (at : List ℕ → Type 0) (a b : State) → Alike at a b → Alike at b a
alike_sym at a b x = record { defs = sym x.defs; value = λ n k. sym (x.value n k) }

-- A test that continued.
pub record Went (after : Option (List ℕ) → State → State) (name : List ℕ) (before now : State) : Type 0 where
  pub mid : State
  pub own : Own name before mid
  pub is : Alike Every now (after (value_of mid.vars name) mid)

-- One that didn't: cache names are as before.
abbrev pub Still : State → State → Type 0
Still before now = (n : List ℕ) → IsCached n → value_of now.vars n ≡ value_of before.vars n

abbrev pub Form : (Option (List ℕ) → State → State) → List ℕ → State → How → State → Type 0
Form after name before Goes_on now = Went after name before now
Form after name before how now = Still before now

pub form_off : (after : Option (List ℕ) → State → State) (name : List ℕ) (before : State) (how : How) (now : State) → Breaks how → Still before now → Form after name before how now
form_off after name before Goes_on now breaks h = absurd (breaks refl)
form_off after name before _ now breaks h = h

-- The run asks for nothing, and ends like this state.
pub record Follows (run : Run) (state : State) : Type 0 where
  pub now : State
  pub run_is : run ≡ Ends Goes_on now
  pub is : Alike Every now state

-- A test of one name; `known` are the names that were tested before.
pub record IsTest (known : List (List ℕ)) (name : List ℕ) (after : Option (List ℕ) → State → State) (part : State → Run) : Type 0 where
  pub cached : IsCached name
  pub set : (st : State) (v : List ℕ) → value_of st.vars name ≡ Some v → Follows (part st) (after (Some v) st)
  pub form : (st : State) → value_of st.vars name ≡ None → AtEnds (Form after name st) (part st)
  pub every : (s t : State) → Alike Every s t → Like Every (part s) (part t)
  pub twin : (s t : State) → Alike (MayRead (name ∷ known)) s t → Like (MayRead (name ∷ known)) (part s) (part t)
  pub values : (o : Option (List ℕ)) (n : List ℕ) (st : State) → IsCached n → value_of (after o st).vars n ≡ value_of st.vars n
  pub follow : (o : Option (List ℕ)) (s t : State) → Alike (MayRead (name ∷ known)) s t → Alike (MayRead (name ∷ known)) (after o s) (after o t)

-- It sets its name if it continues.
abbrev pub Settles : List ℕ → (State → Run) → Type 0
Settles name part = (st : State) → AtEnds (λ how now. how ≡ Goes_on → IsSet name now.vars) (part st)

-- ---- after the guard

abbrev Middle : List ℕ → State → How → State → Type 0
Middle name before how now = OwnOnly name before now × (Breaks how → now.vars ≡ before.vars)

cached_form : (t : Test) (st : State) → value_of st.vars t.name ≡ None → AtEnds (λ how now. OwnOnly t.name st now) (t.body (checking t.message st)) → AtEnds (Middle t.name st) (cached_test t st)
cached_form t st none body =
    broken_ends (λ how now. OwnOnly t.name st now) (Middle t.name st) t st none body
    (λ how now breaks own.
    let back : (broken t.name how now).vars ≡ st.vars = broken_vars t.name how now breaks ∙ own_unset st.vars now.vars t.name none own.0 in
    ((inl back, broken_defs t.name how now ∙ own.1), λ again. back))
    (λ now own. ((own.0, own.1), λ breaks. absurd (breaks refl)))

still_vars : (before now : State) → now.vars ≡ before.vars → Still before now
still_vars before now e n c = ap (λ l. value_of l n) e

form_of : (after : Option (List ℕ) → State → State) (name : List ℕ) (before : State) → ((o : Option (List ℕ)) (st : State) → after o st ≡ st) → (how : How) (now : State) → Middle name before how now → Form after name before how now
form_of after name before id Goes_on now m = record { mid = now; own = own_from name before now m.0; is = subst (Alike Every now) (sym (id (value_of now.vars name) now)) (alike_refl Every now) }
form_of after name before id _ now m = still_vars before now (m.1 (λ e. cc))

pub tested_form : (r : Row) (st : State) → value_of st.vars r.test.name ≡ None → AtEnds (λ how now. OwnOnly r.test.name st now) (r.test.body (checking r.test.message st)) → AtEnds (Form r.after r.test.name st) (tested r st)
tested_form r st none body = subst (λ o. AtEnds (Form r.after r.test.name st) (tested_by (may_begin o r.ready) r st)) (sym none) (by_ready r.ready)
  where
    by_ready : (b : Bool) → AtEnds (Form r.after r.test.name st) (tested_by b r st)
    by_ready true =
        ends_then (Middle r.test.name st) (Form r.after r.test.name st) (cached_test r.test st) _ (cached_form r.test st none body)
        (λ now m. record { mid = now; own = own_from r.test.name st now m.0; is = alike_refl Every (r.after (value_of now.vars r.test.name) now) })
        (λ how now breaks m. form_off r.after r.test.name st how now breaks (still_vars st now (m.1 breaks)))
    by_ready false = λ n c. refl

-- ---- rows

library_values : (text : List ℕ) (n : List ℕ) (st : State) → IsCached n → value_of (with_library text st).vars n ≡ value_of st.vars n
library_values text n st c = value_else st.vars (codes "LIBS") _ n (λ e. cached_apart n (codes "LIBS") c libs_plain (sym e))

if_values : (b : Bool) (library : List ℕ) (n : List ℕ) (st : State) → IsCached n → value_of (with_library_if b library st).vars n ≡ value_of st.vars n
if_values true library n st c = library_values (codes "-l" ++ library) n (with_definition (codes "HAVE_LIB" ++ symbol_part library) (codes "1") st) c
if_values false library n st c = refl

pub cond_values : (b : Bool) (x y : State) (n : List ℕ) (o : Option (List ℕ)) → value_of x.vars n ≡ o → value_of y.vars n ≡ o → value_of (cond b x y).vars n ≡ o
cond_values true x y n o e f = e
cond_values false x y n o e f = f

linked_values : (o : Option (List ℕ)) (n : List ℕ) (st : State) → IsCached n → value_of (with_linked o st).vars n ≡ value_of st.vars n
linked_values None n st c = refl
linked_values (Some value) n st c =
    cond_values (is_linked (Some value) && not (bytes_eq value (codes "none required"))) (with_library value st) st n (value_of st.vars n) (library_values value n st c) refl

-- The variable of a program is an ordinary name.
abbrev pub PlainKind : TestKind → Type 0
PlainKind (Program search own) = IsOrdinary search.variable
PlainKind (Formed t) = Unit {0}

given_values : (gives : Gives) (found : Bool) (o : Option (List ℕ)) (n : List ℕ) (st : State) → IsCached n → value_of (with_given gives found o st).vars n ≡ value_of st.vars n
given_values Nothing found o n st c = refl
given_values (Have what) found o n st c = ap (λ l. value_of l n) (defined_vars found _ st)
given_values (HaveOrNot what) found o n st c = refl
given_values (AddsLibrary library) found o n st c = if_values found library n st c
given_values AddsValue found o n st c = linked_values o n st c

pub after_values : (kind : TestKind) → PlainKind kind → (o : Option (List ℕ)) (n : List ℕ) (st : State) → IsCached n → value_of (after_of kind o st).vars n ≡ value_of st.vars n
after_values (Program search own) p o n st c = value_else st.vars search.variable (unwrap_or o []) n (λ e. cached_apart n search.variable c p (sym e))
after_values (Formed t) p o n st c = given_values t.form.gives (says_found t.form.says o) o n st c

pub row_form : (kind : TestKind) (st : State) → value_of st.vars (name_of kind) ≡ None → AtEnds (Form (after_of kind) (name_of kind) st) (tested (row_of kind st) st)
row_form kind st none = tested_form (row_of kind st) st none (row_alone kind st (checking (row_of kind st).test.message st))

pub row_set : (kind : TestKind) (st : State) (v : List ℕ) → value_of st.vars (name_of kind) ≡ Some v → Follows (tested (row_of kind st) st) (after_of kind (Some v) st)
row_set kind st v e =
    let o = set_row_asks_nothing (row_of kind st) v st e in
    let mid = with_cached (row_of kind st).test v st in
    record { now = after_of kind (Some v) mid; run_is = o.run; is = after_alike Every kind (Some v) mid st tt (record { defs = refl; value = λ n k. refl }) }

-- What may be read with less known may be read with more.
pub reads_more : (tested known : List (List ℕ)) (name : List ℕ) → Within tested known → Reads (MayRead (name ∷ known)) tested
reads_more tested known name w = wider_reads tested (name ∷ known) (λ n a. inr (w n a))

pub row_test : (tested_before known : List (List ℕ)) (kind : TestKind) → Within tested_before known → IsCached (name_of kind) → PlainKind kind → ReadsKind tested_before kind → IsTest known (name_of kind) (after_of kind) (λ st. tested (row_of kind st) st)
row_test tested_before known kind w c p r = record {
  cached = c;
  set = λ st v e. row_set kind st v e;
  form = λ st none. row_form kind st none;
  every = λ s t h. row_like Every tested_before kind s t tt (λ n m. tt) r h;
  twin = λ s t h. row_like (MayRead (name_of kind ∷ known)) tested_before kind s t (inr (inl refl)) (reads_more tested_before known (name_of kind) w) r h;
  values = after_values kind p;
  follow = λ o s t h. after_alike (MayRead (name_of kind ∷ known)) kind o s t (inl libs_plain) h;
}

-- ---- AC_CACHE_CHECK

abbrev pub nothing_after : Option (List ℕ) → State → State
nothing_after o st = st

pub check_test : (own : Option (List ℕ)) (tested_before known : List (List ℕ)) (message : List Part) (name : List ℕ) (commands : Script) → Within tested_before known → IsCached name → AreCommands name commands → Resumable own tested_before commands
    → IsTest known name nothing_after (checks message name (meaning commands))
check_test own tested_before known message name commands w c a r = record {
  cached = c;
  set = λ st v e.
      let t = check message name (meaning commands) st in
      record { now = with_cached t v st; run_is = set_cached t v st e; is = record { defs = refl; value = λ n k. refl } };
  form = λ st none.
      let t = check message name (meaning commands) st in
      ends_map (Middle name st) (Form nothing_after name st) (cached_test t st)
      (cached_form t st none (commands_write_alone commands name a (checking t.message st)))
      (λ how now m. form_of nothing_after name st (λ o x. refl) how now m);
  every = λ s t h. check_like Every own tested_before message name commands s t (λ n k. tt) tt a r h;
  twin = λ s t h. check_like (MayRead (name ∷ known)) own tested_before message name commands s t (reads_more tested_before known name w) (inr (inl refl)) a r h;
  values = λ o n st k. refl;
  follow = λ o s t h. h;
}

-- ---- tests that set their name if they continue

abbrev AllGive : List Attempt → Type 0
AllGive [] = Unit {0}
AllGive (a ∷ more) = ((v : List ℕ) × (a.value ≡ Some v)) × AllGive more

abbrev Sets_it : List ℕ → How → State → Type 0
Sets_it name how now = how ≡ Goes_on → IsSet name now.vars

value_sets : (name : List ℕ) (o : Option (List ℕ)) (v : List ℕ) (st : State) → o ≡ Some v → IsSet name (with_value name o st).vars
value_sets name None v st e = cc
value_sets name (Some w) v st e = (w, value_here st.vars name w)

job_settles : (name : List ℕ) (a : Attempt) (more : List Attempt) (v : List ℕ) (st : State) (job : Option Job) → (w : List ℕ) × (a.value ≡ Some w) → ((now : State) → AtEnds (Sets_it name) (by_attempts name more (Some v) now))
    → AtEnds (Sets_it name) (compiled as_is job st (λ b now. cond (same a.ends_on b) (Ends Goes_on (with_value name a.value now)) (by_attempts name more (Some v) now)))
job_settles name a more v st None g rest = λ e. cc
job_settles name a more v st (Some job) g rest =
    λ rs. ends_heard (λ now. Unit {0}) (Sets_it name) (success (only_reply rs)) _ _ (λ now k e. cc)
    (λ b now k. ends_either (Sets_it name) (same a.ends_on b) _ _ (λ e. value_sets name a.value g.0 now g.1) (rest now)) tt

attempts_settle : (name : List ℕ) (attempts : List Attempt) (v : List ℕ) (st : State) → AllGive attempts → AtEnds (Sets_it name) (by_attempts name attempts (Some v) st)
attempts_settle name [] v st g = λ e. (v, value_here st.vars name v)
attempts_settle name (a ∷ more) v st g = job_settles name a more v st a.job g.0 (λ now. attempts_settle name more v now g.1)

tries_give : (entry : List ℕ) (given : Option (List ℕ)) (st : State) (tries : List TryForm) → AllGive (map (attempt_of_try entry given st.vars st.defs) tries)
tries_give entry given st [] = tt
tries_give entry given st (a ∷ more) = ((a.value, refl), tries_give entry given st more)

row_settles : (kind : TestKind) → PlainKind kind → ((st now : State) → AtEnds (Sets_it (name_of kind)) (by_attempts (name_of kind) (attempts_of kind st) (otherwise_of kind) now)) → IsCached (name_of kind) → Settles (name_of kind) (λ st. tested (row_of kind st) st)
row_settles kind plain body c st =
    let name = name_of kind in
    let r = row_of kind st in
    ⊎_elim
    (λ none. subst (λ o. AtEnds (Sets_it name) (tested_by (may_begin o r.ready) r st)) (sym none) (by_ready r.ready none))
    (λ some.
    let o = set_row_asks_nothing r some.0 st some.1 in
    subst (AtEnds (Sets_it name)) (sym o.run) (λ e. (some.0, after_values kind plain (Some some.0) name (with_cached r.test some.0 st) c ∙ some.1)))
    (cases_value (value_of st.vars name))
  where
    by_ready : (b : Bool) → value_of st.vars (name_of kind) ≡ None → AtEnds (Sets_it (name_of kind)) (tested_by b (row_of kind st) st)
    by_ready true none =
        ends_then (Sets_it (name_of kind)) (Sets_it (name_of kind)) (cached_test (row_of kind st).test st) _
        (broken_ends (Sets_it (name_of kind)) (Sets_it (name_of kind)) (row_of kind st).test st none (body st (checking (row_of kind st).test.message st))
        (λ how now breaks h again. absurd (breaks again)) (λ now h e. h refl))
        (λ now h e. let s = h refl in (s.0, after_values kind plain (value_of now.vars (name_of kind)) (name_of kind) now c ∙ s.1))
        (λ how now breaks h e. absurd (breaks e))
    by_ready false none = λ e. cc

-- The test of a form sets its name if it continues.
pub formed_settles : (t : FormTest) → IsCached (form_name t.form) → Settles (form_name t.form) (λ st. tested (row_of (Formed t) st) st)
formed_settles t c =
    row_settles (Formed t) tt (λ st now. attempts_settle _ (attempts_of (Formed t) st) t.form.otherwise now (tries_give t.form.entry (value_in t.given st) st t.form.tries)) c
