-- One entry of a batch, and those after it.
use Rattle.std.proofs.Common.{◌≡◌, ℕ, Option, Some, None, List, [], ◌∷◌, ◌++◌, codes, Bool, true, false, cond, ◌⊎◌, inl, inr, refl, sym, ap, ◌∙◌, subst, ⊎_elim, append_assoc}
use Rattle.std.specs.Prelude.{◌||◌, ◌&&◌, ◌==◌, not, option_map, bytes_eq, unwrap_or}
use Rattle.std.proofs.lemmas.Bool.{cases_Bool}
use Rattle.std.proofs.lemmas.List.{append-nil}
use Rattle.crew_jobs.specs.declared.job.Job.{Job}
use Rattle.crew_trait.specs.declared.entry.Entry.{Entry}
use Rattle.crew_trait.specs.declared.entry.Entry.TheVariants.{Said, Child}
use Rattle.crew_trait.specs.declared.reply.Reply.{Reply}
use Rattle.crew_trait.specs.declared.reply.Reply.TheVariants.{Answer}
use Rattle.deftable.specs.Table.{value_of, with_entry, without_entry}
use Rattle.deftable.specs.declared.note.Note.{Note}
use Rattle.deftable.specs.declared.note.Stream.TheVariants.{Out}
use Rattle.test_forms.specs.declared.form.Gives.{Gives}
use Rattle.test_forms.specs.declared.form.Gives.TheVariants.{Nothing, Have, HaveOrNot, AddsLibrary, AddsValue}
use Rattle.test_forms.specs.Form.{TestForm}
use Rattle.meaning.specs.State.{piece, with_note, with_child, with_variable, State, How, Goes_on, Cut, Run, Ends, then_run, as_is}
use Rattle.meaning.specs.Asking.{success, only_reply, without_compiler}
use Rattle.meaning.specs.Tests.{guarded, checking, with_result, with_value, Row, tested_by, may_begin, tested}
use Rattle.meaning.specs.Rows.{row_of, Formed}
use Rattle.meaning.specs.Forms.{FormTest, defined_if, form_name, form_used, is_linked, says_found, symbol_part, with_given, with_library, with_library_if, with_linked}
use Rattle.meaning.proofs.Forms.{name_is_left}
use Rattle.meaning.specs.Batches.{IsBatched, jobs_in, with_body, yes_or_no, replied, commits, committed}
use Rattle.meaning_laws.specs.Logged.{children_of, paired}
use Rattle.meaning_laws.specs.Cached.{IsUnset}
use Rattle.meaning_laws.specs.Batched.{answer_to, value_by, given_defs, form_defs, defs_all, test_result, test_pieces}
use Rattle.meaning_laws.proofs.Values.{same_text, cond_true, cond_false, cases_value, value_here, value_there, without_unset}
use Rattle.meaning_laws.proofs.CachedTests.{set_row, unset_cached}
use Rattle.std.specs.List.{list_any}

-- ---- one entry

abbrev pub row_at : FormTest → Option Job → Reply → State → Row
row_at test job reply st = with_body (replied (form_name test.form) job reply) (row_of (Formed test) st)

abbrev pub how_if : Bool → How
how_if true = Cut
how_if false = Goes_on

abbrev pub flag_of : Option Bool → Bool
flag_of None = true
flag_of (Some b) = false

-- Whether an entry is refused, by the value of its name, its job and its reply, and the variables after it.
abbrev pub one_flag : Option (List ℕ) → Option Job → Reply → Bool
one_flag (Some v) job reply = false
one_flag None None reply = true
one_flag None (Some job) reply = flag_of (success reply)

abbrev pub set_by : Option Bool → List ℕ → List (List ℕ × List ℕ) → List (List ℕ × List ℕ)
set_by None name vars = vars
set_by (Some b) name vars = with_entry vars name (yes_or_no b)

abbrev pub one_vars : Option (List ℕ) → Option Job → Reply → List ℕ → List (List ℕ × List ℕ) → List (List ℕ × List ℕ)
one_vars (Some v) job reply name vars = vars
one_vars None None reply name vars = vars
one_vars None (Some job) reply name vars = set_by (success reply) name vars

abbrev pub one_kids : Option (List ℕ) → Option Job → Reply → List (Job × Reply)
one_kids (Some v) job reply = []
one_kids None None reply = []
one_kids None (Some job) reply = (job, reply) ∷ []

-- What is checked of an entry, and its result by its job and the value of its name.
abbrev pub asks_line : FormTest → Note
asks_line test = piece Out (codes "checking " ++ test.form.message ++ codes "... ")

abbrev pub result_line : Option Job → Option (List ℕ) → Note
result_line job value = piece Out (test_result job value ++ codes "\n")

-- The end of one entry.
pub record One (test : FormTest) (asked : Option Job) (now : State) (run : Run) (flag : Bool) (vars : List (List ℕ × List ℕ)) (kids : List (Job × Reply)) : Type 0 where
  pub end : State
  pub is : run ≡ Ends (how_if flag) end
  pub after : end.vars ≡ vars
  pub defs : end.defs ≡ form_defs test.form (value_of end.vars (form_name test.form)) now.defs
  pub said : end.messages ≡ now.messages ++ asks_line test ∷ result_line asked (value_of end.vars (form_name test.form)) ∷ []
  pub logged : children_of end.log ≡ kids

children_both : (a b : List Entry) → children_of (a ++ b) ≡ children_of a ++ children_of b
children_both [] b = refl
children_both (Said note ∷ a) b = children_both a b
children_both (Child job reply ∷ a) b = ap (λ l. (job, reply) ∷ l) (children_both a b)

pub said : (log : List Entry) (note : Note) → children_of (log ++ Said note ∷ []) ≡ children_of log
said log note = children_both log (Said note ∷ []) ∙ append-nil (children_of log)

pub added : (log : List Entry) (job : Job) (reply : Reply) → children_of (log ++ Child job reply ∷ []) ≡ children_of log ++ (job, reply) ∷ []
added log job reply = children_both log (Child job reply ∷ [])

-- Nothing but a definition was made.
pub record DefinesAlone (before now : State) : Type 0 where
  pub vars : now.vars ≡ before.vars
  pub messages : now.messages ≡ before.messages
  pub log : now.log ≡ before.log

pub if_alone : (b : Bool) (name : List ℕ) (st : State) → DefinesAlone st (defined_if b name st)
if_alone true name st = record { vars = refl; messages = refl; log = refl }
if_alone false name st = record { vars = refl; messages = refl; log = refl }

-- Nothing was printed, and no child was asked for.
pub record IsQuiet (before now : State) : Type 0 where
  pub messages : now.messages ≡ before.messages
  pub log : now.log ≡ before.log

if_quiet : (b : Bool) (name : List ℕ) (st : State) → IsQuiet st (defined_if b name st)
if_quiet true name st = record { messages = refl; log = refl }
if_quiet false name st = record { messages = refl; log = refl }

added_quiet : (b : Bool) (library : List ℕ) (st : State) → IsQuiet st (with_library_if b library st)
added_quiet true library st = record { messages = refl; log = refl }
added_quiet false library st = record { messages = refl; log = refl }

put_quiet : (b : Bool) (text : List ℕ) (st : State) → IsQuiet st (cond b (with_library text st) st)
put_quiet true text st = record { messages = refl; log = refl }
put_quiet false text st = record { messages = refl; log = refl }

linked_quiet : (value : Option (List ℕ)) (st : State) → IsQuiet st (with_linked value st)
linked_quiet None st = record { messages = refl; log = refl }
linked_quiet (Some value) st = put_quiet (is_linked (Some value) && not (bytes_eq value (codes "none required"))) value st

given_quiet : (gives : Gives) (found : Bool) (value : Option (List ℕ)) (st : State) → IsQuiet st (with_given gives found value st)
given_quiet Nothing found value st = record { messages = refl; log = refl }
given_quiet (Have what) found value st = if_quiet found _ st
given_quiet (HaveOrNot what) found value st = record { messages = refl; log = refl }
given_quiet (AddsLibrary library) found value st = added_quiet found library st
given_quiet AddsValue found value st = linked_quiet value st

-- What is done with a value is quiet.
pub used_quiet : (form : TestForm) (value : Option (List ℕ)) (st : State) → IsQuiet st (form_used form value st)
used_quiet form value st = given_quiet form.gives (says_found form.says value) value st

if_defs : (b : Bool) (name : List ℕ) (st : State) → (defined_if b name st).defs ≡ cond b (with_entry st.defs name (codes "1")) st.defs
if_defs true name st = refl
if_defs false name st = refl

added_defs : (b : Bool) (library : List ℕ) (st : State) → (with_library_if b library st).defs ≡ cond b (with_entry st.defs (codes "HAVE_LIB" ++ symbol_part library) (codes "1")) st.defs
added_defs true library st = refl
added_defs false library st = refl

put_defs : (b : Bool) (text : List ℕ) (st : State) → (cond b (with_library text st) st).defs ≡ st.defs
put_defs true text st = refl
put_defs false text st = refl

linked_defs : (value : Option (List ℕ)) (st : State) → (with_linked value st).defs ≡ st.defs
linked_defs None st = refl
linked_defs (Some value) st = put_defs (is_linked (Some value) && not (bytes_eq value (codes "none required"))) value st

-- What is defined with a value.
given_as : (gives : Gives) (found : Bool) (value : Option (List ℕ)) (st : State) → (with_given gives found value st).defs ≡ given_defs gives found st.defs
given_as Nothing found value st = refl
given_as (Have what) found value st = if_defs found _ st
given_as (HaveOrNot what) found value st = refl
given_as (AddsLibrary library) found value st = added_defs found library st
given_as AddsValue found value st = linked_defs value st

-- A test whose name has this value, once the result is printed: what is defined then.
value_defined : (test : FormTest) (v : List ℕ) (st : State) → value_of st.vars (form_name test.form) ≡ Some v → value_of (form_used test.form (Some v) st).vars (form_name test.form) ≡ Some v
value_defined test v st e = name_is_left test.form (Some v) st ∙ e

found_defs : (test : FormTest) (v : List ℕ) (st : State) → value_of st.vars (form_name test.form) ≡ Some v
    → (form_used test.form (Some v) st).defs ≡ form_defs test.form (value_of (form_used test.form (Some v) st).vars (form_name test.form)) st.defs
found_defs test v st e = given_as test.form.gives (says_found test.form.says (Some v)) (Some v) st ∙ ap (λ o. form_defs test.form o st.defs) (sym (value_defined test v st e))

found_said : (test : FormTest) (v : List ℕ) (job : Option Job) (st : State) (before : List Note) → value_of st.vars (form_name test.form) ≡ Some v → st.messages ≡ (before ++ asks_line test ∷ []) ++ result_line job (Some v) ∷ []
    → (form_used test.form (Some v) st).messages ≡ before ++ asks_line test ∷ result_line job (value_of (form_used test.form (Some v) st).vars (form_name test.form)) ∷ []
found_said test v job st before e m =
    (used_quiet test.form (Some v) st).messages ∙ m ∙ append_assoc before (asks_line test ∷ []) (result_line job (Some v) ∷ [])
    ∙ ap (λ o. before ++ asks_line test ∷ result_line job o ∷ []) (sym (value_defined test v st e))

-- An entry whose name is unset: nothing is defined, and `refused` is printed.
unset_defs : (test : FormTest) (value : Option (List ℕ)) (defs : List (List ℕ × List ℕ)) → value ≡ None → defs ≡ form_defs test.form value defs
unset_defs test value defs e = ap (λ o. form_defs test.form o defs) (sym e)

unset_said : (test : FormTest) (job : Option Job) (value : Option (List ℕ)) (before : List Note) → value ≡ None
    → (before ++ asks_line test ∷ []) ++ piece Out (codes "refused\n") ∷ [] ≡ before ++ asks_line test ∷ result_line job value ∷ []
unset_said test job value before e =
    append_assoc before (asks_line test ∷ []) (piece Out (codes "refused\n") ∷ []) ∙ ap (λ o. before ++ asks_line test ∷ result_line job o ∷ []) (sym e)

-- The children in the log after pieces and a child.
abbrev begins : FormTest → State → State
begins test now = checking (test.form.message) now

told_kids : (text : List ℕ) (st : State) → children_of (with_note Out text st).log ≡ children_of st.log
told_kids text st = said st.log (piece Out text)

begins_kids : (test : FormTest) (now : State) → children_of (begins test now).log ≡ children_of now.log
begins_kids test now = told_kids (codes "checking " ++ test.form.message ++ codes "... ") now

child_kids : (test : FormTest) (job : Job) (reply : Reply) (now : State) → children_of (with_child job reply (begins test now)).log ≡ children_of now.log ++ (job, reply) ∷ []
child_kids test job reply now = added (begins test now).log job reply ∙ ap (λ l. l ++ (job, reply) ∷ []) (begins_kids test now)

answered_kids : (test : FormTest) (job : Job) (reply : Reply) (b : Bool) (now : State)
    → (let s = with_variable (form_name test.form) (yes_or_no b) (with_child job reply (begins test now)) in
    children_of (form_used test.form (value_of s.vars (form_name test.form)) (with_result (unwrap_or (value_of s.vars (form_name test.form)) []) s)).log) ≡ children_of now.log ++ (job, reply) ∷ []
answered_kids test job reply b now =
    let s = with_variable (form_name test.form) (yes_or_no b) (with_child job reply (begins test now)) in
    let o = value_of s.vars (form_name test.form) in
    ap children_of (used_quiet test.form o (with_result (unwrap_or o []) s)).log ∙ told_kids (unwrap_or o [] ++ codes "\n") s ∙ child_kids test job reply now

set_kids : (test : FormTest) (v : List ℕ) (now : State)
    → children_of (form_used test.form (Some v) (with_result (codes "(cached) " ++ v) (begins test now))).log ≡ children_of now.log
set_kids test v now =
    ap children_of (used_quiet test.form (Some v) (with_result (codes "(cached) " ++ v) (begins test now))).log
    ∙ told_kids ((codes "(cached) " ++ v) ++ codes "\n") (begins test now) ∙ begins_kids test now

abbrev pub finds : List ℕ → Option (List ℕ) → State → Run
finds name value now = Ends Goes_on (with_value name value now)

-- What follows the children of a test.
abbrev pub rounded : Row → Run → Run
rounded r run =
    then_run (then_run (guarded r.test.name run) (λ now. Ends Goes_on (with_result (r.test.shown (value_of now.vars r.test.name)) now))) (λ now. Ends Goes_on (r.after (value_of now.vars r.test.name) now))

-- The run of a test whose name is unset, if it may begin.
pub unset_run : (r : Row) (st : State) → IsUnset r.test.name st.vars → r.ready ≡ true → tested r st ≡ rounded r (r.test.body (checking r.test.message st))
unset_run r st e ready =
    ap (λ o. tested_by (may_begin o r.ready) r st) e
    ∙ ap (λ b. tested_by b r st) ready
    ∙ ap (λ run. then_run run (λ now. Ends Goes_on (r.after (value_of now.vars r.test.name) now))) (unset_cached r.test st e)

pub unset_stops : (r : Row) (st : State) → IsUnset r.test.name st.vars → r.ready ≡ false → tested r st ≡ without_compiler as_is st
unset_stops r st e ready = ap (λ o. tested_by (may_begin o r.ready) r st) e ∙ ap (λ b. tested_by b r st) ready

-- Its name is unset after the test, too.
still_unset : (test : FormTest) (now : State) → value_of now.vars (form_name test.form) ≡ None → value_of (without_entry now.vars (form_name test.form)) (form_name test.form) ≡ None
still_unset test now e = ap (λ l. value_of l (form_name test.form)) (without_unset now.vars (form_name test.form) e) ∙ e

-- The state in which an entry has its answer, and its end.
abbrev heard_at : FormTest → Job → Reply → Bool → State → State
heard_at test job reply b now = with_variable (form_name test.form) (yes_or_no b) (with_child job reply (begins test now))

abbrev ends_by : FormTest → State → Option (List ℕ) → State
ends_by test st value = form_used test.form value (with_result (unwrap_or value []) st)

answered_defs : (test : FormTest) (st : State) (value : Option (List ℕ)) (v : List ℕ) → value_of st.vars (form_name test.form) ≡ Some v → value ≡ Some v
    → (ends_by test st value).defs ≡ form_defs test.form (value_of (ends_by test st value).vars (form_name test.form)) st.defs
answered_defs test st value v e is =
    subst (λ o. (ends_by test st o).defs ≡ form_defs test.form (value_of (ends_by test st o).vars (form_name test.form)) st.defs) (sym is)
    (found_defs test v (with_result v st) e)

answered_said : (test : FormTest) (job : Job) (st : State) (before : List Note) (value : Option (List ℕ)) (v : List ℕ) → value_of st.vars (form_name test.form) ≡ Some v → value ≡ Some v
    → st.messages ≡ before ++ asks_line test ∷ []
    → (ends_by test st value).messages ≡ before ++ asks_line test ∷ result_line (Some job) (value_of (ends_by test st value).vars (form_name test.form)) ∷ []
answered_said test job st before value v e is m =
    subst (λ o. (ends_by test st o).messages ≡ before ++ asks_line test ∷ result_line (Some job) (value_of (ends_by test st o).vars (form_name test.form)) ∷ []) (sym is)
    (found_said test v (Some job) (with_result v st) before e (ap (λ l. l ++ result_line (Some job) (Some v) ∷ []) m))

pub one_unset : (test : FormTest) (job : Option Job) (reply : Reply) (first now : State) → IsBatched test.form → (row_at test job reply first).ready ≡ true → value_of now.vars (form_name test.form) ≡ None
    → One test job now (tested (row_at test job reply first) now) (one_flag None job reply) (one_vars None job reply (form_name test.form) now.vars) (children_of now.log ++ one_kids None job reply)
one_unset test None reply first now h ready e =
    record {
      end = _;
      is = unset_run (row_at test None reply first) now e ready;
      after = without_unset now.vars (form_name test.form) e;
      defs = unset_defs test _ now.defs (still_unset test now e);
      said = unset_said test None _ now.messages (still_unset test now e);
      logged = told_kids (codes "refused\n") (begins test now) ∙ begins_kids test now ∙ sym (append-nil (children_of now.log));
    }
one_unset test (Some job) (Answer status text) first now h ready e =
    let st = heard_at test job (Answer status text) (status == 0) now in
    let here = value_here now.vars (form_name test.form) (yes_or_no (status == 0)) in
    record {
      end = _;
      is = unset_run (row_at test (Some job) (Answer status text) first) now e ready;
      after = h.vars _ _;
      defs = answered_defs test st (value_of st.vars (form_name test.form)) (yes_or_no (status == 0)) here here;
      said = answered_said test job st now.messages (value_of st.vars (form_name test.form)) (yes_or_no (status == 0)) here here refl;
      logged = answered_kids test job (Answer status text) (status == 0) now;
    }
one_unset test (Some job) refusal first now h ready e =
    record {
      end = _;
      is = unset_run (row_at test (Some job) refusal first) now e ready;
      after = without_unset now.vars (form_name test.form) e;
      defs = unset_defs test _ now.defs (still_unset test now e);
      said = unset_said test (Some job) _ now.messages (still_unset test now e);
      logged = told_kids (codes "refused\n") (with_child job refusal (begins test now)) ∙ child_kids test job refusal now;
    }

pub one_set : (test : FormTest) (job : Option Job) (reply : Reply) (first now : State) (v : List ℕ) → IsBatched test.form → value_of now.vars (form_name test.form) ≡ Some v
    → One test None now (tested (row_at test job reply first) now) false now.vars (children_of now.log)
one_set test job reply first now v h e =
    let st = with_result (codes "(cached) " ++ v) (begins test now) in
    record {
      end = _;
      is = set_row (row_at test job reply first) v now e;
      after = h.vars _ _;
      defs = found_defs test v st e;
      said = found_said test v None st now.messages e refl;
      logged = set_kids test v now;
    }

pub commit_one : (b refused : Bool) (run : Run) (s : State) (rest : Bool → State → Run) → run ≡ Ends (how_if b) s → commits run refused rest ≡ rest (b || refused) s
commit_one true refused run s rest e = ap (λ r. commits r refused rest) e
commit_one false refused run s rest e = ap (λ r. commits r refused rest) e

-- ---- the entries of a list

abbrev pub refused_in : List Reply → Bool
refused_in [] = false
refused_in (r ∷ rs) = flag_of (success r) || refused_in rs

-- What is known at an entry: the names of earlier entries are set, or one was refused, and other names are as they were when
-- the batch began.
pub record Stands (earlier : List (List ℕ)) (refused : Bool) (first now : State) : Type 0 where
  pub early : (n : List ℕ) → list_any (bytes_eq n) earlier ≡ true → value_of now.vars n ≡ None → refused ≡ true
  pub kept : (n v : List ℕ) → value_of first.vars n ≡ Some v → value_of now.vars n ≡ Some v
  pub others : (n : List ℕ) → list_any (bytes_eq n) earlier ≡ false → value_of now.vars n ≡ value_of first.vars n

pub record Comes (tests : List FormTest) (asks : List (FormTest × Option Job)) (replies : List Reply) (refused : Bool) (now : State) (run : Run) : Type 0 where
  pub end : State
  pub is : run ≡ Ends (how_if (refused || refused_in replies)) end
  pub value : (n : List ℕ) → value_of end.vars n ≡ value_by (value_of now.vars n) (answer_to n asks replies)
  pub defs : end.defs ≡ defs_all tests (value_of end.vars) now.defs
  pub said : end.messages ≡ now.messages ++ test_pieces asks (value_of end.vars)
  pub logged : children_of end.log ≡ children_of now.log ++ paired (jobs_in asks) replies

pub or_right : (b : Bool) → b || false ≡ b
or_right true = refl
or_right false = refl

pub or_same : (a b : Bool) → (a ≡ true → b ≡ true) → a || b ≡ b
or_same true b h = sym (h refl)
or_same false b h = refl

or_swap : (a b c : Bool) → (a || b) || c ≡ b || (a || c)
or_swap true true c = refl
or_swap true false c = refl
or_swap false b c = refl

pub or_cases : (a b : Bool) → a || b ≡ true → (a ≡ true) ⊎ (b ≡ true)
or_cases true b e = inl refl
or_cases false b e = inr e

pub or_false : (a b : Bool) → a || b ≡ false → (a ≡ false) × (b ≡ false)
or_false true b e = cc
or_false false b e = (refl, e)

pub by_none : (o : Option (List ℕ)) → o ≡ value_by o None
by_none None = refl
by_none (Some v) = refl

pub all_committed : (first : State) (replies : List Reply) (refused : Bool) (now : State) → committed first [] replies refused now ≡ Ends (how_if (refused || false)) now
all_committed first replies true now = refl
all_committed first replies false now = refl

-- An entry that asks for nothing: its name is set, or was refused before.
none_flag : (o : Option (List ℕ)) (reply : Reply) (refused : Bool) → (o ≡ None → refused ≡ true) → one_flag o None reply || refused ≡ refused
none_flag None reply refused h = sym (h refl)
none_flag (Some v) reply refused h = refl

one_quiet : (test : FormTest) (reply : Reply) (first now : State) → IsBatched test.form → (row_at test None reply first).ready ≡ true
    → One test None now (tested (row_at test None reply first) now) (one_flag (value_of now.vars (form_name test.form)) None reply) now.vars (children_of now.log)
one_quiet test reply first now h ready =
    ⊎_elim
    (λ e. subst (λ o. One test None now (tested (row_at test None reply first) now) (one_flag o None reply) now.vars (children_of now.log)) (sym e)
    (subst (One test None now (tested (row_at test None reply first) now) true now.vars) (append-nil (children_of now.log)) (one_unset test None reply first now h ready e)))
    (λ s. subst (λ o. One test None now (tested (row_at test None reply first) now) (one_flag o None reply) now.vars (children_of now.log)) (sym s.1) (one_set test None reply first now s.0 h s.1))
    (cases_value (value_of now.vars (form_name test.form)))

-- What an entry defines and prints, and then those after it. None of them has its name.
value_stays : (test : FormTest) (tail : List (FormTest × Option Job)) (replies : List Reply) (now end : State) → answer_to (form_name test.form) tail replies ≡ None
    → value_of end.vars (form_name test.form) ≡ value_by (value_of now.vars (form_name test.form)) (answer_to (form_name test.form) tail replies)
    → value_of end.vars (form_name test.form) ≡ value_of now.vars (form_name test.form)
value_stays test tail replies now end once is =
    is ∙ ap (value_by (value_of now.vars (form_name test.form))) once ∙ sym (by_none (value_of now.vars (form_name test.form)))

defs_joined : (test : FormTest) (more : List FormTest) (now mid end : State) → value_of end.vars (form_name test.form) ≡ value_of mid.vars (form_name test.form)
    → mid.defs ≡ form_defs test.form (value_of mid.vars (form_name test.form)) now.defs → end.defs ≡ defs_all more (value_of end.vars) mid.defs
    → end.defs ≡ defs_all (test ∷ more) (value_of end.vars) now.defs
defs_joined test more now mid end at_end one rest =
    rest ∙ ap (defs_all more (value_of end.vars)) (one ∙ ap (λ o. form_defs test.form o now.defs) (sym at_end))

said_joined : (test : FormTest) (job : Option Job) (tail : List (FormTest × Option Job)) (now mid end : State) → value_of end.vars (form_name test.form) ≡ value_of mid.vars (form_name test.form)
    → mid.messages ≡ now.messages ++ asks_line test ∷ result_line job (value_of mid.vars (form_name test.form)) ∷ []
    → end.messages ≡ mid.messages ++ test_pieces tail (value_of end.vars)
    → end.messages ≡ now.messages ++ test_pieces ((test, job) ∷ tail) (value_of end.vars)
said_joined test job tail now mid end at_end one rest =
    rest
    ∙ ap (λ l. l ++ test_pieces tail (value_of end.vars)) (one ∙ ap (λ o. now.messages ++ asks_line test ∷ result_line job o ∷ []) (sym at_end))
    ∙ append_assoc now.messages (asks_line test ∷ result_line job (value_of end.vars (form_name test.form)) ∷ []) (test_pieces tail (value_of end.vars))

pub quiet : (test : FormTest) (more : List FormTest) (tail : List (FormTest × Option Job)) (replies : List Reply) (refused : Bool) (first now : State) → IsBatched test.form → (row_at test None (only_reply replies) first).ready ≡ true
    → (value_of now.vars (form_name test.form) ≡ None → refused ≡ true)
    → answer_to (form_name test.form) tail replies ≡ None
    → ((s : State) → s.vars ≡ now.vars → Comes more tail replies refused s (committed first tail replies refused s))
    → Comes (test ∷ more) ((test, None) ∷ tail) replies refused now (committed first ((test, None) ∷ tail) replies refused now)
quiet test more tail replies refused first now is_one ready known once rest =
    let name = form_name test.form in
    let one = one_quiet test (only_reply replies) first now is_one ready in
    let go = rest one.end one.after in
    let stays = value_stays test tail replies one.end go.end once (go.value name) in
    record {
      end = go.end;
      is = commit_one (one_flag (value_of now.vars name) None (only_reply replies)) refused _ one.end (committed first tail replies) one.is
          ∙ ap (λ b. committed first tail replies b one.end) (none_flag (value_of now.vars name) (only_reply replies) refused known)
          ∙ go.is;
      value = λ n. go.value n ∙ ap (λ l. value_by (value_of l n) (answer_to n tail replies)) one.after;
      defs = defs_joined test more now one.end go.end stays one.defs go.defs;
      said = said_joined test None tail now one.end go.end stays one.said go.said;
      logged = go.logged ∙ ap (λ l. l ++ paired (jobs_in tail) replies) one.logged;
    }

-- An entry that asked for a child.
pub set_here : (s : Option Bool) (vars : List (List ℕ × List ℕ)) (name : List ℕ) → value_of vars name ≡ None → value_of (set_by s name vars) name ≡ option_map yes_or_no s
set_here None vars name e = e
set_here (Some b) vars name e = value_here vars name (yes_or_no b)

pub set_there : (s : Option Bool) (vars : List (List ℕ × List ℕ)) (name n : List ℕ) → bytes_eq n name ≡ false → value_of (set_by s name vars) n ≡ value_of vars n
set_there None vars name n f = refl
set_there (Some b) vars name n f = value_there vars name (yes_or_no b) n f

pub unset_flag : (s : Option Bool) → option_map yes_or_no s ≡ None → flag_of s ≡ true
unset_flag None e = refl
unset_flag (Some b) e = cc

by_answer : (s : Option Bool) (reply : Reply) → success reply ≡ s → option_map yes_or_no s ≡ value_by None (Some reply)
by_answer s reply e = ap (option_map yes_or_no) (sym e)

pub asked : (test : FormTest) (job : Job) (more : List FormTest) (tail : List (FormTest × Option Job)) (r : Reply) (rs : List Reply) (refused : Bool) (first now : State) → IsBatched test.form → (row_at test (Some job) r first).ready ≡ true
    → value_of now.vars (form_name test.form) ≡ None
    → answer_to (form_name test.form) tail rs ≡ None
    → ((s : State) → s.vars ≡ set_by (success r) (form_name test.form) now.vars → Comes more tail rs (flag_of (success r) || refused) s (committed first tail rs (flag_of (success r) || refused) s))
    → Comes (test ∷ more) ((test, Some job) ∷ tail) (r ∷ rs) refused now (committed first ((test, Some job) ∷ tail) (r ∷ rs) refused now)
asked test job more tail r rs refused first now is_one ready e once rest =
    let name = form_name test.form in
    let one = one_unset test (Some job) r first now is_one ready e in
    let go = rest one.end one.after in
    let stays = value_stays test tail rs one.end go.end once (go.value name) in
    record {
      end = go.end;
      is = commit_one (flag_of (success r)) refused _ one.end (committed first tail rs) one.is
          ∙ go.is ∙ ap (λ b. Ends (how_if b) go.end) (or_swap (flag_of (success r)) refused (refused_in rs));
      value = λ n. go.value n ∙ ap (λ l. value_by (value_of l n) (answer_to n tail rs)) one.after
          ∙ ⊎_elim (λ t. here n t) (λ f. there n f) (cases_Bool (bytes_eq n name));
      defs = defs_joined test more now one.end go.end stays one.defs go.defs;
      said = said_joined test (Some job) tail now one.end go.end stays one.said go.said;
      logged = go.logged ∙ ap (λ l. l ++ paired (jobs_in tail) rs) one.logged ∙ append_assoc (children_of now.log) ((job, r) ∷ []) (paired (jobs_in tail) rs);
    }
  where
    value_left : (s : Option Bool) (o : Option Reply) → o ≡ None → value_by (option_map yes_or_no s) o ≡ option_map yes_or_no s
    value_left None o h = ap (value_by None) h
    value_left (Some b) o h = refl

    here : (n : List ℕ) → bytes_eq n (form_name test.form) ≡ true
        → value_by (value_of (set_by (success r) (form_name test.form) now.vars) n) (answer_to n tail rs) ≡ value_by (value_of now.vars n) (answer_to n ((test, Some job) ∷ tail) (r ∷ rs))
    here n t =
        let name = form_name test.form in
        let same = same_text n name t in
        ap (λ x. value_by (value_of (set_by (success r) name now.vars) x) (answer_to x tail rs)) same
        ∙ ap (λ o. value_by o (answer_to name tail rs)) (set_here (success r) now.vars name e)
        ∙ value_left (success r) (answer_to name tail rs) once
        ∙ sym (ap (λ x. value_by (value_of now.vars x) (answer_to n ((test, Some job) ∷ tail) (r ∷ rs))) same
        ∙ ap (λ o. value_by o (answer_to n ((test, Some job) ∷ tail) (r ∷ rs))) e
        ∙ ap (value_by None) (cond_true (bytes_eq n name) (Some r) (answer_to n tail rs) t))

    there : (n : List ℕ) → bytes_eq n (form_name test.form) ≡ false
        → value_by (value_of (set_by (success r) (form_name test.form) now.vars) n) (answer_to n tail rs) ≡ value_by (value_of now.vars n) (answer_to n ((test, Some job) ∷ tail) (r ∷ rs))
    there n f =
        let name = form_name test.form in
        ap (λ o. value_by o (answer_to n tail rs)) (set_there (success r) now.vars name n f)
        ∙ ap (value_by (value_of now.vars n)) (sym (cond_false (bytes_eq n name) (Some r) (answer_to n tail rs) f))
