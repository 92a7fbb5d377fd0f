-- Laws of batches: which tests ask for a child, and what becomes of the replies.
use Rattle.std.specs.Prelude.{◌≡◌, ◌≤◌, ◌==◌, ℕ, Bool, true, false, List, [], ◌∷◌, ◌++◌, ◌⊎◌, Option, Some, None, option_map, is_some, bytes_eq, drop, length, codes, if◌then◌else◌}
use Rattle.crew_jobs.specs.declared.job.Job.{Job}
use Rattle.crew_jobs.specs.Probe.{words_of}
use Rattle.crew_trait.specs.declared.reply.Reply.{Reply}
use Rattle.deftable.specs.NameList.{AreDistinct}
use Rattle.deftable.specs.Table.{value_of, with_entry}
use Rattle.deftable.specs.declared.note.Note.{Note}
use Rattle.deftable.specs.declared.note.Stream.TheVariants.{Out}
use Rattle.shellword.specs.declared.part.Part.{Part}
use Rattle.ac_tree.specs.declared.listed.Listed.{Listed}
use Rattle.test_forms.specs.declared.form.Gives.{Gives}
use Rattle.test_forms.specs.declared.form.Gives.TheVariants.{Nothing, Have, HaveOrNot, AddsLibrary, AddsValue}
use Rattle.test_forms.specs.Form.{TestForm}
use Rattle.test_forms.specs.declared.form.TryForm.{TryForm}
use Rattle.meaning.specs.State.{State, piece, How, Goes_on, Stopped, Cut, Run, Ends, Asks}
use Rattle.meaning.specs.Asking.{success, only_reply}
use Rattle.meaning.specs.Forms.{FormTest, Table, digit_of, form_name, says_found, snippet_job, symbol_part, value_in}
use Rattle.meaning.specs.Entries.{listed_form, tests_of}
use Rattle.meaning.specs.Rows.{Formed, row_of}
use Rattle.meaning.specs.Batches.{AreBatched, asking, jobs_in, committed, batched, replied, yes_or_no}
use Rattle.meaning.specs.Play.{first_refused}
use Rattle.meaning_laws.specs.Logged.{children_of, paired}

-- The variable CC has no word, so there is no compiler. (Autoconf's manual, "Running the Compiler")
abbrev pub lacks_compiler : State → Bool
lacks_compiler st = length (words_of st.vars (codes "CC")) == 0

-- The reply to the child that a name asked for. (own)
abbrev pub answer_to : List ℕ → List (FormTest × Option Job) → List Reply → Option Reply
answer_to name [] replies = None
answer_to name ((test, None) ∷ more) replies = answer_to name more replies
answer_to name ((test, Some job) ∷ more) replies =
    if bytes_eq name (form_name test.form) then Some (only_reply replies) else answer_to name more (drop 1 replies)

-- A value that was there stays. Otherwise an answer gives one, and a refusal none. (own)
abbrev pub value_by : Option (List ℕ) → Option Reply → Option (List ℕ)
value_by (Some value) reply = Some value
value_by None None = None
value_by None (Some reply) = option_map yes_or_no (success reply)

-- The run is cut if there is such a number. (own)
abbrev pub cut_by : Option ℕ → How
cut_by None = Goes_on
cut_by (Some number) = Cut

-- The definitions after a test, by what its form gives, and whether it has found what it looks for: `HAVE_` and the form's
-- text is defined as 1 if it has, or as 1 or 0, and `HAVE_LIB` and a library as 1 if it has. (Autoconf's manual, "Generic
-- Headers" to "Generic Types", and "Library Files")
abbrev pub given_defs : Gives → Bool → Table → Table
given_defs Nothing found defs = defs
given_defs (Have what) found defs = if found then with_entry defs (codes "HAVE_" ++ symbol_part what) (codes "1") else defs
given_defs (HaveOrNot what) found defs = with_entry defs (codes "HAVE_" ++ symbol_part what) (digit_of found)
given_defs (AddsLibrary library) found defs = if found then with_entry defs (codes "HAVE_LIB" ++ symbol_part library) (codes "1") else defs
given_defs AddsValue found defs = defs

-- The definitions after a test, by the value that its name has at the end. A test whose name is unset defines nothing. (own)
abbrev pub form_defs : TestForm → Option (List ℕ) → Table → Table
form_defs form None defs = defs
form_defs form (Some value) defs = given_defs form.gives (says_found form.says (Some value)) defs

-- The definitions after all tests, one after the other, by the values of their names. (own)
abbrev pub defs_all : List FormTest → (List ℕ → Option (List ℕ)) → Table → Table
defs_all [] value defs = defs
defs_all (test ∷ more) value defs = defs_all more value (form_defs test.form (value (form_name test.form)) defs)

-- What is printed after `checking ..`, by the value that the name of a test has at the end: `refused` if it has none, and
-- otherwise the value, with `(cached)` in front if the test asked for no child. (Autoconf's manual, "Caching Results"; of a
-- refused child, own)
abbrev pub test_result : Option Job → Option (List ℕ) → List ℕ
test_result job None = codes "refused"
test_result (Some job) (Some value) = value
test_result None (Some value) = codes "(cached) " ++ value

-- The pieces of text that tests print: what is checked, and the result. (Autoconf's manual, "Printing Messages")
abbrev pub test_pieces : List (FormTest × Option Job) → (List ℕ → Option (List ℕ)) → List Note
test_pieces [] value = []
test_pieces ((test, job) ∷ more) value =
    piece Out (codes "checking " ++ test.form.message ++ codes "... ")
    ∷ piece Out (test_result job (value (form_name test.form)) ++ codes "\n")
    ∷ test_pieces more value

-- The end of a batch under the replies to its children: it is cut exactly if one was refused. Each name has its value from
-- before, or the one that the reply to its child gives. What these values say is defined and printed, a test after the
-- other. The children are logged in the order of the list. (own)
pub record Commits (tests : List FormTest) (st : State) (replies : List Reply) (run : Run) : Type 0 where
  pub now : State
  pub is : run ≡ Ends (cut_by (first_refused replies)) now
  pub value : (name : List ℕ) → value_of now.vars name ≡ value_by (value_of st.vars name) (answer_to name (asking 1 [] tests st) replies)
  pub defs : now.defs ≡ defs_all tests (value_of now.vars) st.defs
  pub said : now.messages ≡ st.messages ++ test_pieces (asking 1 [] tests st) (value_of now.vars)
  pub logged : children_of now.log ≡ children_of st.log ++ paired (jobs_in (asking 1 [] tests st)) replies

-- If there is a compiler, a batch ends so under any replies. (own)
abbrev pub BatchCommits : Type 0
BatchCommits = (tests : List FormTest) (st : State) (replies : List Reply) → AreBatched tests → lacks_compiler st ≡ false
    → length replies ≡ length (jobs_in (asking 1 [] tests st))
    → Commits tests st replies (committed st (asking 1 [] tests st) replies false st)

-- The name is that of one of these tests. (own)
abbrev pub IsEntry : List ℕ → List FormTest → Type 0
IsEntry name [] = ⊥
IsEntry name (test ∷ more) = (form_name test.form ≡ name) ⊎ IsEntry name more

-- A name that is unset when the batch begins has a child if it is that of a test. No other name has one. (own)
pub record AsksUnset (tests : List FormTest) (st : State) (name : List ℕ) (replies : List Reply) : Type 0 where
  pub unset : IsEntry name tests → value_of st.vars name ≡ None
      → (reply : Reply) × (answer_to name (asking 1 [] tests st) replies ≡ Some reply)
  pub known : (value : List ℕ) → value_of st.vars name ≡ Some value → answer_to name (asking 1 [] tests st) replies ≡ None
  pub stranger : (IsEntry name tests → ⊥) → answer_to name (asking 1 [] tests st) replies ≡ None

-- If there is a compiler, this holds of each name. (own)
abbrev pub BatchAsksUnset : Type 0
BatchAsksUnset = (tests : List FormTest) (st : State) (name : List ℕ) (replies : List Reply) → AreBatched tests → lacks_compiler st ≡ false → AsksUnset tests st name replies

-- The name of each test is set. (own)
abbrev pub all_set : List FormTest → State → Bool
all_set [] st = true
all_set (test ∷ more) st = if is_some (value_of st.vars (form_name test.form)) then all_set more st else false

-- The run asks for nothing, and leaves the variables as they were and no child in the log. It continues, or stops with
-- status 1. (own)
pub record StopsUnless (continues : Bool) (st : State) (run : Run) : Type 0 where
  pub now : State
  pub is : run ≡ Ends (if continues then Goes_on else Stopped 1) now
  pub vars : now.vars ≡ st.vars
  pub logged : children_of now.log ≡ children_of st.log

-- If there is no compiler, a batch stops unless each of its names is set. (own)
abbrev pub BatchStops : Type 0
BatchStops = (tests : List FormTest) (st : State) → AreBatched tests → lacks_compiler st ≡ true → StopsUnless (all_set tests st) st (batched tests st)

-- The run asks for nothing, continues, and leaves the variables as they were. What their values say is defined and printed, a
-- test after the other. (own)
pub record KeepsSet (tests : List FormTest) (st : State) (run : Run) : Type 0 where
  pub now : State
  pub is : run ≡ Ends Goes_on now
  pub vars : now.vars ≡ st.vars
  pub defs : now.defs ≡ defs_all tests (value_of st.vars) st.defs
  pub said : now.messages ≡ st.messages ++ test_pieces (asking 1 [] tests st) (value_of st.vars)
  pub logged : children_of now.log ≡ children_of st.log

-- If each of its names is set, a batch does so, whether or not there is a compiler. (Autoconf's manual, "Caching Results")
abbrev pub BatchKeepsSet : Type 0
BatchKeepsSet = (tests : List FormTest) (st : State) → AreBatched tests → all_set tests st ≡ true → KeepsSet tests st (batched tests st)

-- A batch asks for no more children than it has tests. (own)
abbrev pub BatchAsksFew : Type 0
BatchAsksFew = (tests : List FormTest) (st : State) → length (jobs_in (asking 1 [] tests st)) ≤ length tests

-- The names of the tests that ask for a child. (own)
abbrev pub names_asked : List (FormTest × Option Job) → List (List ℕ)
names_asked [] = []
names_asked ((test, None) ∷ more) = names_asked more
names_asked ((test, Some job) ∷ more) = form_name test.form ∷ names_asked more

-- A batch asks for at most one child for a name, also if several of its tests have that name. (own)
abbrev pub BatchAsksOnce : Type 0
BatchAsksOnce = (tests : List FormTest) (st : State) → AreDistinct (names_asked (asking 1 [] tests st))

-- ---- the tests of a batch, one by one

-- The tests of the entries of a list may be in a batch. (own)
abbrev pub EntriesAreBatched : Type 0
EntriesAreBatched = (listed : Listed) (entries : List (List ℕ)) (includes : Option (List Part)) → AreBatched (tests_of listed entries includes)

-- A form with one try, after which its value is `yes` or `no`. (own)
pub record IsSingle (form : TestForm) (only : TryForm) : Type 0 where
  pub one : form.tries ≡ only ∷ []
  pub ends : only.ends_on ≡ true
  pub yes : only.value ≡ codes "yes"
  pub no : form.otherwise ≡ codes "no"

-- There is such a try. (own)
pub record HasOne (form : TestForm) : Type 0 where
  pub only : TryForm
  pub single : IsSingle form only

-- The body of such a test is that of an entry of a list whose job was asked for before. (own)
abbrev pub SinglesAreReplied : Type 0
SinglesAreReplied = (t : FormTest) (only : TryForm) (job : Job) (st : State)
    → IsSingle t.form only → snippet_job only.snippet t.form.entry (value_in t.given st) 0 st.vars st.defs ≡ Some job
    → (row_of (Formed t) st).test.body st ≡ Asks (job ∷ []) (λ replies. replied (form_name t.form) (Some job) (only_reply replies) st)

-- The form of each entry of a list is one. (own)
abbrev pub EntriesAreSingle : Type 0
EntriesAreSingle = (listed : Listed) (entry : List ℕ) (defines : Bool) → HasOne (listed_form listed entry defines)
