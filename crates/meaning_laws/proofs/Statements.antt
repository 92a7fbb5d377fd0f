-- What holds of each run of statements if its steps keep it.
use Rattle.std.proofs.Common.{◌≡◌, ℕ, Option, Some, None, List, [], ◌∷◌, ◌++◌, codes, Bool, true, false, cond, refl, sym, ap, subst, ⊎_elim}
use Rattle.std.specs.Prelude.{◌||◌, ◌&&◌, not, option_map, unwrap_or, bytes_eq}
use Rattle.std.proofs.Math.Path.{fun_ext}
use Rattle.crew_jobs.specs.declared.job.Job.{Job}
use Rattle.crew_jobs.specs.Probe.{run_of, job_of}
use Rattle.deftable.specs.declared.note.Stream.{Stream}
use Rattle.deftable.specs.declared.note.Stream.TheVariants.{Err}
use Rattle.deftable.specs.Table.{value_of}
use Rattle.shellword.specs.Value.{word_value}
use Rattle.shellword.specs.declared.part.Part.{Part}
use Rattle.ac_tree.specs.declared.feature.OptionKind.{OptionKind}
use Rattle.ac_tree.specs.declared.program.Try as kinds
use Rattle.ac_tree.specs.declared.program.Try.TheVariants as kinds_are
use Rattle.ac_tree.specs.declared.statement.Effect.{Effect}
use Rattle.ac_tree.specs.declared.statement.Effect.TheVariants as effects
use Rattle.ac_tree.specs.declared.statement.Effect.TheVariants.{Assign, Define, DefineText, Print, Stop, Package, Search, Searches, Complete}
use Rattle.ac_tree.specs.declared.statement.Message.{Message}
use Rattle.ac_tree.specs.declared.statement.Message.TheVariants.{Checking, Results, Error}
use Rattle.ac_tree.specs.declared.statement.ProgramValue.TheVariants.{Text, FullName}
use Rattle.ac_tree.specs.declared.statement.Question as asks
use Rattle.ac_tree.specs.declared.statement.Question.TheVariants as questions
use Rattle.ac_tree.specs.declared.statement.Question.TheVariants.{Given, Tries, Checks, ChecksEach}
use Rattle.ac_tree.specs.declared.tree.Subject.{Subject}
use Rattle.ac_tree.specs.declared.tree.Subject.TheVariants.{Nothing, Word, Asked}
use Rattle.ac_tree.specs.Script.{Script, Done, Then, Choice, Check, Cases, No_case, Case}
use Rattle.ac_tree.specs.declared.listed.Sought.{Sought}
use Rattle.test_forms.specs.declared.form.Gives.{Gives}
use Rattle.test_forms.specs.declared.form.Gives.TheVariants as forms
use Rattle.meaning.specs.State.{State, with_note, with_variable, with_definition, Scope, answered, Goes_on, Completed, Stopped, Run, Ends, Asks, then_run, as_is, ended}
use Rattle.meaning.specs.Messages.{form_of, with_message}
use Rattle.meaning.specs.Asking.{no_compiler, without_compiler, child, compiled, same, Attempt, attempted}
use Rattle.meaning.specs.Tests.{Test, guarded, checking, cached_test, with_value, tested_by, may_begin, tested, Row}
use Rattle.meaning.specs.Forms.{FormTest, defined_if, digit_of, form_name, is_linked, says_found, symbol_part, with_given, with_library, with_library_if, with_linked}
use Rattle.meaning.specs.Entries.{sought_test, library_test, search_test, tests_of}
use Rattle.meaning.specs.Rows.{TestKind, Program, Formed, name_of, attempts_of, otherwise_of, after_of, row_of}
use Rattle.meaning.specs.Package.{with_package, package_string, literal, initialised}
use Rattle.meaning.specs.Tries.{first_probe, after_first, text_of}
use Rattle.meaning.specs.Meaning.{settled, is_unsettled, has_value, check_prog, looks, looks_all, defaulted, effect, value_name, after_option, found_by, first_found, after_question, after_subject, rounds_of, in_turn, is_taken, check, meaning, chosen}
use Rattle.meaning.specs.Batches.{AreBatched, batched}
use Rattle.meaning.proofs.Batches.{entries_are}
use Rattle.meaning_laws.specs.Cached.{IsUnset}
use Rattle.meaning_laws.proofs.Values.{cases_value}
use Rattle.meaning_laws.proofs.CachedTests.{set_cached, unset_cached}

-- A child keeps it if what follows does.
abbrev pub Children : (State → Run → Type 0) → Type 0
Children R = (job : Job) (st : State) (go : Bool → State → Run) → ((b : Bool) (now : State) → R now (go b now)) → R st (child as_is job st go)

-- `R st run` says something of a run that begins in a state. Each end but a cut has it, each change of a state and each child
-- keeps it, and so does the guard of a test whose name is unset.
pub record Steps (R : State → Run → Type 0) : Type 0 where
  pub goes : (st : State) → R st (Ends Goes_on st)
  pub completes : (st : State) → R st (Ends Completed st)
  pub stops : (status : ℕ) (st : State) → R st (Ends (Stopped status) st)
  pub tells : (stream : Stream) (text : List ℕ) (st : State) (run : Run) → R (with_note stream text st) run → R st run
  pub variables : (name value : List ℕ) (st : State) (run : Run) → R (with_variable name value st) run → R st run
  pub definitions : (name value : List ℕ) (st : State) (run : Run) → R (with_definition name value st) run → R st run
  pub children : Children R
  pub guards : (name : List ℕ) (st : State) (run : Run) → IsUnset name st.vars → R st run → R st (guarded name run)
  pub joins : (st : State) (run : Run) (rest : State → Run) → R st run → ((now : State) → R now (rest now)) → R st (then_run run rest)

-- A batch of tests that may be in one has it, too.
pub record AllSteps (R : State → Run → Type 0) : Type 0 where
  pub steps : Steps R
  pub batches : (tests : List FormTest) → AreBatched tests → (st : State) → R st (batched tests st)

-- ---- changes

said_holds : (R : State → Run → Type 0) → Steps R → (message : Message) (text : List ℕ) (st : State) (run : Run) → R (with_message message text st) run → R st run
said_holds R c message text st run h = c.tells (form_of message).stream _ st run h

prints_holds : (R : State → Run → Type 0) → Steps R → (message : Message) (text : List ℕ) (st : State) → R st (Ends Goes_on (with_message message text st))
prints_holds R c message text st = said_holds R c message text st (Ends Goes_on (with_message message text st)) (c.goes (with_message message text st))

sets_holds : (R : State → Run → Type 0) → Steps R → (name value : List ℕ) (st : State) → R st (Ends Goes_on (with_variable name value st))
sets_holds R c name value st = c.variables name value st (Ends Goes_on (with_variable name value st)) (c.goes (with_variable name value st))

defines_holds : (R : State → Run → Type 0) → Steps R → (name value : List ℕ) (st : State) → R st (Ends Goes_on (with_definition name value st))
defines_holds R c name value st = c.definitions name value st (Ends Goes_on (with_definition name value st)) (c.goes (with_definition name value st))

either_holds : (R : State → Run → Type 0) (st : State) (b : Bool) (x y : Run) → R st x → R st y → R st (cond b x y)
either_holds R st true x y h k = h
either_holds R st false x y h k = k

either_state : (R : State → Run → Type 0) (st : State) (b : Bool) (x y : State) → R st (Ends Goes_on x) → R st (Ends Goes_on y) → R st (Ends Goes_on (cond b x y))
either_state R st true x y h k = h
either_state R st false x y h k = k

-- ---- tests

without_holds : (R : State → Run → Type 0) → Steps R → (st : State) → R st (without_compiler as_is st)
without_holds R c st = c.tells Err no_compiler st (without_compiler as_is st) (c.stops 1 (with_note Err no_compiler st))

compiled_holds : (R : State → Run → Type 0) → Steps R → (job : Option Job) (st : State) (go : Bool → State → Run) → ((b : Bool) (now : State) → R now (go b now)) → R st (compiled as_is job st go)
compiled_holds R c None st go k = without_holds R c st
compiled_holds R c (Some job) st go k = c.children job st go k

attempted_holds : (R : State → Run → Type 0) → Steps R → (attempts : List Attempt) (otherwise : Option (List ℕ)) (st : State) (go : Option (List ℕ) → State → Run) → ((value : Option (List ℕ)) (now : State) → R now (go value now)) → R st (attempted as_is attempts otherwise st go)
attempted_holds R c [] otherwise st go k = k otherwise st
attempted_holds R c (a ∷ more) otherwise st go k =
    compiled_holds R c a.job st _ (λ b now. either_holds R now (same a.ends_on b) (go a.value now) (attempted as_is more otherwise now go) (k a.value now) (attempted_holds R c more otherwise now go k))

pub cached_holds : (R : State → Run → Type 0) → Steps R → (t : Test) (st : State) → ((now : State) → R now (t.body now)) → R st (cached_test t st)
cached_holds R c t st body =
    let s = checking t.message st in
    said_holds R c Checking t.message st (cached_test t st)
    (⊎_elim
    (λ e. subst (R s) (sym (unset_cached t st e))
    (c.joins s (guarded t.name (t.body s)) _ (c.guards t.name s (t.body s) e (body s)) (λ now. prints_holds R c Results (t.shown (value_of now.vars t.name)) now)))
    (λ some. subst (R s) (sym (set_cached t some.0 st some.1)) (prints_holds R c Results (codes "(cached) " ++ t.shown (Some some.0)) s))
    (cases_value (value_of st.vars t.name)))

value_holds : (R : State → Run → Type 0) → Steps R → (name : List ℕ) (value : Option (List ℕ)) (st : State) → R st (Ends Goes_on (with_value name value st))
value_holds R c name None st = c.goes st
value_holds R c name (Some value) st = sets_holds R c name value st

pub body_holds : (R : State → Run → Type 0) → Steps R → (kind : TestKind) (first st : State) → R st ((row_of kind first).test.body st)
body_holds R c kind first st =
    attempted_holds R c (attempts_of kind first) (otherwise_of kind) st (λ value now. Ends Goes_on (with_value (name_of kind) value now)) (λ value now. value_holds R c (name_of kind) value now)

defined_holds : (R : State → Run → Type 0) → Steps R → (b : Bool) (name : List ℕ) (st : State) → R st (Ends Goes_on (defined_if b name st))
defined_holds R c true name st = defines_holds R c name (codes "1") st
defined_holds R c false name st = c.goes st

library_holds : (R : State → Run → Type 0) → Steps R → (text : List ℕ) (st : State) → R st (Ends Goes_on (with_library text st))
library_holds R c text st = sets_holds R c (codes "LIBS") _ st

library_if_holds : (R : State → Run → Type 0) → Steps R → (b : Bool) (library : List ℕ) (st : State) → R st (Ends Goes_on (with_library_if b library st))
library_if_holds R c true library st =
    let now = with_definition (codes "HAVE_LIB" ++ symbol_part library) (codes "1") st in
    c.definitions (codes "HAVE_LIB" ++ symbol_part library) (codes "1") st (Ends Goes_on (with_library (codes "-l" ++ library) now)) (library_holds R c (codes "-l" ++ library) now)
library_if_holds R c false library st = c.goes st

linked_holds : (R : State → Run → Type 0) → Steps R → (value : Option (List ℕ)) (st : State) → R st (Ends Goes_on (with_linked value st))
linked_holds R c None st = c.goes st
linked_holds R c (Some value) st =
    either_state R st (is_linked (Some value) && not (bytes_eq value (codes "none required"))) (with_library value st) st (library_holds R c value st) (c.goes st)

form_holds : (R : State → Run → Type 0) → Steps R → (gives : Gives) (found : Bool) (value : Option (List ℕ)) (st : State) → R st (Ends Goes_on (with_given gives found value st))
form_holds R c forms.Nothing found value st = c.goes st
form_holds R c (forms.Have what) found value st = defined_holds R c found (codes "HAVE_" ++ symbol_part what) st
form_holds R c (forms.HaveOrNot what) found value st = defines_holds R c (codes "HAVE_" ++ symbol_part what) (digit_of found) st
form_holds R c (forms.AddsLibrary library) found value st = library_if_holds R c found library st
form_holds R c forms.AddsValue found value st = linked_holds R c value st

pub after_holds : (R : State → Run → Type 0) → Steps R → (kind : TestKind) (value : Option (List ℕ)) (st : State) → R st (Ends Goes_on (after_of kind value st))
after_holds R c (Program s own) value st = sets_holds R c s.variable (unwrap_or value []) st
after_holds R c (Formed t) value st = form_holds R c t.form.gives (says_found t.form.says value) value st

pub row_holds : (R : State → Run → Type 0) → Steps R → (b : Bool) (r : Row) (st : State) → ((now : State) → R now (r.test.body now)) → ((value : Option (List ℕ)) (now : State) → R now (Ends Goes_on (r.after value now))) → R st (tested_by b r st)
row_holds R c true r st body after = c.joins st (cached_test r.test st) _ (cached_holds R c r.test st body) (λ now. after (value_of now.vars r.test.name) now)
row_holds R c false r st body after = without_holds R c st

kind_holds : (R : State → Run → Type 0) → Steps R → (kind : TestKind) (st : State) → R st (tested (row_of kind st) st)
kind_holds R c kind st =
    row_holds R c (may_begin (value_of st.vars (name_of kind)) (row_of kind st).ready) (row_of kind st) st
    (λ now. body_holds R c kind st now) (λ value now. after_holds R c kind value now)

-- ---- statements

looks_holds : (R : State → Run → Type 0) → Steps R → (variable : List ℕ) (programs : List (List ℕ)) (always : Bool) (st : State) → R st (looks_all variable programs always st)
looks_holds R c variable [] always st = c.goes st
looks_holds R c variable (program ∷ more) always st =
    c.joins st (looks variable program always st) _
    (either_holds R st (always || not (has_value st variable)) _ (Ends Goes_on st) (kind_holds R c (Program (check_prog variable program program None) _) st) (c.goes st))
    (λ now. looks_holds R c variable more false now)

defaulted_holds : (R : State → Run → Type 0) → Steps R → (variable : List ℕ) (value : Option (List ℕ)) (st : State) → R st (Ends Goes_on (defaulted variable value st))
defaulted_holds R c variable None st = c.goes st
defaulted_holds R c variable (Some value) st = either_state R st (has_value st variable) st (with_variable variable value st) (c.goes st) (sets_holds R c variable value st)

settled_holds : (R : State → Run → Type 0) → Steps R → (name value : List ℕ) (st : State) (run : Run) → R (settled name value st) run → R st run
settled_holds R c name value st run h = by_test (is_unsettled (value_of st.vars name)) h
  where
    by_test : (b : Bool) → R (cond b (with_variable name value st) st) run → R st run
    by_test true k = c.variables name value st run k
    by_test false k = k

package_holds : (R : State → Run → Type 0) → Steps R → (name value : List ℕ) (st : State) (run : Run) → R (with_package st name value) run → R st run
package_holds R c name value st run h = c.variables name value st run (c.definitions name (literal value) (with_variable name value st) run h)

initialised_holds : (R : State → Run → Type 0) → Steps R → (title version bug tarname url : List ℕ) (st : State) (run : Run) → R (initialised title version bug tarname url st) run → R st run
unfolding initialised
initialised_holds R c title version bug tarname url st run h =
    package_holds R c (codes "PACKAGE_NAME") title _ run (package_holds R c (codes "PACKAGE_TARNAME") tarname _ run (package_holds R c (codes "PACKAGE_VERSION") version _ run
    (package_holds R c (codes "PACKAGE_STRING") (package_string title version) _ run (package_holds R c (codes "PACKAGE_BUGREPORT") bug _ run (package_holds R c (codes "PACKAGE_URL") url _ run h)))))

pub effect_holds : (R : State → Run → Type 0) → AllSteps R → (e : Effect) (st : State) → R st (effect e st)
unfolding effect
effect_holds R a (Assign name value) st = sets_holds R a.steps name (word_value value st.vars) st
effect_holds R a (Define name value) st = defines_holds R a.steps name value st
effect_holds R a (DefineText name value) st = defines_holds R a.steps name (word_value value st.vars) st
effect_holds R a (Print message text) st = prints_holds R a.steps message (word_value text st.vars) st
effect_holds R a (Stop text status) st = said_holds R a.steps Error (word_value text st.vars) st _ (a.steps.stops status (with_message Error (word_value text st.vars) st))
effect_holds R a (Package title version bug tarname url) st = initialised_holds R a.steps title version bug tarname url st _ (a.steps.goes (initialised title version bug tarname url st))
effect_holds R a (Search variable program (Text found) otherwise) st = kind_holds R a.steps (Program _ _) st
effect_holds R a (Search variable program FullName otherwise) st = kind_holds R a.steps (Program _ _) st
effect_holds R a (Searches variable programs otherwise) st =
    a.steps.joins st (looks_all variable programs true st) _ (looks_holds R a.steps variable programs true st) (λ now. defaulted_holds R a.steps variable (option_map (λ t. word_value t now.vars) otherwise) now)
effect_holds R a (effects.Batch listed entries includes) st = a.batches (tests_of listed entries includes) (entries_are listed entries includes) st
effect_holds R a Complete st =
    let first = settled (codes "prefix") (codes "/usr/local") st in
    let last = settled (codes "exec_prefix") (codes "${prefix}") first in
    settled_holds R a.steps (codes "prefix") (codes "/usr/local") st (Ends Completed last) (settled_holds R a.steps (codes "exec_prefix") (codes "${prefix}") first (Ends Completed last) (a.steps.completes last))
effect_holds R a _ st = a.steps.goes st

-- ---- choices

pub ended_as_is : (run : Run) → ended as_is run ≡ run
ended_as_is (Ends how st) = refl
ended_as_is (Asks jobs next) = ap (Asks jobs) (fun_ext (λ replies. ended_as_is (next replies)))

given_holds : (R : State → Run → Type 0) → Steps R → (o : Option (List ℕ)) (kind : OptionKind) (st : State) (go : Scope → State → Run) → ((scope : Scope) (now : State) → R now (go scope now)) → R st (after_option o kind st go)
given_holds R c None kind st go k = k (answered false) st
given_holds R c (Some value) kind st go k = c.variables (value_name kind) value st _ (k (answered true) (with_variable (value_name kind) value st))

-- What follows the first child of a program that is tried.
pub first_holds : (R : State → Run → Type 0) → Children R → (kind : kinds.Try) (go : Bool → State → Run) → ((b : Bool) (now : State) → R now (go b now)) → (b : Bool) (st : State) → R st (after_first as_is kind go b st)
first_holds R children kinds_are.Run go k true st = children (run_of 0) st go k
first_holds R children kinds_are.Run go k false st = k false st
first_holds R children kinds_are.Compile go k b st = k b st
first_holds R children kinds_are.Link go k b st = k b st
first_holds R children kinds_are.Preproc go k b st = k b st

-- The question of a test.
found_holds : (R : State → Run → Type 0) → Steps R → (t : FormTest) (st : State) (go : Scope → State → Run) → ((scope : Scope) (now : State) → R now (go scope now)) → R st (found_by as_is t st go)
found_holds R c t st go k =
    let run = tested (row_of (Formed t) st) st in
    c.joins st (ended as_is run) _ (subst (R st) (sym (ended_as_is run)) (kind_holds R c (Formed t) st))
    (λ now. k (answered (says_found t.form.says (value_of now.vars (form_name t.form)))) now)

first_found_holds : (R : State → Run → Type 0) → Steps R → (sought : Sought) (entries : List (List ℕ)) (includes : Option (List Part)) (st : State) (go : Scope → State → Run) → ((scope : Scope) (now : State) → R now (go scope now))
    → R st (first_found as_is sought entries includes st go)
first_found_holds R c sought [] includes st go k = k (answered false) st
first_found_holds R c sought (entry ∷ more) includes st go k = found_holds R c (sought_test sought entry includes true) st go k

pub asked_holds : (R : State → Run → Type 0) → Steps R → (question : asks.Question) (st : State) (go : Scope → State → Run) → ((scope : Scope) (now : State) → R now (go scope now)) → R st (after_question as_is question st go)
asked_holds R c (Given kind variable) st go k = given_holds R c (value_of st.vars variable) kind st go k
asked_holds R c (Tries kind program) st go k =
    compiled_holds R c (job_of (first_probe kind (text_of program st.vars)) 0 st.vars st.defs) st _ (first_holds R c.children kind (λ b. go (answered b)) (λ b now. k (answered b) now))
asked_holds R c (Checks sought entry includes) st go k = found_holds R c (sought_test sought entry includes false) st go k
asked_holds R c (ChecksEach sought entries includes) st go k = first_found_holds R c sought entries includes st go k
asked_holds R c (questions.Library library function others adds) st go k = found_holds R c (library_test library function others adds) st go k
asked_holds R c (questions.Libraries function libraries others) st go k = found_holds R c (search_test function libraries others) st go k

pub begun_holds : (R : State → Run → Type 0) → Steps R → (subject : Subject) (st : State) (go : Scope → State → Run) → ((scope : Scope) (now : State) → R now (go scope now)) → R st (after_subject as_is subject st go)
unfolding after_subject
begun_holds R c Nothing st go k = k _ st
begun_holds R c (Word word) st go k = k _ st
begun_holds R c (Asked question) st go k = asked_holds R c question st go k

pub turns_hold : (R : State → Run → Type 0) → Steps R → (rounds : List Subject) (st : State) (go : Scope → State → Run) → ((scope : Scope) (now : State) → R now (go scope now)) → R st (in_turn rounds go st)
turns_hold R c [] st go k = c.goes st
turns_hold R c (subject ∷ more) st go k = c.joins st (after_subject as_is subject st go) (in_turn more go) (begun_holds R c subject st go k) (λ now. turns_hold R c more now go k)

mutual
  unfolding meaning chosen

  pub meaning_holds : (R : State → Run → Type 0) → AllSteps R → (script : Script) (st : State) → R st (meaning script st)
  meaning_holds R a Done st = a.steps.goes st
  meaning_holds R a (Then declares e rest) st = a.steps.joins st (effect e st) (meaning rest) (effect_holds R a e st) (λ now. meaning_holds R a rest now)
  meaning_holds R a (Choice declares subject cases rest) st =
      a.steps.joins st (in_turn (rounds_of subject) (chosen cases) st) (meaning rest) (turns_hold R a.steps (rounds_of subject) st (chosen cases) (λ scope now. chosen_holds R a cases scope now))
      (λ now. meaning_holds R a rest now)
  meaning_holds R a (Check message name commands rest) st =
      let t = check message name (meaning commands) st in
      a.steps.joins st (cached_test t st) (meaning rest) (cached_holds R a.steps t st (λ now. meaning_holds R a commands now)) (λ now. meaning_holds R a rest now)

  pub chosen_holds : (R : State → Run → Type 0) → AllSteps R → (cases : Cases) (scope : Scope) (st : State) → R st (chosen cases scope st)
  chosen_holds R a No_case scope st = a.steps.goes st
  chosen_holds R a (Case when body more) scope st =
      either_holds R st (is_taken when scope st.vars) (meaning body st) (chosen more scope st) (meaning_holds R a body st) (chosen_holds R a more scope st)
