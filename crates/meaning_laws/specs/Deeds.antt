-- A law of names: what each name that is set at the end of a run comes from.
use Rattle.std.specs.Prelude.{◌≡◌, ◌↔◌, ◌||◌, ◌&&◌, ℕ, Bool, true, false, not, List, [], ◌∷◌, ◌++◌, ◌⊎◌, Option, Some, None, bytes_eq, codes, length, take, drop, flat_map, if◌then◌else◌, option_map}
use Rattle.crew_jobs.specs.declared.job.Job.{Job}
use Rattle.crew_trait.specs.declared.reply.Reply.{Reply}
use Rattle.crew_trait.specs.declared.reply.Reply.TheVariants.{Answer, StartRefused, EndRefused}
use Rattle.deftable.specs.CacheName.{is_cache_name}
use Rattle.deftable.specs.Table.{value_of}
use Rattle.shellword.specs.declared.part.Part.{Part}
use Rattle.shellword.specs.Value.{word_value}
use Rattle.ac_tree.specs.declared.feature.OptionKind.{OptionKind}
use Rattle.ac_tree.specs.declared.listed.Sought.{Sought}
use Rattle.ac_tree.specs.declared.statement.Effect.{Effect}
use Rattle.ac_tree.specs.declared.statement.Effect.TheVariants as effects
use Rattle.ac_tree.specs.declared.statement.Effect.TheVariants.{Assign, Package, Search, Searches, Complete}
use Rattle.ac_tree.specs.declared.statement.ProgramValue.TheVariants.{Text, FullName}
use Rattle.ac_tree.specs.declared.statement.Question as asks
use Rattle.ac_tree.specs.declared.statement.Question.TheVariants as questions
use Rattle.ac_tree.specs.declared.statement.Question.TheVariants.{Given, Tries, Checks, ChecksEach}
use Rattle.ac_tree.specs.declared.tree.Subject.{Subject}
use Rattle.ac_tree.specs.declared.tree.Subject.TheVariants.{Nothing, Word, Asked}
use Rattle.ac_tree.specs.Commands.{HasCommands}
use Rattle.ac_tree.specs.Script.{Script, Done, Then, Choice, Check, Cases, No_case, Case}
use Rattle.ac_tree.specs.TestNames.{HasTestNames}
use Rattle.test_forms.specs.declared.form.Gives.{Gives}
use Rattle.test_forms.specs.declared.form.Gives.TheVariants as gives
use Rattle.meaning.specs.State.{State, Scope, no_choice, about, answered, Goes_on, Completed, Stopped, Cut, Run, Ends, Asks, as_is, value_or_empty}
use Rattle.meaning.specs.Tests.{cached_test, tested}
use Rattle.meaning.specs.Rows as rows
use Rattle.meaning.specs.Rows.{TestKind, Program, name_of, value_if, row_of, Formed}
use Rattle.meaning.specs.Forms.{FormTest, is_linked, says_found}
use Rattle.meaning.specs.Batches.{AreBatched, asking, batched}
use Rattle.meaning.specs.Entries.{sought_test, library_test, search_test, tests_of}
use Rattle.meaning.specs.Play.{play, whole}
use Rattle.meaning.specs.Meaning.{settled, is_unsettled, check_prog, path_prog, has_value, is_full_name, looks, looks_all, effect, value_name, after_question, after_subject, rounds_of, in_turn, is_taken, check, meaning, chosen}
use Rattle.meaning_laws.specs.Cached.{IsSet, IsUnset}
use Rattle.meaning_laws.specs.Batched.{answer_to, names_asked}
use Rattle.meaning_laws.specs.Questions.{yes_or_no}

-- What a run did to a name: a statement assigned it, or a test that was run to its end left it set. (own)
pub data Deed : Type 0 where
  Assigned : (name : List ℕ) → Deed
  Tested : (name : List ℕ) → Deed

-- The deeds after a run under replies, if it continues; what follows takes the replies that are left. (own)
abbrev pub deeds_after : Run → List Reply → (State → List Reply → List Deed) → List Deed
deeds_after (Ends Goes_on st) replies rest = rest st replies
deeds_after (Ends Completed st) replies rest = []
deeds_after (Ends (Stopped status) st) replies rest = []
deeds_after (Ends Cut st) replies rest = []
deeds_after (Asks jobs next) replies rest =
    deeds_after (next (take (length jobs) replies)) (drop (length jobs) replies) rest

-- The deed of a completed test, by the values of its name before and after it: a cached value is no deed. (own)
abbrev pub left_set : List ℕ → Option (List ℕ) → Option (List ℕ) → List Deed
left_set name (Some value) now = []
left_set name None None = []
left_set name None (Some value) = Tested name ∷ []

-- A search for libraries has found one that LIBS gets: its value is set, and is neither `no` nor `none required`.
-- (Autoconf's manual, "Library Files")
abbrev pub is_added : Option (List ℕ) → Bool
is_added None = false
is_added (Some value) = is_linked (Some value) && not (bytes_eq value (codes "none required"))

-- LIBS is assigned if this is true. (own)
abbrev pub libs_if : Bool → List Deed
libs_if true = Assigned (codes "LIBS") ∷ []
libs_if false = []

-- What the form of a test assigns after it, by whether it has found what it looks for, and the value of its name: LIBS, if it
-- gets a library. (Autoconf's manual, "Library Files")
abbrev pub added_deeds : Gives → Bool → Option (List ℕ) → List Deed
added_deeds (gives.AddsLibrary library) found value = libs_if found
added_deeds gives.AddsValue found value = libs_if (is_added value)
added_deeds other found value = []

-- What a test assigns after it, by the value of its name: a program's variable, or what its form does. (Autoconf's manual,
-- "Generic Programs" and "Library Files")
abbrev pub assigned_by : TestKind → Option (List ℕ) → List Deed
assigned_by (Program s own) value = Assigned s.variable ∷ []
assigned_by (Formed t) value = added_deeds t.form.gives (says_found t.form.says value) value

-- The deeds of a test in a statement. (own)
abbrev pub kind_deeds : TestKind → State → List Reply → List Deed
kind_deeds kind st replies =
    deeds_after (tested (row_of kind st) st) replies
    (λ now left. left_set (name_of kind) (value_of st.vars (name_of kind)) (value_of now.vars (name_of kind))
    ++ assigned_by kind (value_of now.vars (name_of kind)))

-- The deeds of the test of a program; `counts` says whether the variable's own value counts. (own)
abbrev pub program_deeds : rows.Search → Bool → State → List Reply → List Deed
program_deeds s counts st replies = kind_deeds (Program s (value_if counts (value_or_empty st s.variable))) st replies

-- The deeds of one program of several. (own)
abbrev pub look_deeds : List ℕ → List ℕ → Bool → State → List Reply → List Deed
look_deeds variable program always st replies =
    if always || not (has_value st variable)
    then program_deeds (check_prog variable program program None) (has_value st variable) st replies
    else []

-- The deeds of programs, one after the other. (own)
abbrev pub looks_deeds : List ℕ → List (List ℕ) → Bool → State → List Reply → List Deed
looks_deeds variable [] always st replies = []
looks_deeds variable (program ∷ more) always st replies =
    look_deeds variable program always st replies
    ++ deeds_after (looks variable program always st) replies (looks_deeds variable more false)

-- A variable that is empty is assigned its default, if it has one. (own)
abbrev pub default_deeds : List ℕ → Option (List Part) → State → List Deed
default_deeds variable None st = []
default_deeds variable (Some word) st = if has_value st variable then [] else Assigned variable ∷ []

-- A prefix is assigned if it is still `NONE`. (own)
abbrev pub prefix_deeds : List ℕ → State → List Deed
prefix_deeds name st = if is_unsettled (value_of st.vars name) then Assigned name ∷ [] else []

-- The deed of a name that asked for a child: an answer completes its test. A refusal, or no reply, is no deed. (own)
abbrev pub replied_deeds : List ℕ → Option Reply → List Deed
replied_deeds name None = []
replied_deeds name (Some (Answer status text)) = Tested name ∷ []
replied_deeds name (Some StartRefused) = []
replied_deeds name (Some EndRefused) = []

-- The deeds of a batch, by the reply to each name that asks for a child. A batch that is cut has them too. (own)
abbrev pub batch_deeds : List FormTest → State → List Reply → List Deed
batch_deeds tests st replies =
    let asks : List (FormTest × Option Job) = asking 1 [] tests st in
    flat_map (λ name. replied_deeds name (answer_to name asks replies)) (names_asked asks)

-- The deeds of what a statement does. (own)
unfoldable pub effect_deeds : Effect → State → List Reply → List Deed
effect_deeds (Assign name value) st replies = Assigned name ∷ []
effect_deeds (Package title version bug tarname url) st replies =
    Assigned (codes "PACKAGE_NAME") ∷ Assigned (codes "PACKAGE_TARNAME") ∷ Assigned (codes "PACKAGE_VERSION")
    ∷ Assigned (codes "PACKAGE_STRING") ∷ Assigned (codes "PACKAGE_BUGREPORT") ∷ Assigned (codes "PACKAGE_URL") ∷ []
effect_deeds (Search variable program (Text found) otherwise) st replies =
    program_deeds (check_prog variable program (word_value found st.vars) (option_map (λ t. word_value t st.vars) otherwise))
    (has_value st variable) st replies
effect_deeds (Search variable program FullName otherwise) st replies =
    program_deeds (path_prog variable program (option_map (λ t. word_value t st.vars) otherwise))
    (is_full_name (value_or_empty st variable)) st replies
effect_deeds (Searches variable programs otherwise) st replies =
    looks_deeds variable programs true st replies
    ++ deeds_after (looks_all variable programs true st) replies (λ now left. default_deeds variable otherwise now)
effect_deeds (effects.Batch listed entries includes) st replies =
    batch_deeds (tests_of listed entries includes) st replies
effect_deeds Complete st replies =
    prefix_deeds (codes "prefix") st
    ++ prefix_deeds (codes "exec_prefix") (settled (codes "prefix") (codes "/usr/local") st)
effect_deeds e st replies = []

-- An option that is given assigns its variable. (own)
abbrev pub given_deeds : Option (List ℕ) → OptionKind → List Deed
given_deeds None kind = []
given_deeds (Some value) kind = Assigned (value_name kind) ∷ []

-- The deeds of the test of the first entry of a list. (own)
abbrev pub first_deeds : Sought → List (List ℕ) → Option (List Part) → State → List Reply → List Deed
first_deeds sought [] includes st replies = []
first_deeds sought (entry ∷ more) includes st replies = kind_deeds (Formed (sought_test sought entry includes true)) st replies

-- The deeds of a question itself: an option that is given, or a test. (own)
abbrev pub question_deeds : asks.Question → State → List Reply → List Deed
question_deeds (Given kind variable) st replies = given_deeds (value_of st.vars variable) kind
question_deeds (Tries kind program) st replies = []
question_deeds (Checks sought entry includes) st replies = kind_deeds (Formed (sought_test sought entry includes false)) st replies
question_deeds (ChecksEach sought entries includes) st replies = first_deeds sought entries includes st replies
question_deeds (questions.Library library function others adds) st replies = kind_deeds (Formed (library_test library function others adds)) st replies
question_deeds (questions.Libraries function libraries others) st replies = kind_deeds (Formed (search_test function libraries others)) st replies

-- The deeds after the answer of a question that is asked with `yes_or_no`, if there is one. (own)
abbrev pub deeds_answered : Run → List Reply → (Scope → State → List Reply → List Deed) → List Deed
deeds_answered (Ends Goes_on st) replies rest = rest (answered true) st replies
deeds_answered (Ends Completed st) replies rest = rest (answered false) st replies
deeds_answered (Ends (Stopped status) st) replies rest = []
deeds_answered (Ends Cut st) replies rest = []
deeds_answered (Asks jobs next) replies rest =
    deeds_answered (next (take (length jobs) replies)) (drop (length jobs) replies) rest

-- The deeds of a round, from the beginning of its subject. (own)
abbrev pub subject_deeds : Subject → State → List Reply → (Scope → State → List Reply → List Deed) → List Deed
subject_deeds Nothing st replies rest = rest no_choice st replies
subject_deeds (Word word) st replies rest = rest (about (word_value word st.vars)) st replies
subject_deeds (Asked question) st replies rest =
    question_deeds question st replies ++ deeds_answered (after_question as_is question st yes_or_no) replies rest

-- The deeds of rounds, one after the other. (own)
abbrev pub turn_deeds : List Subject → (Scope → State → Run) → (Scope → State → List Reply → List Deed) → State → List Reply → List Deed
turn_deeds [] go did st replies = []
turn_deeds (subject ∷ more) go did st replies =
    subject_deeds subject st replies did ++ deeds_after (after_subject as_is subject st go) replies (turn_deeds more go did)

-- The deed of AC_CACHE_CHECK is that of its test: its name was unset, and the commands came to their end and left it set.
-- They set no other name. (Autoconf's manual, "Caching Results")
abbrev pub check_deeds : List ℕ → State → Run → List Reply → List Deed
check_deeds name st run replies =
    deeds_after run replies (λ now left. left_set name (value_of st.vars name) (value_of now.vars name))

unfoldable mutual
  -- What statements did to names under replies, in order. (own)
  pub deeds : Script → State → List Reply → List Deed
  deeds Done st replies = []
  deeds (Then declares e rest) st replies = effect_deeds e st replies ++ deeds_after (effect e st) replies (deeds rest)
  deeds (Choice declares subject cases rest) st replies =
      turn_deeds (rounds_of subject) (chosen cases) (case_deeds cases) st replies
      ++ deeds_after (in_turn (rounds_of subject) (chosen cases) st) replies (deeds rest)
  deeds (Check message name commands rest) st replies =
      check_deeds name st (cached_test (check message name (meaning commands) st) st) replies
      ++ deeds_after (cached_test (check message name (meaning commands) st) st) replies (deeds rest)

  -- The deeds of the first case that is taken, if any. (own)
  pub case_deeds : Cases → Scope → State → List Reply → List Deed
  case_deeds No_case scope st replies = []
  case_deeds (Case when body more) scope st replies =
      if is_taken when scope st.vars then deeds body st replies else case_deeds more scope st replies

-- A deed is among these. (own)
abbrev pub Among : Deed → List Deed → Type 0
Among deed [] = ⊥
Among deed (first ∷ more) = (first ≡ deed) ⊎ Among deed more

-- The name was set before these deeds, or was assigned, or a completed test left it set. (own)
abbrev pub ComesFrom : List ℕ → List (List ℕ × List ℕ) → List Deed → Type 0
ComesFrom name before ds = IsSet name before ⊎ (Among (Assigned name) ds ⊎ Among (Tested name) ds)

-- Exactly these names are set after the deeds. A name that a completed test left set was unset before them, and a name
-- that was set before them and is not assigned keeps its value. (own)
pub record Accounts (before : List (List ℕ × List ℕ)) (ds : List Deed) (now : List (List ℕ × List ℕ)) : Type 0 where
  pub only : (name : List ℕ) → IsSet name now → ComesFrom name before ds
  pub all : (name : List ℕ) → ComesFrom name before ds → IsSet name now
  pub tested : (name : List ℕ) → Among (Tested name) ds → IsUnset name before
  pub keeps : (name value : List ℕ) → value_of before name ≡ Some value → (Among (Assigned name) ds → ⊥)
      → value_of now name ≡ Some value

-- The deeds of a run account for the names that are set at its end, whatever the replies, if the commands of AC_CACHE_CHECK
-- set its name alone. (own)
abbrev pub DeedsAccount : Type 0
DeedsAccount = (script : Script) (st : State) (replies : List Reply) → HasCommands script
    → Accounts st.vars (deeds script st replies) (play (whole (meaning script st)) replies).state.vars

-- The names whose tests a batch completes, by the replies, are exactly those that were unset when it began and that it leaves
-- set, also if there are fewer replies than jobs, and if there is no compiler. (own)
abbrev pub AnswersAreLeft : Type 0
AnswersAreLeft = (tests : List FormTest) (st : State) (replies : List Reply) (name : List ℕ) → AreBatched tests
    → Among (Tested name) (batch_deeds tests st replies)
    ↔ (IsUnset name st.vars × IsSet name (play (batched tests st) replies).state.vars)

-- Each name that a completed test left set is a cache name. (Autoconf's manual, "Cache Variable Names")
abbrev pub TestedAreCached : Type 0
TestedAreCached = (script : Script) (st : State) (replies : List Reply) (name : List ℕ)
    → HasCommands script → HasTestNames script → Among (Tested name) (deeds script st replies) → is_cache_name name ≡ true
