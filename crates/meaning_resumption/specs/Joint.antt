-- The joint replies of a run that was cut, and of a second one. The source is one that can be resumed. All of this is own.
use Rattle.std.specs.Prelude.{ℕ, Bool, true, false, List, [], ◌∷◌, ◌++◌, Option, Some, None, is_some, if◌then◌else◌}
use Rattle.crew_jobs.specs.declared.job.Job.{Job}
use Rattle.crew_trait.specs.declared.reply.Reply.{Reply}
use Rattle.crew_trait.specs.declared.reply.Reply.TheVariants.{StartRefused}
use Rattle.deftable.specs.Table.{value_of}
use Rattle.shellword.specs.declared.part.Part.{Part}
use Rattle.shellword.specs.Value.{word_value}
use Rattle.ac_tree.specs.declared.feature.OptionKind.{OptionKind}
use Rattle.ac_tree.specs.declared.statement.Effect.{Effect}
use Rattle.ac_tree.specs.declared.statement.Effect.TheVariants as effects
use Rattle.ac_tree.specs.declared.statement.Question as question
use Rattle.ac_tree.specs.declared.statement.Question.TheVariants as questions
use Rattle.ac_tree.specs.declared.statement.Question.TheVariants.{Given, Tries, Checks, ChecksEach}
use Rattle.ac_tree.specs.declared.tree.Subject.{Subject}
use Rattle.ac_tree.specs.declared.tree.Subject.TheVariants.{Nothing, Word, Asked}
use Rattle.ac_tree.specs.Script.{Script, Done, Then, Choice, Check, Cases, No_case, Case}
use Rattle.meaning.specs.State.{State, Scope, no_choice, about, answered, with_variable, How, Goes_on, Completed, Stopped, Cut, Run, Ends}
use Rattle.meaning.specs.Asking.{success}
use Rattle.meaning.specs.Tests.{cached_test, tested}
use Rattle.meaning.specs.Forms.{FormTest, form_name, says_found}
use Rattle.meaning.specs.Entries.{sought_test, library_test, search_test, tests_of}
use Rattle.meaning.specs.Rows.{Formed, row_of}
use Rattle.meaning.specs.Batches.{asking, batched}
use Rattle.meaning.specs.Meaning.{effect, value_name, rounds_of, is_taken, check, meaning}
use Rattle.meaning_laws.specs.Batched.{answer_to}
use Rattle.meaning_resumption.specs.Finished.{Finished, finish}

-- Two runs at the same statement: the state of each, and the replies that it has left.
pub record Pair : Type 0 where
  pub first : State
  pub replies : List Reply
  pub second : State
  pub again : List Reply

-- A part of both runs. Either both are past it, and the first took these replies; or the first was cut in it, and these are
-- the joint replies from the part on.
pub data Joint : Type 0 where
  Past : (taken : List Reply) (pair : Pair) → Joint
  Whole : (replies : List Reply) → Joint

-- The same after other replies.
abbrev pub in_front : List Reply → Joint → Joint
in_front replies (Past taken pair) = Past (replies ++ taken) pair
in_front replies (Whole all) = Whole (replies ++ all)

-- One part after the other.
abbrev pub joint_then : Joint → (Pair → Joint) → Joint
joint_then (Past taken pair) rest = in_front taken (rest pair)
joint_then (Whole replies) rest = Whole replies

-- Both runs are past a part.
abbrev pub both_past : Finished → Finished → Joint
both_past f s = Past f.taken (record { first = f.state; replies = f.left; second = s.state; again = s.left })

-- A part of both runs, by how it ends in the first; the joint replies if that is cut in it.
abbrev pub joint_by : How → Finished → Finished → List Reply → Joint
joint_by Cut f s replies = Whole replies
joint_by Goes_on f s replies = both_past f s
joint_by Completed f s replies = both_past f s
joint_by (Stopped status) f s replies = both_past f s

-- A part with one test: if the first run is cut in it, the second run's replies count from there on.
abbrev pub joint_one : (State → Run) → Pair → Joint
joint_one part p = joint_by (finish (part p.first) p.replies).how (finish (part p.first) p.replies) (finish (part p.second) p.again) p.again

-- ---- batches

-- An answer; if the reply was refused, the second run's reply to the same name.
abbrev pub answer_or : Option Bool → Reply → Option Reply → Reply
answer_or (Some found) reply other = reply
answer_or None reply None = StartRefused
answer_or None reply (Some other) = other

-- The joint replies to the entries that the first run asked for.
abbrev pub joint_entries : List (FormTest × Option Job) → List Reply → List (FormTest × Option Job) → List Reply → List Reply
joint_entries [] replies asks again = []
joint_entries ((test, None) ∷ more) replies asks again = joint_entries more replies asks again
joint_entries ((test, Some job) ∷ more) [] asks again =
    answer_or None StartRefused (answer_to (form_name test.form) asks again) ∷ joint_entries more [] asks again
joint_entries ((test, Some job) ∷ more) (reply ∷ replies) asks again =
    answer_or (success reply) reply (answer_to (form_name test.form) asks again) ∷ joint_entries more replies asks again

-- A batch: if the first run is cut in it, these, and then the second run's replies after its batch.
abbrev pub joint_batch : List FormTest → Pair → Joint
joint_batch tests p =
    joint_by (finish (batched tests p.first) p.replies).how (finish (batched tests p.first) p.replies) (finish (batched tests p.second) p.again)
    (joint_entries (asking 1 [] tests p.first) (finish (batched tests p.first) p.replies).taken
    (asking 1 [] tests p.second) (finish (batched tests p.second) p.again).taken
    ++ (finish (batched tests p.second) p.again).left)

-- A statement. AC_CHECK_PROGS and AC_PROG_CC are one test.
unfoldable pub joint_plain : Effect → Pair → Joint
joint_plain (effects.Batch listed entries includes) p = joint_batch (tests_of listed entries includes) p
joint_plain e p = joint_one (effect e) p

-- ---- choices

-- The test that a question makes; of a list, that of its first entry.
abbrev pub test_in : question.Question → Option FormTest
test_in (Given kind variable) = None
test_in (Tries kind program) = None
test_in (Checks sought entry includes) = Some (sought_test sought entry includes false)
test_in (ChecksEach sought [] includes) = None
test_in (ChecksEach sought (entry ∷ more) includes) = Some (sought_test sought entry includes true)
test_in (questions.Library library function others adds) = Some (library_test library function others adds)
test_in (questions.Libraries function libraries others) = Some (search_test function libraries others)

-- The variable of an option that is given.
abbrev pub given_then : OptionKind → Option (List ℕ) → State → State
given_then kind None st = st
given_then kind (Some value) st = with_variable (value_name kind) value st

-- A test, if there is one, and no more.
abbrev pub begins_test : Option FormTest → State → Run
begins_test None st = Ends Goes_on st
begins_test (Some test) st = tested (row_of (Formed test) st) st

-- The beginning of a choice, up to its cases. No program is tried: of sources that can be resumed, only commands do that.
unfoldable pub begins : Subject → State → Run
begins Nothing st = Ends Goes_on st
begins (Word word) st = Ends Goes_on st
begins (Asked (Given kind variable)) st = Ends Goes_on (given_then kind (value_of st.vars variable) st)
begins (Asked q) st = begins_test (test_in q) st

-- The answer to the question of a test after it, by the value of its name.
abbrev pub answer_by : Option FormTest → State → Bool
answer_by None now = false
answer_by (Some test) now = says_found test.form.says (value_of now.vars (form_name test.form))

-- What a choice is about after its beginning.
unfoldable pub scope_at : Subject → State → Scope
scope_at Nothing now = no_choice
scope_at (Word word) now = about (word_value word now.vars)
scope_at (Asked (Given kind variable)) now = answered (is_some (value_of now.vars variable))
scope_at (Asked q) now = answered (answer_by (test_in q) now)

-- Rounds, each with its cases.
abbrev pub joint_rounds : List Subject → (Scope → Pair → Joint) → Pair → Joint
joint_rounds [] go p = Past [] p
joint_rounds (round ∷ more) go p =
    joint_then (joint_then (joint_one (begins round) p) (λ q. go (scope_at round q.first) q)) (joint_rounds more go)

-- AC_CACHE_CHECK by itself.
abbrev pub checks : List Part → List ℕ → (State → Run) → State → Run
checks message name commands st = cached_test (check message name commands st) st

-- ---- statements

unfoldable mutual
  -- The joint replies of statements, one after the other.
  pub joint : Script → Pair → Joint
  joint Done p = Past [] p
  joint (Then declares e rest) p = joint_then (joint_plain e p) (joint rest)
  joint (Choice declares subject cases rest) p = joint_then (joint_rounds (rounds_of subject) (joint_cases cases) p) (joint rest)
  joint (Check message name commands rest) p = joint_then (joint_one (checks message name (meaning commands)) p) (joint rest)

  -- Those of the first case that is taken, if any.
  pub joint_cases : Cases → Scope → Pair → Joint
  joint_cases No_case scope p = Past [] p
  joint_cases (Case when body more) scope p = if is_taken when scope p.first.vars then joint body p else joint_cases more scope p

-- The replies themselves.
abbrev pub joint_replies : Joint → List Reply
joint_replies (Past taken pair) = taken
joint_replies (Whole replies) = replies
