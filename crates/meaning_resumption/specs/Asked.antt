-- Which jobs a run asks for, and in which tests. All of this is own.
use Rattle.std.specs.Prelude.{◌≡◌, ℕ, List, [], ◌∷◌, ◌++◌, true, false, Option, Some, None, is_some, option_to_list, flat_map, length, take, drop, if◌then◌else◌, ◌⊎◌}
use Rattle.std.specs.List.{AllByRecursion}
use Rattle.cachefile.specs.Text.{saved_value}
use Rattle.crew_jobs.specs.declared.job.Job.{Job}
use Rattle.crew_trait.specs.declared.reply.Reply.{Reply}
use Rattle.deftable.specs.Table.{value_of}
use Rattle.shellword.specs.declared.part.Part.{Part}
use Rattle.shellword.specs.Value.{word_value}
use Rattle.ac_tree.specs.declared.listed.Listed.{Listed}
use Rattle.ac_tree.specs.declared.program.Program.{Program}
use Rattle.ac_tree.specs.declared.program.Try.{Try}
use Rattle.ac_tree.specs.declared.statement.Declares.{Declares}
use Rattle.ac_tree.specs.declared.statement.Effect.{Effect}
use Rattle.ac_tree.specs.declared.statement.Effect.TheVariants as effects
use Rattle.ac_tree.specs.declared.statement.Question.{Question}
use Rattle.ac_tree.specs.declared.statement.Question.TheVariants.{Tries}
use Rattle.ac_tree.specs.declared.tree.Subject.{Subject}
use Rattle.ac_tree.specs.declared.tree.Subject.TheVariants.{Nothing, Word, Asked}
use Rattle.ac_tree.specs.Commands.{HasCommands}
use Rattle.ac_tree.specs.Resumable.{Among, IsResumable}
use Rattle.ac_tree.specs.Script.{Script, Done, Then, Choice, Check, Cases, No_case, Case}
use Rattle.ac_tree.specs.TestNames.{entry_name}
use Rattle.ac_tree.specs.Uses.{Uses, uses_of, uses_asked}
use Rattle.meaning.specs.State.{State, Scope, no_choice, about, answered, Goes_on, Completed, Stopped, Cut, Run, Ends, Asks, as_is}
use Rattle.meaning.specs.Tests.{checking, tested}
use Rattle.meaning.specs.Forms.{FormTest, form_name}
use Rattle.meaning.specs.Entries.{entry_test, tests_of}
use Rattle.meaning.specs.Rows.{Formed, row_of}
use Rattle.meaning.specs.Batches.{job_for, asking}
use Rattle.meaning.specs.Meaning.{effect, after_question, after_subject, rounds_of, in_turn, is_taken, meaning, chosen}
use Rattle.meaning.specs.Play.{play, all_jobs}
use Rattle.meaning_laws.specs.Questions.{yes_or_no}
use Rattle.meaning_laws.specs.Refusals.{played}
use Rattle.meaning_resumption.specs.Poured.{Poured}
use Rattle.meaning_resumption.specs.Joint.{test_in, checks}

-- A part of what a run asks for: some of its jobs, and the name of the test that asks for them, if there is one.
pub record Share : Type 0 where
  pub name : Option (List ℕ)
  pub jobs : List Job

-- All jobs that a run asks for under replies.
abbrev pub jobs_asked : Run → List Reply → List Job
jobs_asked run replies = all_jobs (play run replies).groups

-- The shares of a test, by the value of its name: it is made only if the name is unset.
abbrev pub made : Option (List ℕ) → List Share → List Share
made None shares = shares
made (Some value) shares = []

-- The test of the first of these names, with its jobs.
abbrev pub first_share : List (List ℕ) → State → List Job → List Share
first_share [] st jobs = []
first_share (name ∷ more) st jobs = made (value_of st.vars name) (record { name = Some name; jobs = jobs } ∷ [])

-- The run of a statement or of a question that uses this: a program that is tried, a test, or neither.
abbrev pub use_shares : Uses → State → Run → List Reply → List Share
use_shares uses st run replies =
    if uses.tries then record { name = None; jobs = jobs_asked run replies } ∷ [] else first_share uses.tests st (jobs_asked run replies)

-- The entries of a batch that ask for a child, each with its job.
abbrev pub entry_shares : List (FormTest × Option Job) → List Share
entry_shares [] = []
entry_shares ((test, None) ∷ more) = entry_shares more
entry_shares ((test, Some job) ∷ more) = record { name = Some (form_name test.form); jobs = job ∷ [] } ∷ entry_shares more

-- A statement. AC_CHECK_PROGS and AC_PROG_CC are one test.
abbrev pub effect_shares : Declares → Effect → State → List Reply → List Share
effect_shares declares (effects.Batch listed entries includes) st replies = entry_shares (asking 1 [] (tests_of listed entries includes) st)
effect_shares declares e st replies = use_shares (uses_of declares e) st (effect e st) replies

-- What follows a run, if it continues, with the replies that are left.
abbrev pub shares_after : Run → List Reply → (State → List Reply → List Share) → List Share
shares_after (Ends Goes_on st) replies rest = rest st replies
shares_after (Ends Completed st) replies rest = []
shares_after (Ends (Stopped status) st) replies rest = []
shares_after (Ends Cut st) replies rest = []
shares_after (Asks jobs next) replies rest = shares_after (next (take (length jobs) replies)) (drop (length jobs) replies) rest

-- What follows the answer of a question that is asked with `yes_or_no`, if there is one.
abbrev pub shares_answered : Run → List Reply → (Scope → State → List Reply → List Share) → List Share
shares_answered (Ends Goes_on st) replies rest = rest (answered true) st replies
shares_answered (Ends Completed st) replies rest = rest (answered false) st replies
shares_answered (Ends (Stopped status) st) replies rest = []
shares_answered (Ends Cut st) replies rest = []
shares_answered (Asks jobs next) replies rest = shares_answered (next (take (length jobs) replies)) (drop (length jobs) replies) rest

-- A round of a choice, with its cases.
abbrev pub subject_shares : Subject → State → List Reply → (Scope → State → List Reply → List Share) → List Share
subject_shares Nothing st replies inside = inside no_choice st replies
subject_shares (Word word) st replies inside = inside (about (word_value word st.vars)) st replies
subject_shares (Asked q) st replies inside =
    let run : Run = after_question as_is q st yes_or_no in
    use_shares (uses_asked q) st run replies ++ shares_answered run replies inside

-- Rounds, one after the other.
abbrev pub turn_shares : List Subject → (Scope → State → Run) → (Scope → State → List Reply → List Share) → State → List Reply → List Share
turn_shares [] go inside st replies = []
turn_shares (round ∷ more) go inside st replies =
    subject_shares round st replies inside ++ shares_after (after_subject as_is round st go) replies (turn_shares more go inside)

-- AC_CACHE_CHECK of this name, with the shares of its commands: a program that they try belongs to it. It has asked for these
-- jobs before. (Commands that the parser gives hold no tests, so it is one share.)
abbrev pub owned : List ℕ → List Job → List Share → List Share
owned name jobs [] = record { name = Some name; jobs = jobs } ∷ []
owned name jobs (share ∷ more) =
    if is_some share.name then record { name = Some name; jobs = jobs } ∷ share ∷ owned name [] more else owned name (jobs ++ share.jobs) more

unfoldable mutual
  -- What statements ask for under replies, in order.
  pub shares : Script → State → List Reply → List Share
  shares Done st replies = []
  shares (Then declares e rest) st replies = effect_shares declares e st replies ++ shares_after (effect e st) replies (shares rest)
  shares (Choice declares subject cases rest) st replies =
      turn_shares (rounds_of subject) (chosen cases) (case_shares cases) st replies
      ++ shares_after (in_turn (rounds_of subject) (chosen cases) st) replies (shares rest)
  shares (Check message name commands rest) st replies =
      made (value_of st.vars name) (owned name [] (shares commands (checking (word_value message st.vars) st) replies))
      ++ shares_after (checks message name (meaning commands) st) replies (shares rest)

  -- The first case that is taken, if any.
  pub case_shares : Cases → Scope → State → List Reply → List Share
  case_shares No_case scope st replies = []
  case_shares (Case when body more) scope st replies =
      if is_taken when scope st.vars then shares body st replies else case_shares more scope st replies

-- The names of the tests that statements make under replies: of each whose name is unset when its turn comes.
abbrev pub tests_made : Script → State → List Reply → List (List ℕ)
tests_made script st replies = flat_map (λ share. option_to_list share.name) (shares script st replies)

-- ---- laws

-- The jobs of shares, in order.
abbrev pub shared_jobs : List Share → List Job
shared_jobs [] = []
shared_jobs (share ∷ more) = share.jobs ++ shared_jobs more

-- Each job that a run asks for is in one share, and the shares have no other jobs.
abbrev pub SharesAreJobs : Type 0
SharesAreJobs = (script : Script) (st : State) (replies : List Reply) → shared_jobs (shares script st replies) ≡ jobs_asked (meaning script st) replies

-- So it is if the run is played as a whole.
abbrev pub SharesArePlayed : Type 0
SharesArePlayed = (script : Script) (st : State) (replies : List Reply) → shared_jobs (shares script st replies) ≡ all_jobs (played script st replies).groups

-- What asks for jobs: a statement, a question, or AC_CACHE_CHECK with its commands.
pub data Asker : Type 0 where
  a_statement : (declares : Declares) (e : Effect) → Asker
  a_question : (q : Question) → Asker
  a_check : (message : List Part) (name : List ℕ) (commands : Script) → Asker

-- One of the rounds of a choice asks this.
abbrev pub IsAskedIn : Question → List Subject → Type 0
IsAskedIn q [] = ⊥
IsAskedIn q (round ∷ more) = (round ≡ Asked q) ⊎ IsAskedIn q more

unfoldable mutual
  -- A script has this: as its first statement, in a round of a choice, in one of the cases, or after.
  pub Has : Asker → Script → Type 0
  Has asker Done = ⊥
  Has asker (Then declares e rest) = (asker ≡ a_statement declares e) ⊎ Has asker rest
  Has asker (Choice declares subject cases rest) =
      ((q : Question) × ((asker ≡ a_question q) × IsAskedIn q (rounds_of subject))) ⊎ (HasWithin asker cases ⊎ Has asker rest)
  Has asker (Check message name commands rest) = (asker ≡ a_check message name commands) ⊎ Has asker rest

  -- One of the cases has it.
  pub HasWithin : Asker → Cases → Type 0
  HasWithin asker No_case = ⊥
  HasWithin asker (Case when body more) = Has asker body ⊎ HasWithin asker more

-- A share has the jobs that the meaning's own test of its name asks for: that of a statement, of a question, of an entry, or
-- AC_CACHE_CHECK. One without a name has those of a program that is tried. The script has what asks.
pub data HasItsJobs : Script → Share → Type 0 where
  of_statement : (script : Script) (declares : Declares) (e : Effect) (st : State) (replies : List Reply) (name : List ℕ)
      → Has (a_statement declares e) script → (uses_of declares e).tests ≡ name ∷ []
      → HasItsJobs script (record { name = Some name; jobs = jobs_asked (effect e st) replies })
  of_question : (script : Script) (q : Question) (test : FormTest) (st : State) (replies : List Reply)
      → Has (a_question q) script → test_in q ≡ Some test
      → HasItsJobs script (record { name = Some (form_name test.form); jobs = jobs_asked (tested (row_of (Formed test) st) st) replies })
  of_entry : (script : Script) (declares : Declares) (listed : Listed) (entries : List (List ℕ)) (includes : Option (List Part)) (place : ℕ) (earlier : List (List ℕ)) (entry : List ℕ) (st : State) (job : Job)
      → Has (a_statement declares (effects.Batch listed entries includes)) script → Among entry entries
      → job_for (entry_test listed includes entry) place earlier st ≡ Some job
      → HasItsJobs script (record { name = Some (entry_name listed entry); jobs = job ∷ [] })
  of_check : (script : Script) (message : List Part) (name : List ℕ) (commands : Script) (st : State) (replies : List Reply)
      → Has (a_check message name commands) script
      → HasItsJobs script (record { name = Some name; jobs = jobs_asked (checks message name (meaning commands) st) replies })
  of_try : (script : Script) (kind : Try) (program : Program) (st : State) (replies : List Reply)
      → Has (a_question (Tries kind program)) script
      → HasItsJobs script (record { name = None; jobs = jobs_asked (after_question as_is (Tries kind program) st yes_or_no) replies })

-- So has each, if the source has the form that the parser gives it.
abbrev pub SharesHaveTheirJobs : Type 0
SharesHaveTheirJobs = (script : Script) (st : State) (replies : List Reply) → HasCommands script → AllByRecursion (HasItsJobs script) (shares script st replies)

-- A share is of a test.
abbrev pub IsOfTest : Share → Type 0
IsOfTest share = is_some share.name ≡ true

-- In a source that can be resumed, each share is of a test.
abbrev pub SharesAreTests : Type 0
SharesAreTests = (script : Script) (st : State) (replies : List Reply) → IsResumable script → AllByRecursion IsOfTest (shares script st replies)

-- A run that begins with the saved values of an end makes no test of a name that was saved.
abbrev pub AsksNoSaved : Type 0
AsksNoSaved = (script : Script) (end before second : State) (again : List Reply) (name value : List ℕ) → Poured end before second
    → saved_value name (value_of end.vars name) ≡ Some value → Among name (tests_made script second again) → ⊥
