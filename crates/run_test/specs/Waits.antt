-- What a machine waits for, and what follows the replies.
use Rattle.std.specs.Prelude.{◌≡◌, ◌<◌, ◌≤◌, ℕ, Bool, true, false, List, [], ◌∷◌, Option, Some, length, map, unwrap_or, if◌then◌else◌}
use Rattle.crew_jobs.specs.declared.job.Job.{Job}
use Rattle.crew_jobs.specs.Probe.{run_of}
use Rattle.crew_trait.specs.declared.reply.Reply.{Reply}
use Rattle.crew_trait.specs.declared.reply.Reply.TheVariants.{StartRefused}
use Rattle.meaning.specs.State.{State, Scope, answered, Cut, Run}
use Rattle.meaning.specs.Asking.{success, only_reply, after_child, child, same}
use Rattle.meaning.specs.Tests.{broken}
use Rattle.plan.specs.Broken.{broken_all}
use Rattle.run_test.specs.Batched.{with_asked, after_entries, is_refused, at_once, batch_end}
use Rattle.run_test.specs.Courses.{name_in}
use Rattle.run_test.specs.Trying.{after_attempt, left_in}
use Rattle.run_test.specs.declared.wait.Wait.{Wait}
use Rattle.run_test.specs.declared.wait.Wait.TheVariants as wait

-- The replies, with a refused start for each job without one. (own)
abbrev pub all_replies : List (Option Reply) → List Reply
all_replies [] = []
all_replies (r ∷ rs) = unwrap_or r StartRefused ∷ all_replies rs

-- Each job without a reply gets a refused start. (own)
abbrev pub refused_rest : List (Option Reply) → List (Option Reply)
refused_rest replies = map (λ r. Some (unwrap_or r StartRefused)) replies

-- The tests around a child that is waited for: an attempt is inside its test. (own)
abbrev pub names_around : Wait → List (List ℕ) → List (List ℕ)
names_around wait.Nothing tests = tests
names_around wait.Answer tests = tests
names_around wait.Link tests = tests
names_around (wait.Attempt trial ends_on value) tests = name_in trial.course ∷ tests
names_around (wait.Batch entries) tests = tests

-- The state if a reply is refused, before the tests around it are broken: the test of an attempt is. (own)
abbrev pub cut_state : Wait → State → State
cut_state wait.Nothing st = st
cut_state wait.Answer st = st
cut_state wait.Link st = st
cut_state (wait.Attempt trial ends_on value) st = broken (name_in trial.course) Cut st
cut_state (wait.Batch entries) st = st

-- What follows an answer inside these tests, by what is waited for: the answer of a choice, whether the program that is to be
-- run was linked, or an attempt of a test. (own)
abbrev pub after_reply : List (List ℕ) → Wait → Bool → (Scope → State → Run) → Scope → State → Run
after_reply tests wait.Nothing b next scope st = next scope st
after_reply tests wait.Answer b next scope st = next (answered b) st
after_reply tests wait.Link b next scope st = if b then child (broken_all tests) (run_of 0) st (λ passed. next (answered passed)) else next (answered false) st
after_reply tests (wait.Attempt trial ends_on value) b next scope st = after_attempt tests trial value (same ends_on b) next scope st
after_reply tests (wait.Batch entries) b next scope st = next scope st

-- What follows the reply to the only job, inside these tests. (own)
abbrev pub resumed_one : List (List ℕ) → Wait → List Job → List Reply → (Scope → State → Run) → Scope → State → Run
resumed_one tests wait jobs replies next scope st =
    after_child (broken_all (names_around wait tests)) (success (only_reply replies)) (with_asked jobs replies st) (λ b now. after_reply tests wait b next scope now)

-- One job is asked for at a time. (own)
abbrev pub is_single : Wait → Bool
is_single (wait.Batch entries) = false
is_single wait = true

-- What follows the replies, inside these tests. (own)
abbrev pub resumed : List (List ℕ) → Wait → List Job → List Reply → (Scope → State → Run) → Scope → State → Run
resumed tests (wait.Batch entries) jobs replies next scope st =
    batch_end tests (is_refused entries.items replies) (next scope) (after_entries entries.items jobs replies st)
resumed tests wait jobs replies next scope st = resumed_one tests wait jobs replies next scope st

-- How many jobs are asked for at once: one for each entry of a batch that asks, and else one. (own)
unfoldable pub Suits : Wait → List Job → Type 0
Suits (wait.Batch entries) jobs = length jobs ≡ at_once entries.items
Suits wait jobs = length jobs ≡ 1

-- The jobs of what is waited for, at least one and at most 256. (own)
pub record Awaits (wait : Wait) (jobs : List Job) : Type 0 where
  pub some : 0 < length jobs
  pub few : length jobs ≤ 256
  pub fit : Suits wait jobs

-- How many jobs may be asked for after these until the step is left. (own)
abbrev pub waits_for : Wait → ℕ
waits_for wait.Nothing = 0
waits_for wait.Answer = 0
waits_for wait.Link = 1
waits_for (wait.Attempt trial ends_on value) = left_in trial
waits_for (wait.Batch entries) = 0
