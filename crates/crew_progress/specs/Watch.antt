-- What contracts see of a watched crew. (own)
use Rattle.std.specs.Prelude.{◌≡◌, ℕ, ◌+◌, ◌≤◌, List, length}
use Rattle.crew_trait.specs.Events.{Account}
use Rattle.crew.specs.Sound.{ListsBusy}
use Rattle.crew.specs.Counting.{started_in}
use Rattle.cmd_call.specs.declared.progress.Showing.{Showing}
use Rattle.crew_progress.specs.Progress.{ended_in, subject_in}

-- The crew inside, the stream, and what is shown of the children. (own)
pub record Watch (C W : Type 0) : Type 0 where
  pub crew : C
  pub stream : W
  pub showing : Showing

-- These are the counts of an account, and what the line of a terminal says of its latest job. Each end in the account is one of a
-- child in flight. (own)
pub record IsCounted (account : Account) (attempts started ended : ℕ) (command : List ℕ) : Type 0 where
  pub starts : started_in account.events ≡ started
  pub ends : ended_in account.events ≡ ended
  pub latest : subject_in account.events ≡ command
  pub tried : account.attempts ≡ attempts
  pub taken : started ≤ attempts
  pub slots : List ℕ
  pub lists : ListsBusy slots account.events
  pub flying : ended + length slots ≡ started
