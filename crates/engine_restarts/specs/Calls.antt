-- Calls of `configure`: what each is given, and what it reports.
use Rattle.std.specs.Prelude.{◌≡◌, ℕ, true, List, length, ◌≤◌, Option, Some, None, is_some, option_map, Result, Ok}
use Rattle.cachefile.specs.Cache.{limit}
use Rattle.cachefile.specs.Text.{cache_text_of}
use Rattle.crew_trait.specs.declared.reply.Reply.{Reply}
use Rattle.crew_trait.specs.Events.{Account, replies_in}
use Rattle.engine.specs.Configured.{IsMeant}
use Rattle.engine.specs.Judged.{acceptance}
use Rattle.engine.specs.Told.{outcome_of}
use Rattle.engine_frame.specs.Given.{Accepted, Starts}
use Rattle.engine_frame.specs.declared.starting.Start.{Start}
use Rattle.engine_frame.specs.declared.fault.Fault.{Fault}
use Rattle.engine_frame.specs.declared.report.Outcome.{Outcome}
use Rattle.engine_frame.specs.declared.report.Outcome.TheVariants.{Completed, Stopped, CutShort, Shown}
use Rattle.engine_frame.specs.declared.report.Report.{Report}
use Rattle.meaning.specs.Play.{all_jobs, first_refused}
use Rattle.meaning.specs.State.{opened}
use Rattle.proberun.specs.Ran.{outcome_from}
use Rattle.meaning_resumption.specs.Plays.{played, HasReplies}
use Rattle.ac_tree.specs.Resumable.{IsResumable}
use Rattle.ac_tree.specs.Script.{Script}

-- What a call is given beside a cache: the text of a source, arguments, an environment and
-- templates. (own)
pub record Given : Type 0 where
  pub source : List ℕ
  pub arguments : List (List ℕ)
  pub environment : List (List ℕ × List ℕ)
  pub templates : List (List ℕ × List ℕ)

-- What follows from what a call is given, with this cache. (own)
abbrev pub follows : Given → Option (List ℕ) → Result Accepted Fault
follows given cache = acceptance given.source given.arguments given.environment cache given.templates

-- The replies to the children of a run, in the order of its jobs. (own)
abbrev pub replies_to : {window : ℕ} {script : Script} {start : Start} {now : Account} {report : Report} → (before : Account) → IsMeant window script start before now report → List Reply
replies_to before meant = replies_in before.attempts (length (all_jobs meant.ran.groups)) meant.ran.since

-- A child was refused, so the run was cut short. (own)
abbrev pub IsCutShort : Outcome → Type 0
IsCutShort Completed = ⊥
IsCutShort (Stopped status) = ⊥
IsCutShort (CutShort number) = Unit {0}
IsCutShort Shown = ⊥

-- There is no cache, or it is the cache text of some variables, as a call hands it over. (own)
pub data IsOwnCache : Option (List ℕ) → Type 0 where
  no_cache : IsOwnCache None
  saved_cache : (vars : List (List ℕ × List ℕ)) → IsOwnCache (Some (cache_text_of vars))

-- A call of a source that can be resumed was run, and its cache is saved: the call names a cache, and the text is
-- within the limit of cache texts. What it was given as its own cache, if anything, was saved by a
-- call too. (own)
pub record Saved (given : Given) (cache : Option (List ℕ)) (window : ℕ) (script : Script) (start : Start) (before now : Account) (report : Report) : Type 0 where
  -- What is judged before anything is run.
  pub accepted : follows given cache ≡ Ok (Starts script start)
  -- What `configure` promises of each report, also with a refused put.
  pub meant : IsMeant window script start before now report
  -- What `is_resumable` says of a source.
  pub resumable : IsResumable script
  -- An argument names the cache.
  pub named : is_some start.cache_name ≡ true
  pub own : IsOwnCache cache
  -- The length of the text that was handed over.
  pub small : length (cache_text_of report.vars) ≤ limit

-- The report describes the run that begins so, under these replies, which are as many as its jobs.
-- (own)
pub record Tells (script : Script) (start : Start) (replies : List Reply) (report : Report) : Type 0 where
  pub enough : HasReplies (played script (opened start.vars) replies) replies
  pub outcome : option_map outcome_of (outcome_from (played script (opened start.vars) replies).how (first_refused replies)) ≡ Some report.outcome
  pub vars : report.vars ≡ (played script (opened start.vars) replies).state.vars
  pub defs : report.defs ≡ (played script (opened start.vars) replies).state.defs

-- The report of each run describes it, under the replies of its crew, at any window and in any order
-- of ends. (own)
abbrev pub ReportsTell : Type 0
ReportsTell = (window : ℕ) (script : Script) (start : Start) (before now : Account) (report : Report)
    → (meant : IsMeant window script start before now report) → Tells script start (replies_to before meant) report
