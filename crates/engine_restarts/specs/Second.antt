-- A second call, with the cache that a first one saved.
use Rattle.std.specs.Prelude.{◌≡◌, ℕ, List, [], Option, Some, None, Ok, Err}
use Rattle.cachefile.specs.Text.{cache_text_of}
use Rattle.crew_trait.specs.Events.{Account}
use Rattle.engine_frame.specs.Given.{Starts}
use Rattle.engine_frame.specs.declared.fault.Fault.TheVariants.{Precious}
use Rattle.engine_frame.specs.declared.starting.Start.{Start}
use Rattle.engine_frame.specs.declared.report.Report.{Report}
use Rattle.meaning.specs.State.{State, opened}
use Rattle.meaning_resumption.specs.Poured.{Poured}
use Rattle.options.specs.declared.fault.PreciousFault.{PreciousFault}
use Rattle.ac_tree.specs.Script.{Script}
use Rattle.engine_restarts.specs.Calls.{Given, follows, Saved}

-- The state in which a run ended, as its report has it; messages and log are left out. (own)
abbrev pub end_of : Report → State
end_of report = record { vars = report.vars; defs = report.defs; messages = []; log = [] }

-- A second call with the saved cache is accepted: no precious variable is at fault, and it begins
-- as the first one did but for its variables. These are those of the first, with each value that
-- the cache saves. (own)
pub record StartsAgain (given : Given) (script : Script) (start : Start) (report : Report) : Type 0 where
  pub second : Start
  pub accepted : follows given (Some (cache_text_of report.vars)) ≡ Ok (Starts script second)
  pub same : record second { vars = start.vars } ≡ start
  pub poured : Poured (end_of report) (opened start.vars) (opened second.vars)

-- This holds after each call that was run and saved its cache, also if it was not cut short. (own)
abbrev pub SecondCallStarts : Type 0
SecondCallStarts = (given : Given) (cache : Option (List ℕ)) (window : ℕ) (script : Script) (start : Start) (before now : Account) (report : Report)
    → Saved given cache window script start before now report → StartsAgain given script start report

-- A call without a cache has no fault of a precious variable. (own)
abbrev pub UncachedCallsAgree : Type 0
UncachedCallsAgree = (given : Given) (fault : PreciousFault) → follows given None ≡ Err (Precious fault) → ⊥
