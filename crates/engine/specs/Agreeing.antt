-- Two runs of one source, over crews with the same replies.
use Rattle.std.specs.Prelude.{◌≡◌, ℕ, ◌-◌, List, length}
use Rattle.crew_trait.specs.Events.{Account, replies_in}
use Rattle.meaning.specs.Play.{all_jobs}
use Rattle.proberun.specs.Agreeing.{Agree, SameJobs}
use Rattle.ac_tree.specs.Script.{Script}
use Rattle.engine.specs.Configured.{IsMeant, artifacts}
use Rattle.engine_frame.specs.declared.starting.Start.{Start}
use Rattle.engine_frame.specs.declared.report.Report.{Report}

-- Two runs of one source from one opening, whose n-th replies are the same for every n that both have, ask for the same groups of
-- jobs, have the same report but for how much was handed over, and hand over the same, whatever their windows and the orders in
-- which their children end. They attempt as many starts, and starts of one number have the same job. (own)
abbrev pub ConfiguresAgree : Type 0
ConfiguresAgree = (script : Script) (start : Start) (window other_window : ℕ) (before now other_before other_now : Account) (report other_report : Report)
    → (one : IsMeant window script start before now report) (other : IsMeant other_window script start other_before other_now other_report)
    → Agree (replies_in before.attempts (length (all_jobs one.ran.groups)) one.ran.since) (replies_in other_before.attempts (length (all_jobs other.ran.groups)) other.ran.since)
    → (one.ran.groups ≡ other.ran.groups)
    × (record report { handed = other_report.handed } ≡ other_report)
    × ((templates : List (List ℕ × List ℕ)) → artifacts script start templates report ≡ artifacts script start templates other_report)
    × (now.attempts - before.attempts ≡ other_now.attempts - other_before.attempts)
    × SameJobs before.attempts one.ran.since other_before.attempts other.ran.since
