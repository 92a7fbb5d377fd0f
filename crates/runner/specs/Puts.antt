-- Which commands write files, and in which way, and what a run requires of its crew.
pub use Rattle.cmd_configure.specs.Configures.{MayRun}
use Rattle.cmd_call.specs.Calls.{ProgramCall, StandIn, Configure, Status, Recheck}

-- The program is asked for nothing that makes outputs or a log. (own)
abbrev pub HasNoPuts : ProgramCall → Type 0
HasNoPuts (Configure window arguments) = ⊥
HasNoPuts (Status tags) = ⊥
HasNoPuts Recheck = ⊥
HasNoPuts call = Unit {0}

-- The program is not asked to stand in for a compiler. (own)
abbrev pub HasNoStandIn : ProgramCall → Type 0
HasNoStandIn (StandIn words) = ⊥
HasNoStandIn call = Unit {0}
