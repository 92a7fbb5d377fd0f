-- The outcomes of a run.
pub use Rattle.run_machine.specs.declared.machine.RunOutcome.{RunOutcome as Outcome}
pub use Rattle.run_machine.specs.declared.machine.RunOutcome.TheVariants.{Completed, Stopped, CutShort}
