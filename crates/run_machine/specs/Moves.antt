-- The moves of a machine.
use Rattle.std.specs.Prelude.{◌+◌, [], Option, Some, None, length, replicate}
use Rattle.run_test.specs.declared.flow.Flow.{Flow}
use Rattle.run_test.specs.declared.flow.Flow.TheVariants as flow
use Rattle.run_machine.specs.declared.machine.Phase.TheVariants as phase
use Rattle.run_machine.specs.declared.machine.Turn.{Turn}
use Rattle.run_machine.specs.declared.machine.Turn.TheVariants as turn
use Rattle.meaning.specs.Play.{with_cut_line}
use Rattle.meaning.specs.State.{Completed, Stopped, Cut}
use Rattle.plan.specs.Broken.{broken_all}
use Rattle.plan.specs.Walk.{mind_of}
use Rattle.run_machine.specs.Standing.{Standing}

-- The machine after it goes to what follows a step. At the end of the run, the tests around the step are broken, and a cut
-- prints its line. (own)
abbrev pub arrived : Flow → Standing → Standing
arrived (flow.Pass more) m = record m { place = m.place + (1 + more) }
arrived (flow.Ask jobs wait) m = record m { phase = phase.Asking; wait = wait; jobs = jobs.items; replies = replicate (length jobs.items) None }
arrived flow.Complete m = record m { phase = phase.Completed; mind = mind_of m.mind.scope []; state = broken_all m.mind.open_tests Completed m.state }
arrived (flow.Stop status) m = record m { phase = phase.Stopped status; mind = mind_of m.mind.scope []; state = broken_all m.mind.open_tests (Stopped status) m.state }
arrived (flow.Cut number) m =
    record m { phase = phase.Cut number; mind = mind_of m.mind.scope []; state = with_cut_line (Some number) (broken_all m.mind.open_tests Cut m.state) }

-- The turn of the machine, unless the next step can be done. (own)
abbrev pub turn_by : Flow → Option Turn
turn_by (flow.Pass more) = None
turn_by (flow.Ask jobs wait) = Some turn.Ask
turn_by flow.Complete = Some turn.Done
turn_by (flow.Stop status) = Some (turn.Stopped status)
turn_by (flow.Cut number) = Some (turn.Cut number)
