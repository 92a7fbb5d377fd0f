-- What follows a step, or the replies that it waited for.
use Rattle.std.specs.Prelude.{◌≡◌, ◌≤◌, ℕ, ◌+◌, List, Option, Result, Some, None, IfOk, length}
use Rattle.std.specs.declared.alloc.AllocError.{AllocError}
use Rattle.meaning.specs.State.{State, Scope, Completed, Stopped, Cut, Run, Ends, Asks}
use Rattle.plan.specs.Broken.{broken_all}
use Rattle.plan.specs.Walk.{Mind}
use Rattle.run_test.specs.declared.flow.Flow.{Flow}
use Rattle.run_test.specs.declared.flow.Flow.TheVariants as flow
use Rattle.run_test.specs.Waits.{Awaits, resumed, waits_for}

-- A run of a step, as a function of the tests around it and of what follows it, which is given how many steps are passed. (own)
abbrev pub Inside : Type 0
Inside = List (List ℕ) → (ℕ → Scope → State → Run) → Run

-- A run of a step continues as the flow says, with this subject and state. (own)
abbrev pub Leads : Flow → Inside → Scope → State → Type 0
Leads (flow.Pass more) run scope st = (tests : List (List ℕ)) (next : ℕ → Scope → State → Run) → run tests next ≡ next more scope st
Leads (flow.Ask jobs wait) run scope st = (tests : List (List ℕ)) (next : ℕ → Scope → State → Run) → run tests next ≡ Asks jobs.items (λ replies. resumed tests wait jobs.items replies (next 0) scope st)
Leads flow.Complete run scope st = (tests : List (List ℕ)) (next : ℕ → Scope → State → Run) → run tests next ≡ Ends Completed (broken_all tests Completed st)
Leads (flow.Stop status) run scope st = (tests : List (List ℕ)) (next : ℕ → Scope → State → Run) → run tests next ≡ Ends (Stopped status) (broken_all tests (Stopped status) st)
Leads (flow.Cut number) run scope st = (tests : List (List ℕ)) (next : ℕ → Scope → State → Run) → run tests next ≡ Ends Cut (broken_all tests Cut st)

-- A flow, if there is one, continues a run of a step with this subject and state. (own)
abbrev pub Led : Result Flow AllocError → Inside → Scope → State → Type 0
Led result run scope st = IfOk result (λ flow. Leads flow run scope st)

-- The same for any subject, which stays as it is. (own)
abbrev pub LedOn : Result Flow AllocError → (Scope → State → Inside) → State → State → Type 0
LedOn result run old new = (scope : Scope) → Led result (run scope old) scope new

-- The same for any subject and state, which stay as they are. (own)
abbrev pub LedAnywhere : Result Flow AllocError → (Scope → State → Inside) → Type 0
LedAnywhere result run = (scope : Scope) (st : State) → Led result (run scope st) scope st

-- A run of a step, as a function of what follows it, continues as the flow says, with this subject, inside these tests,
-- with this state. (own)
abbrev pub Continues : Flow → ((ℕ → Mind → State → Run) → Run) → Mind → State → Type 0
Continues (flow.Pass more) run mind st = (next : ℕ → Mind → State → Run) → run next ≡ next more mind st
Continues (flow.Ask jobs wait) run mind st =
    (next : ℕ → Mind → State → Run) → run next ≡ Asks jobs.items (λ replies. resumed mind.open_tests wait jobs.items replies (λ scope. next 0 (record mind { scope = scope })) mind.scope st)
Continues flow.Complete run mind st = (next : ℕ → Mind → State → Run) → run next ≡ Ends Completed (broken_all mind.open_tests Completed st)
Continues (flow.Stop status) run mind st = (next : ℕ → Mind → State → Run) → run next ≡ Ends (Stopped status) (broken_all mind.open_tests (Stopped status) st)
Continues (flow.Cut number) run mind st = (next : ℕ → Mind → State → Run) → run next ≡ Ends Cut (broken_all mind.open_tests Cut st)

-- How many steps are passed beside the step. (own)
abbrev pub passed : Flow → ℕ
passed (flow.Pass more) = more
passed (flow.Ask jobs wait) = 0
passed flow.Complete = 0
passed (flow.Stop status) = 0
passed (flow.Cut number) = 0

-- How many jobs may be asked for until the step is left. (own)
abbrev pub asks_now : Flow → ℕ
asks_now (flow.Pass more) = 0
asks_now (flow.Ask jobs wait) = length jobs.items + waits_for wait
asks_now flow.Complete = 0
asks_now (flow.Stop status) = 0
asks_now (flow.Cut number) = 0

-- Jobs that are asked for are those of what is waited for. (own)
abbrev pub IsGroup : Flow → Type 0
IsGroup (flow.Ask jobs wait) = Awaits wait jobs.items
IsGroup (flow.Pass more) = Unit {0}
IsGroup flow.Complete = Unit {0}
IsGroup (flow.Stop status) = Unit {0}
IsGroup (flow.Cut number) = Unit {0}

-- A run is cut short exactly if a child was refused, at its number. (own)
abbrev pub Heeds : Flow → Option ℕ → Type 0
Heeds (flow.Cut number) refused = refused ≡ Some number
Heeds (flow.Pass more) refused = refused ≡ None
Heeds (flow.Ask jobs wait) refused = refused ≡ None
Heeds flow.Complete refused = refused ≡ None
Heeds (flow.Stop status) refused = refused ≡ None

-- A flow of one step that passes no further one. It may ask for at most so many jobs until the step is left, which are
-- those of what it waits for, and it cuts the run exactly if a child was refused, at its number. (own)
pub record IsStep (few : ℕ) (refused : Option ℕ) (flow : Flow) : Type 0 where
  pub within : passed flow ≤ 0
  pub asks : asks_now flow ≤ few
  pub group : IsGroup flow
  pub heeds : Heeds flow refused
