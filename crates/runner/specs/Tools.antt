-- What is asked of the program of the tools, and what of the streams a command leaves alone.
use Rattle.std.specs.Prelude.{◌≡◌, ◌⊎◌, ℕ, Bool, List, [], Option, Some, None, codes}
use Rattle.cmd_call.specs.Calls.{ProgramCall, Filter, StandIn, Lint, Port, Header, Why, Unknown}
use Rattle.cmd_call.specs.Lines.{IsTold, error_line}
use Rattle.tool_start.specs.Starts.{AddsStart, ToolStart}

-- If the words are those of a command that the program of the tools has, this holds. (own)
abbrev pub IfTools : ProgramCall → Type 0 → Type 0
IfTools (Lint words) goes_on = goes_on
IfTools (Port words) goes_on = goes_on
IfTools (Header words) goes_on = goes_on
IfTools (Why words) goes_on = goes_on
IfTools call goes_on = Unit {0}

-- The command is none of the program of the tools. (own)
abbrev pub HasNoTools : ProgramCall → Type 0
HasNoTools (Lint words) = ⊥
HasNoTools (Port words) = ⊥
HasNoTools (Header words) = ⊥
HasNoTools (Why words) = ⊥
HasNoTools call = Unit {0}

-- The command reads no standard input here: it isn't the filter. (own)
abbrev pub ReadsNothing : ProgramCall → Type 0
ReadsNothing Filter = ⊥
ReadsNothing call = Unit {0}

-- The command writes nothing to standard output here: it is the stand-in or one of the tools, or the words are no command. (own)
abbrev pub WritesNothing : ProgramCall → Type 0
WritesNothing (StandIn words) = Unit {0}
WritesNothing (Lint words) = Unit {0}
WritesNothing (Port words) = Unit {0}
WritesNothing (Header words) = Unit {0}
WritesNothing (Why words) = Unit {0}
WritesNothing Unknown = Unit {0}
WritesNothing call = ⊥

-- The line was written that says why the program of the tools wasn't started, or that memory ran out. (own)
abbrev pub IsUnstartedTold : {E : Type 0} → (E → Option (List ℕ)) → (E → Bool) → E → E → Type 0
IsUnstartedTold contents has_failed old new =
    ((cause : List ℕ) × IsTold contents has_failed old new (error_line (codes "tools") cause))
    ⊎ IsTold contents has_failed old new (error_line (codes "memory") [])

-- What is said of a status: it is that of the program, and nothing was said; or the program wasn't started, it is 2, and that was
-- told. (own)
abbrev pub EndsBy : Option ℕ → ℕ → Type 0 → Type 0 → Type 0
EndsBy (Some number) status silent told = (status ≡ number) × silent
EndsBy None status silent told = (status ≡ 2) × told

-- The program of the tools was started once, with these words, or couldn't be, and the status is by that. (own)
abbrev pub AreToolsRun : {E : Type 0} → (E → Option (List ℕ)) → (E → Bool) → E → E → Option (List ToolStart) → Option (List ToolStart) → List (List ℕ) → ℕ → Type 0
AreToolsRun contents has_failed old new starts_old starts_new words status =
    (ended : Option ℕ) × AddsStart starts_old starts_new (record { words = words; status = ended })
    × EndsBy ended status (new ≡ old) (IsUnstartedTold contents has_failed old new)

-- The same, without what was said. (own)
abbrev pub HasToolStatus : Option (List ToolStart) → Option (List ToolStart) → List (List ℕ) → ℕ → Type 0
HasToolStatus starts_old starts_new words status =
    (ended : Option ℕ) × AddsStart starts_old starts_new (record { words = words; status = ended })
    × EndsBy ended status (Unit {0}) (Unit {0})
