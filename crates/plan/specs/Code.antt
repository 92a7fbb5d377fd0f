-- The plan of a list of statements.
use Rattle.std.specs.Prelude.{ℕ, ◌+◌, Bool, true, false, List, [], ◌∷◌, ◌++◌, length, Option, Some, None}
use Rattle.shellword.specs.declared.part.Part.{Part}
use Rattle.ac_tree.specs.declared.statement.Effect.{Effect}
use Rattle.ac_tree.specs.declared.statement.Effect.TheVariants.{Searches}
use Rattle.ac_tree.specs.declared.tree.When.{When}
use Rattle.ac_tree.specs.declared.tree.Subject as subject
use Rattle.ac_tree.specs.Script.{Script, Done, Then, Choice, Check, Cases, No_case, Case}
use Rattle.meaning.specs.Meaning.{rounds_of}
use Rattle.plan.specs.Walk.{Instruction, Does, Looks, Defaults, Begins, Skips_unless, Skips, Opens, Closes}

-- A case: a jump past it, its statements, and a jump past the cases after it. (own)
abbrev pub case_code : When → List Instruction → ℕ → List Instruction
case_code when body after = Skips_unless when (length body + 1) ∷ (body ++ (Skips after ∷ []))

-- A check: its beginning, which may pass the rest, its commands, and its end. (own)
abbrev pub check_code : List Part → List ℕ → List Instruction → List Instruction
check_code message name commands = Opens message name (length commands + 1) ∷ (commands ++ (Closes name ∷ []))

-- Programs, one after the other. (own)
abbrev pub code_of_programs : List ℕ → List (List ℕ) → Bool → List Instruction
code_of_programs variable [] always = []
code_of_programs variable (program ∷ more) always = Looks variable program always ∷ code_of_programs variable more false

-- The step of a default, if there is one. (own)
abbrev pub default_code : List ℕ → Option (List Part) → List Instruction
default_code variable None = []
default_code variable (Some value) = Defaults variable value ∷ []

-- The steps that follow the own step of an effect. (own)
abbrev pub code_after : Effect → List Instruction
code_after (Searches variable programs otherwise) = code_of_programs variable programs true ++ default_code variable otherwise
code_after effect = []

-- Rounds, one after the other: each begins with its subject, and has the steps of the cases. (own)
abbrev pub code_each : List subject.Subject → List Instruction → List Instruction
code_each [] cases = []
code_each (round ∷ more) cases = Begins round ∷ (cases ++ code_each more cases)

abbrev mutual
  -- The steps of a list of statements. (own)
  pub code_of : Script → List Instruction
  code_of Done = []
  code_of (Then declares effect rest) = Does effect ∷ (code_after effect ++ code_of rest)
  code_of (Choice declares subject cases rest) = code_each (rounds_of subject) (code_of_cases cases) ++ code_of rest
  code_of (Check message name commands rest) = check_code message name (code_of commands) ++ code_of rest

  -- The steps of the cases of a choice. (own)
  pub code_of_cases : Cases → List Instruction
  code_of_cases No_case = []
  code_of_cases (Case when body more) = case_code when (code_of body) (length (code_of_cases more)) ++ code_of_cases more
