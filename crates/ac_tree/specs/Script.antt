-- A list of statements, as contracts see it: its first statement, and what follows.
use Rattle.std.specs.Prelude.{ℕ, List, [], ◌∷◌}
use Rattle.shellword.specs.declared.part.Part.{Part}
use Rattle.ac_tree.specs.declared.statement.Declares.{Declares}
use Rattle.ac_tree.specs.declared.statement.Effect.{Effect}
use Rattle.ac_tree.specs.declared.tree.Case as case
use Rattle.ac_tree.specs.declared.tree.Stmt.{Stmt, Row_of-Stmt, end_of-Stmt, more_of-Stmt, Row_of-Case, end_of-Case, more_of-Case}
use Rattle.ac_tree.specs.declared.tree.Stmt.TheVariants.{Do, Choose', CacheCheck'}
use Rattle.ac_tree.specs.declared.tree.Subject.{Subject}
use Rattle.ac_tree.specs.declared.tree.When.{When}

mutual
  -- A list of statements. One with no statements in it has what it declares and what it does; a choice runs the statements of
  -- its first case whose condition holds, and a check its commands, unless its name is set. (own)
  pub data Script : Type 0 where
    Done : Script
    Then : (declares : Declares) (effect : Effect) (rest : Script) → Script
    Choice : (declares : Declares) (subject : Subject) (cases : Cases) (rest : Script) → Script
    Check : (message : List Part) (name : List ℕ) (commands rest : Script) → Script

  -- The cases of a choice, in order. (own)
  pub data Cases : Type 0 where
    No_case : Cases
    Case : (when : When) (body : Script) (more : Cases) → Cases

-- One list after the other. (own)
abbrev pub joined : Script → Script → Script
joined Done more = more
joined (Then declares effect rest) more = Then declares effect (joined rest more)
joined (Choice declares subject cases rest) more = Choice declares subject cases (joined rest more)
joined (Check message name commands rest) more = Check message name commands (joined rest more)

-- Cases, and those after them. (own)
abbrev pub followed : Cases → Cases → Cases
followed No_case more = more
followed (Case when body rest) more = Case when body (followed rest more)

abbrev mutual
  -- A statement of the code, and what follows. (own)
  pub stmt_then : Stmt → Script → Script
  stmt_then (Do declares effect) rest = Then declares effect rest
  stmt_then (Choose' declares subject m cases) rest = Choice declares subject (row_cases cases) rest
  stmt_then (CacheCheck' message name m commands) rest = Check message name (row_script commands) rest

  -- A row of statements of the code. (own)
  pub row_script : {m : _} → Row_of-Stmt m → Script
  row_script end_of-Stmt = Done
  row_script (more_of-Stmt s rest) = stmt_then s (row_script rest)

  -- A row of cases of the code. (own)
  pub row_cases : {m : _} → Row_of-Case m → Cases
  row_cases end_of-Case = No_case
  row_cases (more_of-Case when m body rest) = Case when (row_script body) (row_cases rest)

-- A list of statements of the code. (own)
abbrev pub script_of : List Stmt → Script
script_of [] = Done
script_of (s ∷ rest) = stmt_then s (script_of rest)

-- Cases of the code. (own)
abbrev pub cases_of : List case.Case → Cases
cases_of [] = No_case
cases_of (c ∷ rest) = Case c.when (script_of c.body.items) (cases_of rest)
