-- Runs of steps, as functions of the tests around them and of what follows them.
use Rattle.std.specs.Prelude.{ℕ, Bool, List, [], ◌∷◌, Option, Result, IfOk, if◌then◌else◌}
use Rattle.std.specs.declared.alloc.AllocError.{AllocError}
use Rattle.crew_jobs.specs.declared.job.Job.{Job}
use Rattle.deftable.specs.Table.{value_of}
use Rattle.shellword.specs.declared.part.Part.{Part}
use Rattle.ac_tree.specs.declared.listed.Sought.{Sought}
use Rattle.ac_tree.specs.declared.feature.OptionKind.{OptionKind}
use Rattle.ac_tree.specs.declared.program.Program.{Program}
use Rattle.ac_tree.specs.declared.program.Try.{Try}
use Rattle.ac_tree.specs.declared.statement.Effect.{Effect}
use Rattle.ac_tree.specs.declared.statement.Question.{Question}
use Rattle.ac_tree.specs.declared.statement.Question.TheVariants.{ChecksEach}
use Rattle.ac_tree.specs.declared.tree.Subject.{Subject}
use Rattle.ac_tree.specs.declared.tree.Subject.TheVariants.{Asked}
use Rattle.ac_tree.specs.declared.tree.When.{When}
use Rattle.meaning.specs.Meaning.{after_question, after_subject, found_by, after_option, is_taken, looks}
use Rattle.meaning.specs.Forms.{FormTest}
use Rattle.meaning.specs.State.{State, Scope, answered, then_run}
use Rattle.meaning.specs.Tries.{text_of, tried}
use Rattle.plan.specs.Broken.{broken_all, guarded_all}
use Rattle.plan.specs.Walk.{act, mind_of, own_effect, instruction_of}
use Rattle.plan.specs.declared.step.Step.{Step}
use Rattle.run_test.specs.declared.flow.Flow.{Flow}
use Rattle.run_test.specs.Attempts.{tried_job}
use Rattle.run_test.specs.Flows.{Continues, Inside}

-- An effect in its own step. (own)
abbrev pub own_run : Effect → Scope → State → Inside
own_run effect scope st tests next = then_run (guarded_all tests (own_effect effect st)) (next 0 scope)

-- A program of a list, which is looked for always, or if the variable is empty. (own)
abbrev pub looks_run : List ℕ → List ℕ → Bool → Scope → State → Inside
looks_run variable program always scope st tests next = then_run (guarded_all tests (looks variable program always st)) (next 0 scope)

-- A program that is tried. (own)
abbrev pub tries_run : Try → Program → Scope → State → Inside
tries_run kind program scope st tests next = tried (broken_all tests) kind (text_of program st.vars) st (λ passed. next 0 (answered passed))

-- The first job of a program that is tried; none if there is no compiler. (Autoconf's manual, "Running the Compiler")
abbrev pub first_job : Try → Program → State → Option Job
first_job kind program st = tried_job kind (text_of program st.vars) 0 st

-- The question whether an option is given. (own)
abbrev pub given_run : OptionKind → List ℕ → State → Inside
given_run kind variable st tests next = after_option (value_of st.vars variable) kind st (next 0)

-- A test as a question. (own)
abbrev pub found_run : FormTest → State → Inside
found_run t st tests next = found_by (broken_all tests) t st (next 0)

-- A question. (own)
abbrev pub asked_run : Question → State → Inside
asked_run question st tests next = after_question (broken_all tests) question st (next 0)

-- The beginning of a choice. (own)
abbrev pub subject_run : Subject → State → Inside
subject_run subject st tests next = after_subject (broken_all tests) subject st (next 0)

-- A round of a list: its only entry is tested, and what is found is defined. (own)
abbrev pub round : Sought → List ℕ → Option (List Part) → State → Inside
round sought entry includes st = subject_run (Asked (ChecksEach sought (entry ∷ []) includes)) st

-- How many steps are passed by whether a case is taken. (own)
abbrev pub skipped : When → Scope → State → ℕ → ℕ
skipped when scope st steps = if is_taken when scope st.vars then 0 else steps

-- A step, with what follows it, continues as its flow says, from one subject, open tests and state to others. (own)
abbrev pub Act : Step → Result Flow AllocError → Scope → Scope → List (List ℕ) → List (List ℕ) → State → State → Type 0
Act step result about now before tests old new =
    IfOk result (λ flow. Continues flow (λ next. act (instruction_of step) next (mind_of about before) old) (mind_of now tests) new)
