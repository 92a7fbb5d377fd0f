-- The effect of a plan.
use Rattle.std.specs.Prelude.{◌≡◌, ℕ, zero, suc, Bool, List, [], ◌∷◌, ◌++◌, Option, Some, None, codes, unwrap_or, if◌then◌else◌}
use Rattle.deftable.specs.Table.{value_of}
use Rattle.shellword.specs.declared.part.Part.{Part}
use Rattle.shellword.specs.Value.{word_value}
use Rattle.ac_tree.specs.declared.statement.Effect as what
use Rattle.ac_tree.specs.declared.statement.Effect.TheVariants.{Searches}
use Rattle.ac_tree.specs.declared.statement.Question.TheVariants.{ChecksEach}
use Rattle.ac_tree.specs.declared.tree.Subject as subject
use Rattle.ac_tree.specs.declared.tree.Subject.TheVariants.{Asked}
use Rattle.ac_tree.specs.declared.tree.When.{When}
use Rattle.ac_tree.specs.Script.{Script}
use Rattle.meaning.specs.State.{State, Scope, no_choice, Goes_on, Run, Ends, then_run}
use Rattle.meaning.specs.Tests.{checking, with_result}
use Rattle.plan.specs.Broken.{broken_all, guarded_all}
use Rattle.meaning.specs.Meaning.{effect, after_subject, is_taken, looks, defaulted, meaning}
use Rattle.plan.specs.declared.step.Step.{Step}
use Rattle.plan.specs.declared.step.Step.TheVariants.{Do, Look, Default, Subject, Round, SkipUnless, Skip, Open, Close}

-- A step, as contracts see it. (own)
pub data Instruction : Type 0 where
  Does : (effect : what.Effect) → Instruction
  Looks : (variable program : List ℕ) (always : Bool) → Instruction
  Defaults : (variable : List ℕ) (value : List Part) → Instruction
  Begins : (subject : subject.Subject) → Instruction
  Skips_unless : (when : When) (steps : ℕ) → Instruction
  Skips : (steps : ℕ) → Instruction
  Opens : (message : List Part) (name : List ℕ) (steps : ℕ) → Instruction
  Closes : (name : List ℕ) → Instruction

-- A step of the code. A round begins a choice about one entry of a list. (own)
abbrev pub instruction_of : Step → Instruction
instruction_of (Do effect) = Does effect.now
instruction_of (Look variable program always) = Looks variable.now program.now always
instruction_of (Default variable value) = Defaults variable.now value.now
instruction_of (Subject subject) = Begins subject.now
instruction_of (Round sought entry includes) = Begins (Asked (ChecksEach sought (entry.now ∷ []) includes.now))
instruction_of (SkipUnless when steps) = Skips_unless when.now steps
instruction_of (Skip steps) = Skips steps
instruction_of (Open message name steps) = Opens message.now name.now steps
instruction_of (Close name) = Closes name.now

-- What an effect does in its own step; the programs of AC_CHECK_PROGS and AC_PROG_CC are steps after it. (own)
abbrev pub own_effect : what.Effect → State → Run
own_effect (Searches variable programs otherwise) st = Ends Goes_on st
own_effect other st = effect other st

-- What a walk keeps beside a state: the subject of the choice that began last, and the names of the tests that are not at
-- their end, the innermost first. (own)
pub record Mind : Type 0 where
  pub scope : Scope
  pub open_tests : List (List ℕ)

-- This subject, inside these tests. (own)
abbrev pub mind_of : Scope → List (List ℕ) → Mind
mind_of scope tests = record { scope = scope; open_tests = tests }

-- No choice, and no test. (own)
abbrev pub empty_mind : Mind
empty_mind = mind_of no_choice []

-- A test begins, by the value of its name: if there is one, it is printed, and the commands are passed. (Autoconf's
-- manual, "Caching Results")
abbrev pub opened : Option (List ℕ) → List ℕ → ℕ → (ℕ → Mind → State → Run) → Mind → State → Run
opened (Some value) name steps next mind st = next steps mind (with_result (codes "(cached) " ++ value) st)
opened None name steps next mind st = next 0 (record mind { open_tests = name ∷ mind.open_tests }) st

-- The names after the first. (own)
abbrev pub outer_tests : List (List ℕ) → List (List ℕ)
outer_tests [] = []
outer_tests (name ∷ outer) = outer

-- One step; `next n` passes n steps and continues. (own)
abbrev pub act : Instruction → (ℕ → Mind → State → Run) → Mind → State → Run
act (Does does) next mind st = then_run (guarded_all mind.open_tests (own_effect does st)) (next 0 mind)
act (Looks variable program always) next mind st = then_run (guarded_all mind.open_tests (looks variable program always st)) (next 0 mind)
act (Defaults variable value) next mind st = next 0 mind (defaulted variable (Some (word_value value st.vars)) st)
act (Begins subject) next mind st = after_subject (broken_all mind.open_tests) subject st (λ scope. next 0 (record mind { scope = scope }))
act (Skips_unless when steps) next mind st = if is_taken when mind.scope st.vars then next 0 mind st else next steps mind st
act (Skips steps) next mind st = next steps mind st
act (Opens message name steps) next mind st = opened (value_of st.vars name) name steps next mind (checking (word_value message st.vars) st)
act (Closes name) next mind st =
    next 0 (record mind { open_tests = outer_tests mind.open_tests }) (with_result (unwrap_or (value_of st.vars name) []) st)

-- A plan, after n steps are passed. (own)
abbrev pub walk : List Instruction → ℕ → Mind → State → Run
walk [] n mind st = Ends Goes_on st
walk (i ∷ rest) (suc n) mind st = walk rest n mind st
walk (i ∷ rest) zero mind st = act i (walk rest) mind st

-- The walk of the plan is the meaning of the list of statements, whatever the variables and definitions. (own)
abbrev pub DoesWhat : List Instruction → Script → Type 0
DoesWhat plan script = (st : State) → walk plan 0 empty_mind st ≡ meaning script st
