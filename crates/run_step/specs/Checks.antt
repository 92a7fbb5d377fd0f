-- The beginning and the end of a check.
use Rattle.std.specs.Prelude.{◌≡◌, ℕ, List, ◌∷◌, ◌++◌, Option, Some, None, Result, IfOk, codes}
use Rattle.std.specs.declared.alloc.AllocError.{AllocError}
use Rattle.deftable.specs.Table.{value_of}
use Rattle.shellword.specs.declared.part.Part.{Part}
use Rattle.shellword.specs.Value.{word_value}
use Rattle.meaning.specs.State.{State, value_or_empty}
use Rattle.meaning.specs.Tests.{checking, with_result}
use Rattle.run_test.specs.declared.flow.Flow.{Flow}
use Rattle.run_test.specs.declared.flow.Flow.TheVariants as flow

-- What a check checks is printed. (Autoconf's manual, "Caching Results")
abbrev pub after_message : List Part → State → State
after_message message st = checking (word_value message st.vars) st

-- The value of the name of a check is printed. (Autoconf's manual, "Caching Results")
abbrev pub shown_of : List ℕ → State → State
shown_of name st = with_result (value_or_empty st name) st

-- If the name has a value, it is printed as a cached one, and so many steps are passed; otherwise the test is open from
-- here on. (Autoconf's manual, "Caching Results")
abbrev pub opened_by : Option (List ℕ) → List ℕ → ℕ → List (List ℕ) → List (List ℕ) → State → State → Flow → Type 0
opened_by (Some value) name steps before tests old new f =
    (f ≡ flow.Pass steps) × (tests ≡ before) × (new ≡ with_result (codes "(cached) " ++ value) old)
opened_by None name steps before tests old new f = (f ≡ flow.Pass 0) × (tests ≡ name ∷ before) × (new ≡ old)

-- The same, by the value of the name. (own)
abbrev pub IsOpened : List ℕ → ℕ → List (List ℕ) → List (List ℕ) → State → State → Flow → Type 0
IsOpened name steps before tests old new f = opened_by (value_of old.vars name) name steps before tests old new f

-- A check begins: what it checks is printed, and then its test is open, or its value is printed. (own)
abbrev pub Begins : List Part → List ℕ → ℕ → Result Flow AllocError → List (List ℕ) → List (List ℕ) → State → State → Type 0
Begins message name steps result before tests old new =
    IfOk result (opened_by (value_of old.vars name) name steps before tests (after_message message old) new)
