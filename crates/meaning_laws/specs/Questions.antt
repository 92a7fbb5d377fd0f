-- Laws of questions that test: what the answer is.
use Rattle.std.specs.Prelude.{◌≡◌, ℕ, List, Option, Some, codes, if◌then◌else◌}
use Rattle.deftable.specs.Table.{value_of}
use Rattle.meaning.specs.State.{State, Scope, answered, How, Goes_on, Completed, Run, Ends, as_is}
use Rattle.test_forms.specs.declared.form.Says.{Says}
use Rattle.test_forms.specs.declared.form.Says.TheVariants.{Yes, AllButNo}
use Rattle.test_forms.specs.Form.{TestForm}
use Rattle.meaning.specs.Forms.{FormTest, form_name, form_used, says_found}
use Rattle.meaning.specs.Rows.{Formed, row_of}
use Rattle.meaning.specs.Meaning.{found_by}
use Rattle.meaning_laws.specs.Ends.{AtEnds}
use Rattle.meaning_laws.specs.Cached.{with_cached}

-- What a question is asked with here: the run continues if the answer is yes, and completes if it is no. (own)
abbrev pub yes_or_no : Scope → State → Run
yes_or_no scope st = Ends (if scope.answer then Goes_on else Completed) st

-- The value of a test says that it has found what it looks for: it is `yes`, or it is set and is not `no`, by what the form
-- asks. (Autoconf's manual, "Caching Results" and "Library Files")
abbrev pub SaysFound : Says → Option (List ℕ) → Type 0
SaysFound Yes value = value ≡ Some (codes "yes")
SaysFound AllButNo value = (text : List ℕ) × ((value ≡ Some text) × (text ≡ codes "no" → ⊥))

-- If the answer is yes, the value of the test says that it has found what it looks for. If the answer is no, it doesn't.
-- (own)
pub record IsAnswer (form : TestForm) (how : How) (now : State) : Type 0 where
  pub yes : how ≡ Goes_on → SaysFound form.says (value_of now.vars (form_name form))
  pub no : how ≡ Completed → SaysFound form.says (value_of now.vars (form_name form)) → ⊥

-- The question of a test is answered by the value that its name has when the test is over. (Autoconf's manual, "Existing
-- Tests" and "Library Files")
abbrev pub FoundByValue : Type 0
FoundByValue = (t : FormTest) (st : State) → AtEnds (λ how now. IsAnswer t.form how now) (found_by as_is t st yes_or_no)

-- If the name is set, the question asks for nothing: it prints the value, does with it what the test does, and continues
-- with yes if it says that the test has found what it looks for, and with no if it doesn't. A change for runs that end in
-- the question changes nothing then. (Autoconf's manual, "Caching Results" and "Library Files")
abbrev pub FoundByCached : Type 0
FoundByCached = (early : How → State → State) (t : FormTest) (value : List ℕ) (st : State) (go : Scope → State → Run)
    → ((now : State) → early Goes_on now ≡ now) → value_of st.vars (form_name t.form) ≡ Some value
    → found_by early t st go
    ≡ go (answered (says_found t.form.says (Some value))) (form_used t.form (Some value) (with_cached (row_of (Formed t) st).test value st))
