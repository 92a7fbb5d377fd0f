-- A test as data.
use Rattle.std.specs.Prelude.{ℕ, List}
use Rattle.test_forms.specs.declared.form.TryForm.{TryForm}
use Rattle.test_forms.specs.declared.form.Says.{Says}
use Rattle.test_forms.specs.declared.form.Gives.{Gives}

-- A test: what it looks for; what its cached name has after `ac_cv_`, with any bytes; what is printed after `checking `; its
-- tries, in order; the value if no try ends the test; which values say that it is found; and what it does with its value. (own)
pub record TestForm : Type 0 where
  pub entry : List ℕ
  pub key : List ℕ
  pub message : List ℕ
  pub tries : List TryForm
  pub otherwise : List ℕ
  pub says : Says
  pub gives : Gives
