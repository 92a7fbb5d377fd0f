-- Tries with one library each.
use Rattle.std.specs.Prelude.{ℕ, true, List, ◌++◌, codes}
use Rattle.test_forms.specs.declared.form.Snippet.TheVariants.{Library}
use Rattle.test_forms.specs.declared.form.TryForm.{TryForm}

-- A function is linked with a library; the value is the option that names it. (Autoconf's manual, "Library Files")
abbrev pub linked_try : List ℕ → TryForm
linked_try library = record { snippet = Library library; ends_on = true; value = codes "-l" ++ library }
