-- Files and headers to be made, and their names.
use Rattle.std.specs.Prelude.{◌≡◌, ℕ, Bool, List, ◌++◌, map, IsTrue}
use Rattle.std.specs.List.{AllByRecursion}
use Rattle.deftable.specs.NameList.{has_name, AreDistinct}
use Rattle.output_list.specs.declared.output.Output.{Output}
use Rattle.output_list.specs.Path.{is_path}

-- The names of outputs, in order. (own)
abbrev pub output_names : List Output → List (List ℕ)
output_names outputs = map (λ o. o.name) outputs

-- An output of the list has this name. (own)
unfoldable pub has_output : List Output → List ℕ → Bool
has_output outputs name = has_name (output_names outputs) name

-- The name and the template of the output are paths. (own)
abbrev pub IsOutput : Output → Type 0
IsOutput o = IsTrue (is_path o.name) × IsTrue (is_path o.template)

-- Files and headers that one run can make: their names and templates are paths, and no name occurs twice. Files and
-- headers share their names. (own)
pub record AreOutputs (files headers : List Output) : Type 0 where
  pub file_paths : AllByRecursion IsOutput files
  pub header_paths : AllByRecursion IsOutput headers
  pub names : AreDistinct (output_names files ++ output_names headers)
