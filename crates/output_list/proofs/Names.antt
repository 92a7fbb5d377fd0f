-- The name of an output among those of a list.
use Rattle.std.proofs.Common.{◌≡◌, ℕ, List, [], ◌∷◌, ◌||◌, refl, ap}
use Rattle.std.specs.Prelude.{bytes_eq}
use Rattle.std.specs.List.{list_any}
use Rattle.std.proofs.lemmas.List.Folds.{list_all-map}
use Rattle.deftable.specs.NameList.{has_name}
use Rattle.output_list.specs.declared.output.Output.{Output}
use Rattle.output_list.specs.Output.{output_names, has_output}

pub ruleset mapped = (list_all-map)

pub has_output-any : (os : List Output) (k : List ℕ) → has_output os k ≡ list_any (λ o. bytes_eq k o.name) os
unfolding has_output has_name
has_output-any [] k = refl
has_output-any (o ∷ os) k = ap (λ b. bytes_eq k o.name || b) (has_output-any os k)

pub ruleset named = (has_output-any)
