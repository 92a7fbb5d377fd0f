-- Where a text has another one first.
use Rattle.std.proofs.Common.{◌≡◌, ℕ, List, Option}
use Rattle.memchr.specs.Find.{FindsNeedle}
use Rattle.memchr.proofs.lemmas.ValueLemmas.{FindsNeedle-value}
use Rattle.lint_templates.specs.Unlisted.{first_place}

pub first_is : (text sought : List ℕ) (r : Option ℕ) → FindsNeedle text sought 0 r → r ≡ first_place text sought
first_is text sought r found = FindsNeedle-value text sought r found
