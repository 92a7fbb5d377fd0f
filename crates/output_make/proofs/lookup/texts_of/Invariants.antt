use Rattle.std.proofs.Common.{◌≡◌, ℕ, List, drop}
use Rattle.deftable.specs.Table.{value_of}
use Rattle.output_make.specs.Lookup.{found_in}
use Rattle.output_make.proofs.lookup.texts_of.Given as goal

abbrev pub invariant-templates : goal.invariant-templates
invariant-templates l = (q : List ℕ) → found_in (λ t. t.now) l.texts.entries q ≡ value_of (drop l.i l.given) q
