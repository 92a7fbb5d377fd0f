-- Lists of slices, seen as lists of texts.
use Rattle.std.proofs.lemmas.List.{length-map}
use Rattle.std.proofs.lemmas.List.Folds.{list_all-map}

pub ruleset mapped_and_counted = (list_all-map, length-map)
