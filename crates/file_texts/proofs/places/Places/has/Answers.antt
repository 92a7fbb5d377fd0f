use Rattle.file_texts.proofs.Keyed.{place_missing}
use Rattle.file_texts.proofs.places.Places.has.Goals as goal

pub returns-else-has_key : goal.returns-else-has_key
returns-else-has_key c = place_missing _ _ _ _ _ _ c.self.view_is c.self.invariant c.requires c.has_key.ensures c.if-has_key.false
