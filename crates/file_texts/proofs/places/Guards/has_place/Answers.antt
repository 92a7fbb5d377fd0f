use Rattle.file_texts.proofs.Keyed.{guarded_missing}
use Rattle.file_texts.proofs.places.Guards.has_place.Goals as goal

pub returns-else-has_key : goal.returns-else-has_key
returns-else-has_key c = guarded_missing _ _ _ _ _ _ c.self.view_is c.self.invariant.1 c.requires c.has_key.ensures c.if-has_key.false
