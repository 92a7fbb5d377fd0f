use Rattle.file_texts.proofs.Keyed.{name_missing}
use Rattle.file_texts.proofs.places.Guards.has_name.Goals as goal

pub returns-else-has_key : goal.returns-else-has_key
returns-else-has_key c = name_missing _ _ _ _ _ c.self.view_is c.self.invariant.0 c.has_key.ensures c.if-has_key.false
