use Rattle.engine_frame.proofs.Caches.{is_cache}
use Rattle.engine_frame.proofs.artifacts.saved_text.Goals as goal

pub returns-clause-saved : goal.returns-clause-saved
returns-clause-saved c = is_cache _ _ c.cache_text.ensures.sound c.cache_text.ensures.exact c.cache_text.ensures.reads_back
