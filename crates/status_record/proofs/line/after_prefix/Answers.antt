use Rattle.std.proofs.lemmas.Slice.Eq.{strip_prefix_is}
use Rattle.std.proofs.lemmas.Bool.Decides.{Decides-eqb}
use Rattle.status_record.proofs.Lines.{after_prefix-strip}
use Rattle.status_record.proofs.line.after_prefix.Goals as goal

pub returns : goal.returns
returns c = after_prefix-strip _ _ _ (strip_prefix_is Decides-eqb _ _ _ c.strip_prefix.ensures.cases)
