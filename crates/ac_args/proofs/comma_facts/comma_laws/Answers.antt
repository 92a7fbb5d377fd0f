use Rattle.ac_args.proofs.PartsLaws.{parts_sound, parts_complete}
use Rattle.ac_args.proofs.comma_facts.comma_laws.Goals as goal

pub returns : goal.returns
returns c = record { parts = λ text parts. (parts_sound text parts, parts_complete text parts) }
