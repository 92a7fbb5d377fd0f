use Rattle.std.proofs.Common.{sym, ◌∙◌}
use Rattle.ac_resumable.proofs.Reading.{text_parts}
use Rattle.ac_resumable.proofs.reads.reads_text.Goals as goal

pub returns : goal.returns
returns c = c.reads_parts.ensures ∙ sym (text_parts c.args.tested.now c.args.text.now)
