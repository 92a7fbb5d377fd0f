use Rattle.std.proofs.Common.{◌∙◌}
use Rattle.crew_journal.proofs.pen.Pen.put.Goals as goal

pub returns : goal.returns
returns g c = λ first before records h. c.put_text.ensures.put first before records c.args.answer.now (c.as_slice.ensures.value ∙ c.in-Ok.ensures.text) c.in-Ok.ensures.digest h
