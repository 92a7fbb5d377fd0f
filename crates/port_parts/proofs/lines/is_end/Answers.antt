use Rattle.port_parts.specs.Places as specs
use Rattle.port_parts.proofs.lines.is_end.Goals as goal

pub returns-then-keeps_newline : goal.returns-then-keeps_newline
returns-then-keeps_newline c = λ is. specs.EndsComment.kept (c.keeps_newline.ensures is)

pub returns-then-line-eq0 : goal.returns-then-line-eq0
returns-then-line-eq0 c = λ is. specs.EndsComment.first (c.adds_no_comment.ensures is)
