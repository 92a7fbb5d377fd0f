use Rattle.std.proofs.Common.{refl, ◌∙◌}
use Rattle.crew_progress.proofs.Cutting.{line_is}
use Rattle.crew_progress.proofs.line.line_of.Goals as goal

pub returns : goal.returns
returns c =
    let first = c.put.ensures _ c.empty-screen.ensures in
    let second = c.put-2.ensures _ first in
    let third = c.put-3.ensures _ second in
    let fourth = c.put-4.ensures _ third in
    let fifth = c.put-5.ensures _ fourth in
    line_is _ _ _ _ _ _ _ _ _ _ (c.as_bytes.ensures.value ∙ c.format.ensures.text) refl (c.as_bytes-2.ensures.value ∙ c.format-2.ensures.text) refl c.as_slice.ensures.value fifth
