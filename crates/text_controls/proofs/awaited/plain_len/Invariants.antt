use Rattle.std.proofs.Common.{◌≡◌, take}
use Rattle.text_controls.specs.Form.{awaited_after}
use Rattle.text_controls.proofs.Plain.{IsPlain}
use Rattle.text_controls.proofs.awaited.plain_len.Given as goal

abbrev pub invariant-loop-i : goal.invariant-loop-i
invariant-loop-i l = (l.lacking ≡ awaited_after l.fn.awaited (take l.i l.text)) × IsPlain l.fn.awaited l.text l.i
