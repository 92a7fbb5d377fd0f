use Rattle.std.proofs.lemmas.List.Elements.{All-nil}
use Rattle.file_texts.specs.Lines.{none}
use Rattle.file_texts.proofs.Puts.{begun}
use Rattle.file_texts.proofs.receiver.FileOutputs.new.Goals as goal

pub invariant_of-result : goal.invariant_of-result
invariant_of-result g c =
    rw (c.new.ensures, c.new-2.ensures, c.new-3.ensures.items, c.new-4.ensures.items) (none, All-nil _, λ _. begun _ c.requires)
