use Rattle.std.proofs.Common.{◌<◌, None, length, ◌∙◌, arith}
use Rattle.std.proofs.lemmas.List.{get_or_default}
use Rattle.crew.proofs.Holding.{ends_in}
use Rattle.crew.proofs.table.SlotTable.end.Goals as goal

pub returns-clause-end : goal.returns-clause-end
returns-clause-end g c =
    let children = c.self.inside.children.items in
    let child = c.index_mut.result.now in
    let within : c.args.slot < length children = omega (arith, c.requires.slot, c.self.invariant, c.self.inside.children.ok.0) in
    let at = c.index_mut.ensures.value ∙ get_or_default children c.args.slot child None within in
    ends_in _ children c.self.inside.last _ c.self.inside.causes _ c.args.slot child _ _ c.self.view_is at c.end_told.ensures.left c.end_told.ensures.end c.end_told.ensures.told
