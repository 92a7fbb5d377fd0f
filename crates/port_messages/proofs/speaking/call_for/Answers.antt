use Rattle.std.proofs.Common.{map}
use Rattle.port_put.specs.Calls.{IsPut}
use Rattle.port_messages.specs.Told as specs
use Rattle.port_messages.proofs.Telling.{of_some}
use Rattle.port_messages.proofs.speaking.call_for.Goals as goal

pub returns-in-Some : goal.returns-in-Some
returns-in-Some c =
    let args = map (λ a. a.now) c.args.args.now in
    specs.Becomes.spoken c.args.name.now args c.args.said.now c.in-Some.put.items c.requires
    (of_some (λ v. IsPut c.args.name.now args v.items) c.in_ok-put.field-0 c.in-Some.put c.in-Some.is c.in_ok-put.ensures)
